use Rattle.std.proofs.Common.{length, vec_items}
use Rattle.std.specs.List.{enumerate_from}
use Rattle.composing.specs.Pieces.{lines_of}
use Rattle.composing.proofs.Lines.{Done}
use Rattle.composing.proofs.texts.compose.Given as goal

abbrev pub invariant-loop-i : goal.invariant-loop-i
invariant-loop-i l =
    (goal.iterator-loop-i).can_next l.i-iterator × (goal.iterator-loop-i).is_finite l.i-iterator
    × Done (enumerate_from 0 (lines_of l.text)) (length l.yielded) (vec_items l.job)
