use Rattle.std.proofs.Common.{vec_items}
use Rattle.composing.proofs.Loading.{Read}
use Rattle.composing.proofs.commands.push_load.Given as goal

abbrev pub invariant-loop-word : goal.invariant-loop-word
invariant-loop-word l = Read l.words l.word-index (vec_items l.initial.job) (vec_items l.job)
