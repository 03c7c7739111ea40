use Rattle.std.proofs.Common.{replicate, arith}
use Rattle.effects.proofs.Cells.{small_blank, small_set}
use Rattle.effects.proofs.making.both.Goals as goal

pub invariant_of-result : goal.invariant_of-result
invariant_of-result c = record { small = λ x l. small_set (replicate 256 0) 17 1 x (omega arith) (small_blank x l) }
