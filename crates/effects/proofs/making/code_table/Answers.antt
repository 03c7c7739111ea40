use Rattle.effects.proofs.Cells.{small_by}
use Rattle.effects.proofs.making.code_table.Goals as goal

pub invariant_of-result : goal.invariant_of-result
invariant_of-result g c = record { small = small_by _ (λ a b z la lb. c.requires.codes a b _ la lb (c.table.ensures.at a b z la lb)) }
