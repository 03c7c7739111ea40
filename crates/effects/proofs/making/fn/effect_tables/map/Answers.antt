use Rattle.std.proofs.Common.{rules, arith}
use Rattle.effects.proofs.Cells.{cell_by, small_blank}
use Rattle.effects.proofs.making.fn.effect_tables.map.Goals as goal

pub invariant_of-result : goal.invariant_of-result
invariant_of-result g c = record { small = small_blank }

pub returns : goal.returns
returns g c = λ a b lk la lb.
    let few = g.met.A.EffectAlgebra.lawful.few in
    let e = cell_by c.code_table.ensures a b (omega arith) (omega arith) in
    search rules
