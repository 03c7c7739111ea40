use Rattle.std.proofs.Common.{rules, arith, ◌<◌, false}
use Rattle.effects.proofs.making.fn.question_tables.map.Goals as goal

pub returns : goal.returns
returns g c = λ a b lk la lb. let few = g.met.A.EffectAlgebra.lawful.few in let a16 : a < 16 = omega arith in let b16 : b < 16 = omega arith in let e = c.table.ensures.at a b false a16 b16 in search rules
