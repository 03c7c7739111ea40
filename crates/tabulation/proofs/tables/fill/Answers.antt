use Rattle.std.proofs.Common.{vec_items, refl}
use Rattle.std.proofs.lemmas.Result.{err_from_is_err_and}
use Rattle.effects.specs.Codes.{codes}
use Rattle.effects.proofs.Closing.{closed}
use Rattle.tape.specs.Tape.{read_answer}
use Rattle.tabulation.proofs.Filling.{masks_more, answers_more}
use Rattle.tabulation.proofs.tables.fill.Goals as goal

pub returns-in_err-code : goal.returns-in_err-code
returns-in_err-code g c =
    let M = g.A.EffectAlgebra.effects in
    let told = c.in_err-code.ensures (codes M) (closed M g.met.A.EffectAlgebra.lawful) c.effect_tables-tables.ensures in
    let p = err_from_is_err_and c.from_residual.result c.from_residual.ensures.1 in
    rw (p.1, p.2) (c.loop-mask.mask-index, c.loop-mask-test.true, cc told)

pub loop-mask-preserved : goal.loop-mask-preserved
loop-mask-preserved g c =
    let M = g.A.EffectAlgebra.effects in
    let i = c.args.input.now in
    let ms = c.args.masks.now in
    let k = c.loop-mask.mask-index in
    let lt = c.loop-mask-test.true in
    let items = c.in_ok-push.ensures.items in
    let told = c.in_ok-code.ensures (codes M) (closed M g.met.A.EffectAlgebra.lawful) c.effect_tables-tables.ensures in (
      masks_more (vec_items c.loop-mask.rows) _ _ ms k lt items c.loop-mask.invariant.0 refl,
      answers_more (read_answer (codes M) i.facts i.tape.now) (vec_items c.loop-mask.rows) _ _ ms k lt items c.loop-mask.invariant.1 told,
    )
