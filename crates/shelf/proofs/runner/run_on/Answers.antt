use Rattle.std.proofs.Common.{◌≡◌, ◌+◌, ◌<◌, [], length, get_or, take, drop, sym, refl, ap, ◌∙◌, subst, arith, length-set, drop-drop, rules}
use Rattle.probing.proofs.Places.{drop_set_past}
use Rattle.std.proofs.lemmas.List.{take_more, take_more_set}
use Rattle.effects.specs.Codes.{codes, question_codes}
use Rattle.shelf.specs.Law.{Runs, after}
use Rattle.shelf.specs.declared.exchange.Call.TheVariants.{Declare}
use Rattle.shelf.proofs.Moments.{moment, one_more}
use Rattle.shelf.proofs.runner.run_on.Goals as goal

pub loop-i-init : goal.loop-i-init
loop-i-init g c =
    let M = g.A.EffectAlgebra.effects in
    let Q = g.A.EffectAlgebra.questions in
    (omega arith, omega arith, refl, λ cat u. (cat, (u, Runs.start (moment M Q g.met.A.EffectAlgebra.lawful c.args.shelf.now cat u))))

pub loop-i-preserved : goal.loop-i-preserved
loop-i-preserved g c =
    let M = g.A.EffectAlgebra.effects in
    let Q = g.A.EffectAlgebra.questions in
    let i = c.loop-i.i in
    let x = get_or c.args.calls.now i (Declare (record { len = 0; bytes = [] })) in
    let room : i < length c.loop-i.log = omega arith in
    let more : i < length c.args.calls.now = omega arith in (
      omega arith,
      simp length-set (omega arith),
      drop_set_past c.loop-i.log i (i + 1) c.turn.result (omega arith) ∙ sym (drop-drop 1 i c.loop-i.log) ∙ ap (drop 1) c.loop-i.invariant.2 ∙ drop-drop 1 i c.args.log.now,
      λ cat u.
          let r = c.loop-i.invariant.3 cat u in
          let t = c.turn.ensures.moves (codes M) (question_codes M Q) r.0 r.1.0 in
          (after (codes M) r.0 x, (t.1.stands, one_more M Q g.met.A.EffectAlgebra.lawful c.loop-i.shelf c.turn.new.shelf r.0 x c.turn.result r.1.1 t.0 t.1 (take_more c.args.calls.now i (Declare (record { len = 0; bytes = [] })) more) (take_more_set c.loop-i.log i c.turn.result room))),
    )

pub returns : goal.returns
returns g c =
    let M = g.A.EffectAlgebra.effects in
    let Q = g.A.EffectAlgebra.questions in
    let e : c.loop-i.i ≡ c.min-n.result = omega arith in
    record {
      many = c.min-n.ensures;
      law = λ cat u.
          let r = c.loop-i.invariant.3 cat u in
          (r.0, subst (λ n. Runs M Q c.args.shelf.now cat (take n c.args.calls.now) (take n c.loop-i.log) c.loop-i.shelf r.0) e r.1.1);
      beyond = subst (λ n. drop n c.loop-i.log ≡ drop n c.args.log.now) e c.loop-i.invariant.2;
      blank = search rules;
    }
