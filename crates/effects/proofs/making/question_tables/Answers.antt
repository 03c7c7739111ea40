use Rattle.std.proofs.Common.{rules, ◌≡◌, ◌<◌, [], ◌∷◌, get_or, ◌∙◌, zero-add, arith}
use Rattle.std.proofs.lemmas.List.FromFn.{get_or-range_with_len}
use Rattle.effects.proofs.making.question_tables.Goals as goal

pub returns : goal.returns
returns g c =
    let few = g.met.A.EffectAlgebra.few in
    record {
      counted = c.question_count.ensures;
      breaks = λ q a b lq la lb.
          let below : q < 8 = omega arith in
          let same : get_or (0 ∷ 1 ∷ 2 ∷ 3 ∷ 4 ∷ 5 ∷ 6 ∷ 7 ∷ []) q 0 ≡ q = get_or-range_with_len 0 8 q 0 below ∙ zero-add q in
          let called = c.map.ensures.items.at q 0 [] below in
          let e = rw same at called in
          search rules;
    }
