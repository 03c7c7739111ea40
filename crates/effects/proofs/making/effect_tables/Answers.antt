use Rattle.std.proofs.Common.{rules, ◌≡◌, ◌<◌, false, [], ◌∷◌, ap, ◌∙◌, map, get_or, zero-add, arith}
use Rattle.std.proofs.lemmas.List.FromFn.{get_or-range_with_len}
use Rattle.std.proofs.lemmas.List.{get_or-map}
use Rattle.effects.specs.Cells.{cell}
use Rattle.effects.specs.declared.tables.CodeTable.{CodeTable}
use Rattle.effects.proofs.Cells.{cell_by, negated, both, either}
use Rattle.effects.proofs.making.effect_tables.Goals as goal

pub code_table-requires-clause-codes : goal.code_table-requires-clause-codes
code_table-requires-clause-codes g c =
    let na : c.code-not_applicable.result < 16 = omega (arith, g.met.A.EffectAlgebra.lawful.code_below c.not_applicable.result, g.met.A.EffectAlgebra.lawful.few) in
    search rules

pub returns : goal.returns
returns g c =
    let L = g.met.A.EffectAlgebra.lawful in
    let few = L.few in
    let few_combiners = L.few_combiners in
    record {
      counted = c.count.ensures;
      combiners = c.combiner_count.ensures;
      stated = λ e h. let e16 : e < 16 = omega arith in let called = c.from_fn.ensures.items.at e false e16 in search rules;
      negated = λ a h. ap (λ t. cell t a a) c.negation.ensures ∙ negated a h;
      both = λ a b h k. ap (λ t. cell t a b) c.both.ensures ∙ both a b h k;
      either = λ a b h k. ap (λ t. cell t a b) c.either.ensures ∙ either a b h k;
      scope = λ a b h k. let e = cell_by c.code_table.ensures a b (omega arith) (omega arith) in search rules;
      fail = λ a b h k. let e = cell_by c.code_table-2.ensures a b (omega arith) (omega arith) in search rules;
      combine = λ k a b lk la lb.
          let below : k < 4 = omega arith in
          let same : get_or (0 ∷ 1 ∷ 2 ∷ 3 ∷ []) k 0 ≡ k = get_or-range_with_len 0 4 k 0 below ∙ zero-add k in
          let called = c.map.ensures.items.at k 0 c.code_table.result below in
          let e = rw same at called in
          let cells : get_or (map (λ (table : CodeTable). table.cells) c.map.result) k [] ≡ (get_or c.map.result k c.code_table.result).cells = get_or-map _ c.map.result k c.code_table.result [] (search rules) in
          rw cells (search rules);
    }
