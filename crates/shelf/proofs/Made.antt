-- A shelf that was just made.
use Rattle.std.proofs.Common.{◌≡◌, ℕ, ◌≤◌, min, [], map, sym, refl, ap, subst, arith}
use Rattle.effects.specs.Codes.{Codes, QuestionCodes}
use Rattle.effects.specs.declared.tables.EffectTables.{EffectTables}
use Rattle.effects.specs.declared.tables.QuestionTables.{QuestionTables}
use Rattle.probing.specs.Kinds.{text}
use Rattle.probing.specs.Model.{NameTable, keys, room}
use Rattle.tape.specs.declared.stack.Stack.{Stack}
use Rattle.diagram.specs.Stores.{held as held_by, slots, Recorded}
use Rattle.diagram.specs.declared.store.Store.{Store}
use Rattle.shelf.specs.Catalogue.{at_making, filed_results, all_results}
use Rattle.shelf.specs.States.{no_state}
use Rattle.shelf.specs.Upholds.{Algebra, Storing, Upholds}
use Rattle.shelf.proofs.Rows.{results_none}
use Rattle.shelf.proofs.Upholding.{none_some}

none : (K : Codes) (number many few : ℕ) → all_results K (at_making number many few) ≡ []
unfolding all_results filed_results
none K number many few = results_none K

pub made : (K : Codes) (Q : QuestionCodes) (number many few : ℕ) (names : NameTable) (store : Store) (tables : EffectTables) (questions : QuestionTables) (stack : Stack ℕ) → Algebra K Q tables questions → keys names ≡ [] → room names ≡ min few 32 → min few 32 ≤ 32 → held_by store ≡ 0 → slots store ≡ min many 65520 → Recorded store 0 [] → Upholds K Q names store tables questions stack (no_state number) (at_making number many few)
made K Q number many few names store tables questions stack a k r b h sl R = record {
  algebra = a;
  naming = record { few = subst (λ n. n ≤ 32) (sym r) b; slots_are = sym r; are = ap (map text) (sym k) };
  storing = subst (Storing store (min many 65520) 0) (sym (none K number many few)) (record { slots_are = sym sl; recorded = subst (λ n. Recorded store n []) (sym h) R; keeps = tt });
  filing = record { are = refl; few = omega arith; roots_mean = λ p l. absurd (omega arith); effects_below = λ p q l. absurd (omega arith) };
  number_is = refl;
  given_is = refl;
  drafting_is = refl;
  drafting = λ b e. absurd (none_some e);
}
