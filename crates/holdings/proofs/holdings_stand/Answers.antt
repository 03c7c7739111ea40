use Rattle.std.proofs.Common.{◌≡◌, ℕ, Bool, true, not, eqb, Some, None, Ok, refl, ap}
use Rattle.std.proofs.lemmas.Bool.{eqb-true}
use Rattle.effects.specs.Codes.{question_codes}
use Rattle.effects.specs.Four.{four, four_questions}
use Rattle.tape.specs.Tape.{read_answer, tape_from, next_command, checked, ended, kinds, values, result}
use Rattle.diagram.specs.Requests.{Witness}
use Rattle.diagram.specs.Cofactors.{count, distinct}
use Rattle.shelf.specs.Catalogue.{results, filed_results, all_results, held, row_of}
use Rattle.shelf.specs.Calls.{Outcome, declare_answer, loaded, load_answer, after_declare, after_load}
use Rattle.shelf.specs.Law.{Alike}
use Rattle.holdings.specs.Holdings.{K, with_D}
use Rattle.holdings.proofs.Computed.{all_below, each_below, is_first, first_of, none_of}
use Rattle.holdings.proofs.holdings_stand.Goals as goal

pub returns : goal.returns
unfolding read_answer after_declare declare_answer load_answer after_load loaded tape_from next_command checked ended kinds values held all_results filed_results results count distinct
returns c = (refl, (refl, (refl, (refl, (refl, (refl, (refl, (refl, (refl, (refl, (refl, ((λ r. refl), ((λ r. refl), (refl, (refl, (refl, (refl, (alike, (first 0 1 0 1 refl, (first 0 1 1 3 refl, (none 0 1 3 refl, (first 1 0 2 1 refl, tt))))))))))))))))))))))
  where
    breaks : ℕ → ℕ → ℕ → ℕ → Bool
    breaks p q k r = (question_codes four four_questions).breaks k (result K (row_of with_D p) r) (result K (row_of with_D q) r)

    alike : Alike four four_questions with_D 1 2
    alike r h = ap four.effect (eqb-true _ _ (each_below (λ s. eqb (result K (row_of with_D 1) s) (result K (row_of with_D 2) s)) 8 refl r h))

    first : (p q k r : ℕ) → is_first 3 (breaks p q k) r ≡ true → Outcome (Ok tt) (Witness 3 (λ s. breaks p q k s ≡ true)) (Ok (Some r))
    first p q k r e = (Some r, (refl, first_of 3 (breaks p q k) r e))

    none : (p q k : ℕ) → all_below (λ s. not (breaks p q k s)) 8 ≡ true → Outcome (Ok tt) (Witness 3 (λ s. breaks p q k s ≡ true)) (Ok None)
    none p q k e = (None, (refl, none_of 3 (breaks p q k) e))
