-- A moment of a run: what holds of all filed policies of a shelf that stands at a catalogue.
use Rattle.std.proofs.Common.{◌≡◌, ℕ, ◌^◌, ◌<◌, ◌≤◌, List, [], ◌∷◌, ◌++◌, Ok, Result, sym, ap, ◌∙◌, subst, arith, pow_mono}
use Rattle.std.proofs.lemmas.Bool.{lt-leb, cond-false}
use Rattle.effects.specs.Effects.{Effects, Questions, Lawful as LawfulEffects}
use Rattle.effects.specs.Codes.{Codes, QuestionCodes, codes, question_codes}
use Rattle.tape.specs.Tape.{result, first_of}
use Rattle.tape.specs.declared.refusal.Refusal.{Refusal}
use Rattle.diagram.specs.Requests.{Witness}
use Rattle.diagram.specs.Stores.{Means, meaning}
use Rattle.diagram.proofs.Recording.{one_code}
use Rattle.shelf.specs.Catalogue.{Catalogue, facts, policies, row_of}
use Rattle.shelf.specs.Calls.{ask_answer, shape_answer, compare_tests, Outcome, BreaksAt}
use Rattle.shelf.specs.Stands.{Stands, numbering, Moved}
use Rattle.shelf.specs.Law.{effect_at, Alike, Moment, Answered, after, Runs}
use Rattle.shelf.specs.declared.exchange.Call.{Call}
use Rattle.shelf.specs.declared.exchange.Answer.{Answer}
use Rattle.shelf.specs.declared.shelf.Shelf.{Shelf}
use Rattle.shelf.proofs.Asking.{few_facts, policy_keeps, means_row, row_below, asking_is, shaping_is, holding_is, comparing_is}

ask_accepted : (K : Codes) (c : Catalogue) (p r : ℕ) → p < policies c → r < 2 ^ facts c → ask_answer K c p r ≡ Ok (result K (row_of c p) r)
unfolding ask_answer
ask_accepted K c p r hp hr = cond-false _ _ _ (lt-leb (policies c) p hp) ∙ cond-false _ _ _ (lt-leb (2 ^ facts c) r hr)

shape_accepted : (number : ℕ → ℕ) (c : Catalogue) (p : ℕ) → p < policies c → shape_answer number c p ≡ Ok (number p)
unfolding shape_answer
shape_accepted number c p hp = cond-false _ _ _ (lt-leb (policies c) p hp)

compare_accepted : (Q : QuestionCodes) (c : Catalogue) (p q k : ℕ) → p < policies c → q < policies c → k < Q.questions → first_of (compare_tests Q c p q k) (tt {0}) ≡ Ok tt
compare_accepted Q c p q k hp hq hk = cond-false _ _ _ (lt-leb (policies c) p hp) ∙ cond-false _ _ _ (lt-leb (policies c) q hq) ∙ cond-false _ _ _ (lt-leb Q.questions k hk)

module _ {E : Type 0} (M : Effects E) (Q : Questions E) (L : LawfulEffects M) where
  abbrev K : Codes
  K = codes M

  module _ (s : Shelf) (c : Catalogue) (u : Stands (codes M) (question_codes M Q) s c) where
    -- a row's value is the code of the effect
    coded : (p r : ℕ) → p < policies c → M.code (effect_at M Q c p r) ≡ result (codes M) (row_of c p) r
    coded p r h = L.code_effect (result (codes M) (row_of c p) r) (row_below s u p r h)

    means_policy : (p : ℕ) → p < policies c → Means s.store (numbering s p) (λ q. result (codes M) (row_of c p) q)
    means_policy p h = u.filing.roots_mean p (subst (λ n. p < n) u.filing.are h)

    same_effects : (p q : ℕ) → p < policies c → q < policies c → numbering s p ≡ numbering s q → Alike M Q c p q
    same_effects p q hp hq e r hr =
        let w : r < 2 ^ 32 = (let m : 2 ^ facts c ≤ 2 ^ 32 = pow_mono (few_facts s u) in omega arith) in
        ap M.effect (sym (means_row s u p hp r w) ∙ ap (λ n. meaning s.store n r) e ∙ means_row s u q hq r w)

    same_numbers : (p q : ℕ) → p < policies c → q < policies c → Alike M Q c p q → numbering s p ≡ numbering s q
    same_numbers p q hp hq a =
        one_code s.store (facts c) _ _ _ _ (few_facts s u) (policy_keeps s u p hp) (policy_keeps s u q hq) (means_policy p hp) (means_policy q hq)
        (λ r hr. sym (coded p r hp) ∙ ap M.code (a r hr) ∙ coded q r hq)

    pub moment : Moment M Q s c
    moment = record {
      holds = holding_is s u;
      asks = λ p r hp hr. asking_is s u p r ∙ ask_accepted (codes M) c p r hp hr ∙ ap Ok (sym (coded p r hp));
      shaped = λ p hp. shaping_is s u p ∙ shape_accepted (numbering s) c p hp;
      shapes = λ p q hp hq. (same_effects p q hp hq, same_numbers p q hp hq);
      compares = λ p q k a hp hq hk w. subst (λ (v : Result (Unit {0}) Refusal). Outcome v (Witness (facts c) (BreaksAt (codes M) (question_codes M Q) c p q k)) a) (compare_accepted (question_codes M Q) c p q k hp hq hk) (comparing_is s u p q k a w);
    }

  -- a run with one call more
  pub one_more : {s₀ : Shelf} {c₀ : Catalogue} {calls calls' : List Call} {answers answers' : List Answer} (s t : Shelf) (c : Catalogue) (x : Call) (a : Answer) → Runs M Q s₀ c₀ calls answers s c → Answered (codes M) (question_codes M Q) (numbering s) c x a → Moved (codes M) (question_codes M Q) s t c (after (codes M) c x) → calls' ≡ calls ++ x ∷ [] → answers' ≡ answers ++ a ∷ [] → Runs M Q s₀ c₀ calls' answers' t (after (codes M) c x)
  one_more {s₀ = s₀} {c₀ = c₀} {calls = calls} {answers = answers} {answers' = answers'} s t c x a r an m ec ea =
      subst (λ (xs : List Call). Runs M Q s₀ c₀ xs answers' t (after (codes M) c x)) (sym ec)
      (subst (λ (ys : List Answer). Runs M Q s₀ c₀ (calls ++ x ∷ []) ys t (after (codes M) c x)) (sym ea)
      (Runs.then x a r an m.stay (moment t (after (codes M) c x) m.stands)))
