-- What ask and compare answer, by the ways through their code.
use Rattle.std.proofs.Common.{◌≡◌, ℕ, ◌^◌, ◌<◌, ◌≤◌, Bool, true, false, leb, [], ◌∷◌, length, Ok, Err, Option, Result, refl, ap, ◌∙◌, arith}
use Rattle.std.proofs.lemmas.Bool.{cond-true, cond-false, le-leb, lt-leb}
use Rattle.probing.specs.Model.{keys}
use Rattle.tape.specs.Tape.{first_of}
use Rattle.tape.specs.declared.refusal.Refusal.{Refusal}
use Rattle.tape.specs.declared.refusal.Refusal.TheVariants.{NoPolicy, NoQuestion, UndeclaredInRequest}
use Rattle.diagram.specs.Stores.{meaning}
use Rattle.shelf.specs.Calls.{Outcome}
use Rattle.shelf.specs.Stands.{numbering, asking, shaping, refusing, found_on, Comparing}
use Rattle.shelf.specs.declared.shelf.Shelf.{Shelf}

-- what the answer of `shape` tells
refused_by : (b : Bool) (n : ℕ) (e : Refusal) → ◌≡◌ {A = Result ℕ Refusal} (Err e) (first_of ((b, NoPolicy) ∷ []) n) → (b ≡ true) × (e ≡ NoPolicy)
refused_by true n e p = (refl, cc)
refused_by false n e p = let z : ◌≡◌ {A = ℕ} 0 1 = cc in absurd (omega arith)

passed_by : (b : Bool) (n r : ℕ) → ◌≡◌ {A = Result ℕ Refusal} (Ok r) (first_of ((b, NoPolicy) ∷ []) n) → (b ≡ false) × (r ≡ n)
passed_by true n r p = let z : ◌≡◌ {A = ℕ} 0 1 = cc in absurd (omega arith)
passed_by false n r p = (refl, cc)

module _ (s : Shelf) (p : ℕ) where
  pub no_policy : (e : Refusal) → Err e ≡ shaping s p → (leb (length s.state.roots.items) p ≡ true) × (e ≡ NoPolicy)
  unfolding shaping
  no_policy e h = refused_by (leb (length s.state.roots.items) p) (numbering s p) e h

  pub a_policy : (r : ℕ) → Ok r ≡ shaping s p → (leb (length s.state.roots.items) p ≡ false) × (r ≡ numbering s p)
  unfolding shaping
  a_policy r h = passed_by (leb (length s.state.roots.items) p) (numbering s p) r h

  pub ask_50 : (r : ℕ) → leb (length s.state.roots.items) p ≡ true → asking s p r ≡ Err NoPolicy
  unfolding asking
  ask_50 r h = cond-true _ _ _ h

  pub ask_52 : (r : ℕ) → leb (length s.state.roots.items) p ≡ false → leb (2 ^ length (keys s.names)) r ≡ true → asking s p r ≡ Err UndeclaredInRequest
  unfolding asking
  ask_52 r h k = cond-false _ _ _ h ∙ cond-true _ _ _ k

  pub ask_ok : (r : ℕ) → leb (length s.state.roots.items) p ≡ false → leb (2 ^ length (keys s.names)) r ≡ false → asking s p r ≡ Ok (meaning s.store (numbering s p) r)
  unfolding asking
  ask_ok r h k = cond-false _ _ _ h ∙ cond-false _ _ _ k

module _ (s : Shelf) (p q k : ℕ) where
  told : (v : Result (Unit {0}) Refusal) (e : Refusal) → v ≡ Err e → Outcome v (found_on s p q k) (Err e)
  told (Ok _) e h = let z : ◌≡◌ {A = ℕ} 0 1 = cc in absurd (omega arith)
  told (Err f) e h = ap (λ x. Err x) (same f e h)
    where
      same : (f e : Refusal) → ◌≡◌ {A = Result (Unit {0}) Refusal} (Err f) (Err e) → e ≡ f
      same f e h = cc

  pub compare_first : leb (length s.state.roots.items) p ≡ true → Comparing s p q k (Err NoPolicy)
  unfolding Comparing
  compare_first h = told (refusing s p q k) NoPolicy (cond-true _ _ _ h)

  pub compare_second : leb (length s.state.roots.items) p ≡ false → leb (length s.state.roots.items) q ≡ true → Comparing s p q k (Err NoPolicy)
  unfolding Comparing
  compare_second h i = told (refusing s p q k) NoPolicy (cond-false _ _ _ h ∙ cond-true _ _ _ i)

  pub compare_question : leb (length s.state.roots.items) p ≡ false → leb (length s.state.roots.items) q ≡ false → s.questions.count ≤ k → Comparing s p q k (Err NoQuestion)
  unfolding Comparing
  compare_question h i j = told (refusing s p q k) NoQuestion (cond-false _ _ _ h ∙ cond-false _ _ _ i ∙ cond-true _ _ _ (le-leb s.questions.count k j))

  pub compare_ok : (o : Option ℕ) → leb (length s.state.roots.items) p ≡ false → leb (length s.state.roots.items) q ≡ false → k < s.questions.count → found_on s p q k o → Comparing s p q k (Ok o)
  unfolding Comparing
  compare_ok o h i j w = by (refusing s p q k) (cond-false _ _ _ h ∙ cond-false _ _ _ i ∙ cond-false _ _ _ (lt-leb s.questions.count k j))
    where
      by : (v : Result (Unit {0}) Refusal) → v ≡ Ok tt → Outcome v (found_on s p q k) (Ok o)
      by (Ok _) e = (o, (refl, w))
      by (Err x) e = let z : ◌≡◌ {A = ℕ} 0 1 = cc in absurd (omega arith)
