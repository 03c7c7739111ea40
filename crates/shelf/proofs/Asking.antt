-- What the calls that change nothing answer, at the catalogue that a shelf stands at.
use Rattle.std.proofs.Common.{◌≡◌, ℕ, zero, suc, ◌^◌, ◌<◌, ◌≤◌, Bool, true, false, leb, List, [], ◌∷◌, ◌++◌, length, get_or, Ok, Option, Result, sym, refl, ap, ◌∙◌, subst, ap₂, append_assoc, arith, pow_mono}
use mathlib.Core.Path.{fun_ext}
use Rattle.std.specs.List.{flat_map}
use Rattle.std.proofs.lemmas.Bool.{leb-false}
use Rattle.effects.specs.Codes.{Codes, QuestionCodes}
use Rattle.probing.specs.Model.{keys}
use Rattle.tape.specs.Tape.{Row, result, values, first_of}
use Rattle.tape.specs.declared.command.Command.{Command}
use Rattle.tape.specs.declared.refusal.Refusal.{Refusal}
use Rattle.tape.specs.declared.refusal.Refusal.TheVariants.{NoPolicy, NoQuestion, UndeclaredInRequest}
use Rattle.diagram.specs.Counted.{Same, Ignores, Each}
use Rattle.diagram.specs.Questions.{Breaks}
use Rattle.diagram.specs.Requests.{Witness}
use Rattle.diagram.specs.Stores.{meaning}
use Rattle.diagram.proofs.First.{first_facts, first_same}
use Rattle.shelf.specs.Catalogue.{Catalogue, no_policy, facts, policies, row_of, results, results_from, held_results, filed_results, all_results, held}
use Rattle.shelf.specs.Calls.{ask_answer, shape_answer, compare_tests, Outcome, BreaksAt, Compares}
use Rattle.shelf.specs.Stands.{Stands, numbering, asking, shaping, holding, refusing, found_on, Comparing}
use Rattle.shelf.specs.declared.shelf.Shelf.{Shelf}
use Rattle.shelf.proofs.Upholding.{facts_are, few_facts as few, held_is}

-- a row's last result is one of its results, so it keeps to what they keep to
last_keeps : (K : Codes) (n : ℕ) (done : Row) (x : Command) (xs : Row) → Each (Ignores n) (results_from K done (x ∷ xs)) → Ignores n (λ q. result K (done ++ x ∷ xs) q)
last_keeps K n done x [] e = e.0
last_keeps K n done x (y ∷ ys) e = subst (λ (z : Row). Ignores n (λ q. result K z q)) (append_assoc done (x ∷ []) (y ∷ ys)) (last_keeps K n (done ++ x ∷ []) y ys e.1)

row_keeps : (K : Codes) (n : ℕ) (row : Row) → Each (Ignores n) (results K row) → Ignores n (λ q. result K row q)
unfolding results values
row_keeps K n [] e = λ r. refl
row_keeps K n (x ∷ xs) e = last_keeps K n [] x xs e

each_split : {A : Type 0} (P : A → Type 0) (xs ys : List A) → Each P (xs ++ ys) → Each P xs × Each P ys
each_split P [] ys e = (tt, e)
each_split P (x ∷ xs) ys e = let r = each_split P xs ys e.1 in ((e.0, r.0), r.1)

each_joined : {A B : Type 0} (P : B → Type 0) (f : A → List B) (xs : List A) (d : A) (p : ℕ) → p < length xs → Each P (flat_map f xs) → Each P (f (get_or xs p d))
each_joined P f [] d p h e = absurd (omega arith)
each_joined P f (x ∷ xs) d zero h e = (each_split P (f x) (flat_map f xs) e).0
each_joined P f (x ∷ xs) d (suc p) h e = each_joined P f xs d p (omega arith) (each_split P (f x) (flat_map f xs) e).1

-- two lists of two tests with the same outcomes
two_tests : {A : Type 0} (a b c d : Bool) (e f : Refusal) (x y : A) → a ≡ c → b ≡ d → (c ≡ false → d ≡ false → x ≡ y) → first_of ((a, e) ∷ (b, f) ∷ []) x ≡ first_of ((c, e) ∷ (d, f) ∷ []) y
two_tests a b c d e f x y p q r = ap₂ (λ m n. first_of ((m, e) ∷ (n, f) ∷ []) x) p q ∙ by c d r
  where
    by : (c d : Bool) → (c ≡ false → d ≡ false → x ≡ y) → first_of ((c, e) ∷ (d, f) ∷ []) x ≡ first_of ((c, e) ∷ (d, f) ∷ []) y
    by true d r = refl
    by false true r = refl
    by false false r = ap Ok (r refl refl)

module _ {K : Codes} {Q : QuestionCodes} (s : Shelf) {c : Catalogue} (u : Stands K Q s c) where
  pub few_facts : facts c ≤ 32
  few_facts = few u

  -- a filed policy's results are of the declared facts
  pub policy_keeps : (p : ℕ) → p < policies c → Ignores (facts c) (λ q. result K (row_of c p) q)
  unfolding all_results filed_results
  policy_keeps p h = row_keeps K (facts c) (row_of c p) (each_joined (Ignores (facts c)) (held_results K) c.contents.filed no_policy p h (each_split (Ignores (facts c)) (filed_results K c) _ u.storing.keeps).0)

  -- a policy's diagram means what its row says
  pub means_row : (p : ℕ) → p < policies c → Same 32 (meaning s.store (numbering s p)) (λ q. result K (row_of c p) q)
  means_row p h = (u.filing.roots_mean p (subst (λ n. p < n) u.filing.are h)).same

  pub row_below : (p q : ℕ) → p < policies c → result K (row_of c p) q < K.count
  row_below p q h = u.filing.effects_below p q (subst (λ n. p < n) u.filing.are h)

  -- ask
  pub asking_is : (p r : ℕ) → asking s p r ≡ ask_answer K c p r
  unfolding asking ask_answer
  asking_is p r =
      two_tests (leb (length s.state.roots.items) p) (leb (2 ^ length (keys s.names)) r) (leb (policies c) p) (leb (2 ^ facts c) r) NoPolicy UndeclaredInRequest _ _
      (ap (λ n. leb n p) (sym u.filing.are)) (ap (λ n. leb (2 ^ n) r) (sym (facts_are u)))
      (λ a b. means_row p (leb-false (policies c) p a) r (within (leb-false (2 ^ facts c) r b)))
    where
      within : r < 2 ^ facts c → r < 2 ^ 32
      within h = let m : 2 ^ facts c ≤ 2 ^ 32 = pow_mono few_facts in omega arith

  -- shape
  pub shaping_is : (p : ℕ) → shaping s p ≡ shape_answer (numbering s) c p
  unfolding shaping shape_answer
  shaping_is p = ap (λ n. first_of ((leb n p, NoPolicy) ∷ []) (numbering s p)) (sym u.filing.are)

  -- held
  pub holding_is : holding s ≡ held K c
  unfolding holding
  holding_is = held_is u

  -- compare
  breaks_same : (p q k : ℕ) → p < policies c → q < policies c → k < Q.questions → ◌≡◌ {A = ℕ → Type 0} (Breaks (get_or s.questions.breaks k []) (λ r. result K (row_of c p) r) (λ r. result K (row_of c q) r)) (BreaksAt K Q c p q k)
  breaks_same p q k hp hq hk = fun_ext (λ r. ap (λ b. b ≡ true) (u.algebra.questions_are.breaks k _ _ hk (row_below p r hp) (row_below q r hq)))

  pub found_is : (p q k : ℕ) (o : Option ℕ) → p < policies c → q < policies c → k < Q.questions → found_on s p q k o → Witness (facts c) (BreaksAt K Q c p q k) o
  found_is p q k o hp hq hk w =
      subst (λ (P : ℕ → Type 0). Witness (facts c) P o) (breaks_same p q k hp hq hk)
      (first_facts (facts c) 32 few_facts (get_or s.questions.breaks k []) _ _ (policy_keeps p hp) (policy_keeps q hq) o
      (first_same 32 (get_or s.questions.breaks k []) _ _ _ _ (means_row p hp) (means_row q hq) o w))

  refusing_is : (p q k : ℕ) → refusing s p q k ≡ first_of (compare_tests Q c p q k) tt
  refusing_is p q k =
      ap₂ (λ n m. first_of ((leb n p, NoPolicy) ∷ (leb n q, NoPolicy) ∷ (leb m k, NoQuestion) ∷ []) (tt {0})) (sym u.filing.are) u.algebra.questions_are.counted

  pub comparing_is : (p q k : ℕ) (a : Result (Option ℕ) Refusal) → Comparing s p q k a → Compares K Q c p q k a
  unfolding Comparing
  comparing_is p q k a w =
      by (leb (policies c) p) (leb (policies c) q) (leb Q.questions k) refl refl refl (subst (λ (v : Result (Unit {0}) Refusal). Outcome v (found_on s p q k) a) (refusing_is p q k) w)
    where
      by : (x y z : Bool) → leb (policies c) p ≡ x → leb (policies c) q ≡ y → leb Q.questions k ≡ z → Outcome (first_of ((x, NoPolicy) ∷ (y, NoPolicy) ∷ (z, NoQuestion) ∷ []) (tt {0})) (found_on s p q k) a → Outcome (first_of ((x, NoPolicy) ∷ (y, NoPolicy) ∷ (z, NoQuestion) ∷ []) (tt {0})) (Witness (facts c) (BreaksAt K Q c p q k)) a
      by true y z hx hy hz w = w
      by false true z hx hy hz w = w
      by false false true hx hy hz w = w
      by false false false hx hy hz w = (w.0, (w.1.0, found_is p q k w.0 (leb-false (policies c) p hx) (leb-false (policies c) q hy) (leb-false Q.questions k hz) w.1.1))
