-- What `array::from_fn` makes of a closure.
use Rattle.std.proofs.Common.{◌≡◌, ℕ, zero, suc, ◌+◌, ◌*◌, ◌/◌, ◌%◌, ◌<◌, ◌≤◌, ◌≢◌, List, get_or, ⊎_elim, subst, sym, arith}
use Rattle.std.proofs.lemmas.Bool.{cases_eq}
use Rattle.std.proofs.lemmas.Nat.{div-mul-add, mod-mul-add}
use Rattle.std.specs.Array.{IsFromFnResultFrom}
use Rattle.std.specs.Fn.{Called}
use Rattle.effects.specs.Cells.{Holds}
use denote.Param.Members.{Mut}

-- what each call says of its index and its result, in a state that J allows and the call keeps, holds of each element
made_by : {F B : Type 0} (g : Mut F (ℕ × Unit {0}) B) (J : F → Type 0) (P : ℕ → B → Type 0) → ((f : F) (k : ℕ) (y : B) (q : F) → J f → Called g f (k, tt) y q → P k y × J q) → (f : F) (ys : List B) (i n : ℕ) → J f → IsFromFnResultFrom g f ys i n → (k : ℕ) (e : B) → i ≤ k → k < i + n → P k (get_or ys k e)
made_by g J P keeps f ys i zero j r k e a b = absurd (omega arith)
made_by g J P keeps f ys i (suc n) j r k e a b =
    let step = keeps f i r.1 r.0 j r.3 in
    ⊎_elim (λ (p : k ≡ i). subst (λ (m : ℕ). P m (get_or ys m e)) (sym p) (subst (P i) (sym (r.2.1 e)) step.0))
    (λ (ne : k ≢ i). let above : i + 1 ≤ k = omega arith in let below : k < i + 1 + n = omega arith in made_by g J P keeps r.0 ys (i + 1) n step.1 r.4 k e above below)
    (cases_eq k i)

-- the same of a table, where the closure takes its row and its column apart
pub holds_by : {F B : Type 0} (g : Mut F (ℕ × Unit {0}) B) (J : F → Type 0) (P : ℕ → ℕ → B → Type 0) → ((f : F) (k : ℕ) (y : B) (q : F) → J f → Called g f (k, tt) y q → P (k / 16) (k % 16) y × J q) → (f : F) (t : List B) → J f → IsFromFnResultFrom g f t 0 256 → Holds P t
holds_by g J P keeps f t j r = record {
  at = λ a b z la lb.
      let made = made_by g J (λ n y. P (n / 16) (n % 16) y) keeps f t 0 256 j r (a * 16 + b) z (omega arith) (omega arith) in
      rw (div-mul-add a 16 b lb, mod-mul-add a 16 b lb) at made;
}
