-- The trees of "any fact of a mask" and of "every fact of a mask".
use Rattle.std.proofs.Common.{◌≡◌, ℕ, zero, suc, ◌+◌, ◌/◌, ◌%◌, ◌^◌, ◌<◌, Bool, true, false, cond, not, eqb, sym, refl, ap, ◌∙◌, subst, ap₂, inl, inr, add-one, arith}
use lib.Bits.{bit_and, and_step, and_zero_l}
use Rattle.std.proofs.lemmas.Nat.{shr-shr}
use Rattle.std.proofs.lemmas.Bool.{cases_Bool, cases_eq, cond-true, cond-false, eq-eqb, ne_eqb, eqb-true, eqb-false}
use Rattle.effects.specs.Tables.{bit}
use Rattle.tape.specs.Requests.{any, all}
use Rattle.diagram.specs.Requests.{present}
use Rattle.diagram.specs.Tree.{Tree, at, says, Neat, rung, ladder}
use Rattle.diagram.specs.Tree.Tree.{terminal}
use Rattle.diagram.specs.Counted.{Same}
use Rattle.diagram.proofs.Applied.{mk_neat, neat_less, at_mk}
use Rattle.diagram.proofs.Requests.{pow_two}

-- a fact of the mask, and one that is not
pub ladder_in : (every : Bool) (mask m k : ℕ) → present mask k ≡ true → ladder every mask (suc m) k ≡ rung every k (ladder every mask m (suc k))
unfolding ladder
ladder_in every mask m k e = cond-true (present mask k) (rung every k (ladder every mask m (suc k))) (ladder every mask m (suc k)) e

pub ladder_out : (every : Bool) (mask m k : ℕ) → present mask k ≡ false → ladder every mask (suc m) k ≡ ladder every mask m (suc k)
unfolding ladder
ladder_out every mask m k e = cond-false (present mask k) (rung every k (ladder every mask m (suc k))) (ladder every mask m (suc k)) e

pub ladder_end : (every : Bool) (mask k : ℕ) → ladder every mask 0 k ≡ terminal (cond every 1 0)
unfolding ladder
ladder_end every mask k = refl

rung_neat : (every : Bool) (n k : ℕ) (t : Tree) → k < n → Neat n (suc k) t → Neat n k (rung every k t)
rung_neat true n k t h w = mk_neat n k (terminal 0) t h tt w
rung_neat false n k t h w = mk_neat n k t (terminal 1) h w tt

pub ladder_neat : (every : Bool) (mask n m k : ℕ) → n ≡ k + m → Neat n k (ladder every mask m k)
ladder_neat every mask n zero k e = subst (Neat n k) (sym (ladder_end every mask k)) tt
ladder_neat every mask n (suc m) k e =
    let w : Neat n (suc k) (ladder every mask m (suc k)) = ladder_neat every mask n m (suc k) (omega arith) in
    elim (cases_Bool (present mask k)) [
      | inl p ↦ subst (Neat n k) (sym (ladder_in every mask m k p)) (rung_neat every n k _ (omega arith) w)
      | inr p ↦ subst (Neat n k) (sym (ladder_out every mask m k p)) (neat_less n k (suc k) _ (omega arith) w)
    ]

half : (x k : ℕ) → x / 2 ^ suc k ≡ x / 2 ^ k / 2
half x k = ap (λ j. x / 2 ^ j) (sym (add-one k)) ∙ sym (shr-shr x k 1)

same_test : (a b c d : ℕ) → (a ≡ b → c ≡ d) → (c ≡ d → a ≡ b) → eqb a b ≡ eqb c d
same_test a b c d f g = elim (cases_eq c d) [
  | inl e ↦ eq-eqb a b (g e) ∙ sym (eq-eqb c d e)
  | inr n ↦ ne_eqb a b (λ e. n (f e)) ∙ sym (ne_eqb c d n)
]

-- what the ladder from fact k on says, by the bits from k on of the mask and the request
abbrev Says : Bool → ℕ → ℕ → ℕ
Says true a b = bit (eqb (bit_and a b) a)
Says false a b = bit (not (eqb (bit_and a b) 0))

-- the lowest bit counts for nothing where the mask lacks it, or where both have it and all count
says_skip : (every : Bool) (a b : ℕ) → a % 2 ≡ 0 → Says every (a / 2) (b / 2) ≡ Says every a b
says_skip true a b h = ap bit (same_test (bit_and (a / 2) (b / 2)) (a / 2) (bit_and a b) a (λ e. omega (arith, and_step a b)) (λ e. omega (arith, and_step a b)))
says_skip false a b h = ap (λ x. bit (not x)) (same_test (bit_and (a / 2) (b / 2)) 0 (bit_and a b) 0 (λ e. omega (arith, and_step a b)) (λ e. omega (arith, and_step a b)))

says_rung : (every : Bool) (a b k : ℕ) (t : Tree) (p : ℕ → Bool) → a % 2 ≡ 1 → p k ≡ eqb (b % 2) 1 → at t p ≡ Says every (a / 2) (b / 2) → at (rung every k t) p ≡ Says every a b
says_rung true a b k t p h e i = at_mk k (terminal 0) t p ∙ elim (cases_Bool (p k)) [
  | inl q ↦
      let o : b % 2 ≡ 1 = eqb-true (b % 2) 1 (sym e ∙ q) in
      cond-true (p k) (at t p) 0 q ∙ i ∙ ap bit (same_test (bit_and (a / 2) (b / 2)) (a / 2) (bit_and a b) a (λ x. omega (arith, and_step a b)) (λ x. omega (arith, and_step a b)))
  | inr q ↦
      let o : b % 2 ≡ 1 → ⊥ = eqb-false (b % 2) 1 (sym e ∙ q) in
      let z : eqb (bit_and a b) a ≡ false = ne_eqb (bit_and a b) a (λ x. omega (arith, and_step a b)) in
      cond-false (p k) (at t p) 0 q ∙ sym (ap bit z)
]
says_rung false a b k t p h e i = at_mk k t (terminal 1) p ∙ elim (cases_Bool (p k)) [
  | inl q ↦
      let o : b % 2 ≡ 1 = eqb-true (b % 2) 1 (sym e ∙ q) in
      let z : eqb (bit_and a b) 0 ≡ false = ne_eqb (bit_and a b) 0 (λ x. omega (arith, and_step a b)) in
      cond-true (p k) 1 (at t p) q ∙ sym (ap (λ x. bit (not x)) z)
  | inr q ↦
      let o : b % 2 ≡ 1 → ⊥ = eqb-false (b % 2) 1 (sym e ∙ q) in
      cond-false (p k) 1 (at t p) q ∙ i ∙ ap (λ x. bit (not x)) (same_test (bit_and (a / 2) (b / 2)) 0 (bit_and a b) 0 (λ x. omega (arith, and_step a b)) (λ x. omega (arith, and_step a b)))
]

says_none : (every : Bool) (b : ℕ) → cond every 1 0 ≡ Says every 0 b
says_none true b = sym (ap bit (eq-eqb (bit_and 0 b) 0 (and_zero_l b)))
says_none false b = sym (ap (λ x. bit (not x)) (eq-eqb (bit_and 0 b) 0 (and_zero_l b)))

ladder_at : (every : Bool) (mask r m k : ℕ) → mask / 2 ^ k < 2 ^ m → at (ladder every mask m k) (present r) ≡ Says every (mask / 2 ^ k) (r / 2 ^ k)
ladder_at every mask r zero k h =
    let z : mask / 2 ^ k ≡ 0 = omega arith in
    ap (λ t. at t (present r)) (ladder_end every mask k) ∙ says_none every (r / 2 ^ k) ∙ ap (λ a. Says every a (r / 2 ^ k)) (sym z)
ladder_at every mask r (suc m) k h =
    let a : ℕ = mask / 2 ^ k in
    let b : ℕ = r / 2 ^ k in
    let i : at (ladder every mask m (suc k)) (present r) ≡ Says every (a / 2) (b / 2) =
    ladder_at every mask r m (suc k) (omega (arith, half mask k, pow_two m)) ∙ ap₂ (Says every) (half mask k) (half r k) in
    elim (cases_Bool (present mask k)) [
      | inl p ↦ ap (λ t. at t (present r)) (ladder_in every mask m k p) ∙ says_rung every a b k _ (present r) (eqb-true (a % 2) 1 p) refl i
      | inr p ↦
          let o : a % 2 ≡ 1 → ⊥ = eqb-false (a % 2) 1 p in
          ap (λ t. at t (present r)) (ladder_out every mask m k p) ∙ i ∙ says_skip every a b (omega arith)
    ]

-- over all facts of the mask
pub ladder_any : (n mask : ℕ) → mask < 2 ^ n → Same n (says (ladder false mask n 0)) (λ r. bit (any mask r))
ladder_any n mask h r _ = ladder_at false mask r n 0 (omega arith) ∙ ap₂ (Says false) (omega arith) (omega arith)

pub ladder_all : (n mask : ℕ) → mask < 2 ^ n → Same n (says (ladder true mask n 0)) (λ r. bit (all mask r))
ladder_all n mask h r _ = ladder_at true mask r n 0 (omega arith) ∙ ap₂ (Says true) (omega arith) (omega arith)
