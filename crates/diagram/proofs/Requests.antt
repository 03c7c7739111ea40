-- The bits of a request.
use Rattle.std.proofs.Common.{◌≡◌, ℕ, zero, suc, ◌+◌, ◌*◌, ◌/◌, ◌%◌, ◌^◌, ◌<◌, ◌≤◌, Bool, true, false, cond, eqb, sym, refl, ap, ◌∙◌, inl, inr, one-add, arith}
use Rattle.std.proofs.lemmas.Nat.{shr-shr}
use Rattle.std.proofs.lemmas.Bool.{cases_Bool, eqb-true, eqb-false, eq-eqb}
use Rattle.diagram.specs.Requests.{present, pack}
use Rattle.diagram.specs.Cofactors.{fixing}
use Rattle.diagram.proofs.Fixing.{fixing_none, fixing_suc, mod_two}
pub use Rattle.diagram.proofs.Fixing.{pow_two, fixing_lt}

pub present_suc : (r f : ℕ) → present r (suc f) ≡ present (r / 2) f
present_suc r f = ap (λ x. eqb (x % 2) 1) (ap (λ k. r / 2 ^ k) (sym (one-add f)) ∙ sym (shr-shr r 1 f))

pub present_zero : (r : ℕ) → present r 0 ≡ eqb (r % 2) 1
present_zero r = ap (λ x. eqb (x % 2) 1) (omega arith)

digit : (b : Bool) → cond b 1 0 < 2
digit true = omega arith
digit false = omega arith

digit_is : (b : Bool) → eqb (cond b 1 0) 1 ≡ b
digit_is true = refl
digit_is false = refl

pub pack_lt : (n : ℕ) (p : ℕ → Bool) → pack n p < 2 ^ n
pack_lt zero p = omega arith
pack_lt (suc n) p = omega (arith, pow_two n, pack_lt n (λ f. p (suc f)), digit (p 0))

pub pack_present : (n : ℕ) (p : ℕ → Bool) (f : ℕ) → f < n → present (pack n p) f ≡ p f
pack_present zero p f h = absurd (omega arith)
pack_present (suc n) p zero h =
    let d : ℕ = cond (p 0) 1 0 in
    let x : ℕ = pack n (λ f. p (suc f)) in
    let e : (d + 2 * x) % 2 ≡ d = omega (arith, digit (p 0)) in
    present_zero (d + 2 * x) ∙ ap (λ y. eqb y 1) e ∙ digit_is (p 0)
pack_present (suc n) p (suc f) h =
    let d : ℕ = cond (p 0) 1 0 in
    let x : ℕ = pack n (λ g. p (suc g)) in
    let e : (d + 2 * x) / 2 ≡ x = omega (arith, digit (p 0)) in
    present_suc (d + 2 * x) f ∙ ap (λ y. present y f) e ∙ pack_present n (λ g. p (suc g)) f (omega arith)

pub fixing_below : (j p r f : ℕ) → f < j → present (fixing j p r) f ≡ present p f
fixing_below zero p r f h = absurd (omega arith)
fixing_below (suc j) p r zero h =
    let e : fixing (suc j) p r % 2 ≡ p % 2 = omega (arith, fixing_suc j p r) in
    present_zero (fixing (suc j) p r) ∙ ap (λ y. eqb y 1) e ∙ sym (present_zero p)
fixing_below (suc j) p r (suc f) h =
    let e : fixing (suc j) p r / 2 ≡ fixing j (p / 2) (r / 2) = omega (arith, fixing_suc j p r) in
    present_suc (fixing (suc j) p r) f ∙ ap (λ y. present y f) e ∙ fixing_below j (p / 2) (r / 2) f (omega arith) ∙ sym (present_suc p f)

pub fixing_from : (j p r f : ℕ) → j ≤ f → present (fixing j p r) f ≡ present r f
fixing_from zero p r f h = ap (λ y. present y f) (fixing_none p r)
fixing_from (suc j) p r zero h = absurd (omega arith)
fixing_from (suc j) p r (suc f) h =
    let e : fixing (suc j) p r / 2 ≡ fixing j (p / 2) (r / 2) = omega (arith, fixing_suc j p r) in
    present_suc (fixing (suc j) p r) f ∙ ap (λ y. present y f) e ∙ fixing_from j (p / 2) (r / 2) f (omega arith) ∙ sym (present_suc r f)

pub zero_present : (f : ℕ) → present 0 f ≡ false
zero_present zero = refl
zero_present (suc f) = present_suc 0 f ∙ zero_present f

pub record AddFact (n f r : ℕ) : Type 0 where
  pub within : r + 2 ^ f < 2 ^ n
  pub here : present (r + 2 ^ f) f ≡ true
  pub there : (g : ℕ) → (g ≡ f → ⊥) → present (r + 2 ^ f) g ≡ present r g

pub add_fact : (n f r : ℕ) → f < n → r < 2 ^ n → present r f ≡ false → AddFact n f r
add_fact zero f r h b e = absurd (omega arith)
add_fact (suc n) zero r h b e =
    let ne : r % 2 ≡ 1 → ⊥ = eqb-false (r % 2) 1 (sym (present_zero r) ∙ e) in
    let e1 : (r + 1) % 2 ≡ 1 = omega arith in
    let e2 : (r + 1) / 2 ≡ r / 2 = omega arith in
    record {
      within = omega (arith, pow_two n);
      here = present_zero (r + 1) ∙ eq-eqb ((r + 1) % 2) 1 e1;
      there = elim [ zero ↦ λ d. absurd (d refl) | suc g ↦ λ d. present_suc (r + 1) g ∙ ap (λ x. present x g) e2 ∙ sym (present_suc r g) ];
    }
add_fact (suc n) (suc f) r h b e =
    let ih = add_fact n f (r / 2) (omega arith) (omega (arith, pow_two n)) (sym (present_suc r f) ∙ e) in
    let e1 : (r + 2 ^ suc f) % 2 ≡ r % 2 = omega (arith, pow_two f) in
    let e2 : (r + 2 ^ suc f) / 2 ≡ r / 2 + 2 ^ f = omega (arith, pow_two f) in
    record {
      within = omega (arith, pow_two n, pow_two f, ih.within);
      here = present_suc (r + 2 ^ suc f) f ∙ ap (λ x. present x f) e2 ∙ ih.here;
      there = elim [
        | zero ↦ λ d. present_zero (r + 2 ^ suc f) ∙ ap (λ x. eqb x 1) e1 ∙ sym (present_zero r)
        | suc g ↦ λ d. present_suc (r + 2 ^ suc f) g ∙ ap (λ x. present x g) e2 ∙ ih.there g (λ q. d (ap suc q)) ∙ sym (present_suc r g)
      ];
    }

-- requests with the same facts are the same
pub facts_one : (n r s : ℕ) → r < 2 ^ n → s < 2 ^ n → ((f : ℕ) → f < n → present r f ≡ present s f) → r ≡ s
facts_one zero r s hr hs e = omega arith
facts_one (suc n) r s hr hs e =
    let eh : r / 2 ≡ s / 2 = facts_one n (r / 2) (s / 2) (omega (arith, pow_two n)) (omega (arith, pow_two n)) (λ f h. sym (present_suc r f) ∙ e (suc f) (omega arith) ∙ present_suc s f) in
    let eb : eqb (r % 2) 1 ≡ eqb (s % 2) 1 = sym (present_zero r) ∙ e 0 (omega arith) ∙ present_zero s in
    elim (cases_Bool (eqb (r % 2) 1)) [
      | inl t ↦ omega (arith, eh, eqb-true (r % 2) 1 t, eqb-true (s % 2) 1 (sym eb ∙ t))
      | inr t ↦ let x : r % 2 ≡ 1 → ⊥ = eqb-false (r % 2) 1 t in let y : s % 2 ≡ 1 → ⊥ = eqb-false (s % 2) 1 (sym eb ∙ t) in omega (arith, eh)
    ]

-- the facts below n of a request that has no others
mod_half : (n f r : ℕ) → f < n → r / 2 ^ f % 2 ≡ r % 2 ^ n / 2 ^ f % 2
mod_half zero f r h = absurd (omega arith)
mod_half (suc n) zero r h = omega (arith, mod_two r n)
mod_half (suc n) (suc f) r h =
    let half : (x : ℕ) → x / 2 ^ suc f ≡ x / 2 / 2 ^ f = λ x. ap (λ k. x / 2 ^ k) (sym (one-add f)) ∙ sym (shr-shr x 1 f) in
    let e : r % 2 ^ suc n / 2 ≡ r / 2 % 2 ^ n = omega (arith, mod_two r n) in
    ap (λ x. x % 2) (half r) ∙ mod_half n f (r / 2) (omega arith) ∙ ap (λ x. x / 2 ^ f % 2) (sym e) ∙ ap (λ x. x % 2) (sym (half (r % 2 ^ suc n)))

pub present_mod : (n f r : ℕ) → f < n → present r f ≡ present (r % 2 ^ n) f
present_mod n f r h = ap (λ x. eqb x 1) (mod_half n f r h)

pub present_beyond : (n f r : ℕ) → r < 2 ^ n → n ≤ f → present r f ≡ false
present_beyond zero f r h l = let z : r ≡ 0 = omega arith in ap (λ x. present x f) z ∙ zero_present f
present_beyond (suc n) zero r h l = absurd (omega arith)
present_beyond (suc n) (suc f) r h l = present_suc r f ∙ present_beyond n f (r / 2) (omega (arith, pow_two n)) (omega arith)
