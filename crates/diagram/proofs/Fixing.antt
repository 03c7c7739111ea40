-- Requests with some facts fixed.
use Rattle.std.proofs.Common.{◌≡◌, ℕ, zero, suc, ◌+◌, ◌*◌, ◌/◌, ◌%◌, ◌^◌, ◌<◌, ◌≤◌, sym, ap, ◌∙◌, subst, ap₂, mul_assoc, mul_comm, add-one, one-add, arith, pow_mono}
use native.Mathlib.Nat.{mod-mod}
use Rattle.std.proofs.lemmas.Nat.{shr-shr, mod-pow-add, pow-add, pow_pos, mod_below}
use Rattle.diagram.specs.Cofactors.{fixing}
use Rattle.diagram.specs.Counted.{Same, Ignores}

pub pow_two : (n : ℕ) → 2 ^ suc n ≡ 2 * 2 ^ n
pow_two n = ap (λ k. 2 ^ k) (sym (one-add n)) ∙ pow-add 2 1 n

pub mod_two : (x n : ℕ) → x % 2 ^ suc n ≡ (x / 2 % 2 ^ n) * 2 + x % 2
mod_two x n = ap (λ k. x % 2 ^ k) (sym (add-one n)) ∙ mod-pow-add x n 1

-- no fact fixed, and one more
pub fixing_none : (a r : ℕ) → fixing 0 a r ≡ r
fixing_none a r = omega arith

pub fixing_suc : (j a r : ℕ) → fixing (suc j) a r ≡ 2 * fixing j (a / 2) (r / 2) + a % 2
fixing_suc j a r =
    let e2 : r / 2 ^ suc j ≡ r / 2 / 2 ^ j = ap (λ k. r / 2 ^ k) (sym (one-add j)) ∙ sym (shr-shr r 1 j) in
    let e3 : r / 2 ^ suc j * 2 ^ suc j ≡ (r / 2 / 2 ^ j * 2 ^ j) * 2 =
    ap₂ (λ x y. x * y) e2 (pow_two j ∙ mul_comm 2 (2 ^ j)) ∙ sym (mul_assoc (r / 2 / 2 ^ j) (2 ^ j) 2) in
    omega (arith, mod_two a j, e3)

pub fixing_lt : (n j a r : ℕ) → j ≤ n → r < 2 ^ n → fixing j a r < 2 ^ n
fixing_lt n zero a r h k = subst (λ x. x < 2 ^ n) (sym (fixing_none a r)) k
fixing_lt zero (suc j) a r h k = absurd (omega arith)
fixing_lt (suc n) (suc j) a r h k =
    omega (arith, pow_two n, fixing_suc j a r, fixing_lt n j (a / 2) (r / 2) (omega arith) (omega (arith, pow_two n)))

pub mod_lt : (r n : ℕ) → r % 2 ^ n < 2 ^ n
mod_lt r n = mod_below r (2 ^ n) (pow_pos n)

-- the way of fixing counts only below j
pub fixing_way : (j a r : ℕ) → fixing j (a % 2 ^ j) r ≡ fixing j a r
fixing_way j a r = ap (λ x. r / 2 ^ j * 2 ^ j + x) (mod-mod a (2 ^ j))

-- facts n and above of a request with fewer facts fixed are its own
pub fixing_mod : (n j a r : ℕ) → j ≤ n → fixing j a r % 2 ^ n ≡ fixing j a (r % 2 ^ n)
fixing_mod n zero a r h = ap (λ x. x % 2 ^ n) (fixing_none a r) ∙ sym (fixing_none a (r % 2 ^ n))
fixing_mod zero (suc j) a r h = absurd (omega arith)
fixing_mod (suc n) (suc j) a r h =
    let X : ℕ = fixing j (a / 2) (r / 2) in
    let e : fixing (suc j) a r / 2 % 2 ^ n ≡ X % 2 ^ n = ap (λ x. x % 2 ^ n) (omega (arith, fixing_suc j a r)) in
    let f : r % 2 ^ suc n / 2 ≡ r / 2 % 2 ^ n = omega (arith, mod_two r n) in
    let g : X % 2 ^ n ≡ fixing j (a / 2) (r % 2 ^ suc n / 2) = fixing_mod n j (a / 2) (r / 2) (omega arith) ∙ ap (fixing j (a / 2)) (sym f) in
    omega (arith, mod_two (fixing (suc j) a r) n, fixing_suc j a r, fixing_suc j a (r % 2 ^ suc n), e, g)

-- and of one with more fixed there is nothing left
pub fixing_over : (n j a r : ℕ) → n ≤ j → fixing j a r % 2 ^ n ≡ a % 2 ^ n
fixing_over zero j a r h = omega arith
fixing_over (suc n) zero a r h = absurd (omega arith)
fixing_over (suc n) (suc j) a r h =
    let e : fixing (suc j) a r / 2 % 2 ^ n ≡ fixing j (a / 2) (r / 2) % 2 ^ n = ap (λ x. x % 2 ^ n) (omega (arith, fixing_suc j a r)) in
    omega (arith, mod_two (fixing (suc j) a r) n, mod_two a n, fixing_suc j a r, e, fixing_over n j (a / 2) (r / 2) (omega arith))

pub mod_mod_pow : (n m r : ℕ) → n ≤ m → r % 2 ^ m % 2 ^ n ≡ r % 2 ^ n
mod_mod_pow zero m r h = omega arith
mod_mod_pow (suc n) zero r h = absurd (omega arith)
mod_mod_pow (suc n) (suc m) r h =
    let e : r % 2 ^ suc m / 2 % 2 ^ n ≡ r / 2 % 2 ^ m % 2 ^ n = ap (λ x. x % 2 ^ n) (omega (arith, mod_two r m)) in
    omega (arith, mod_two (r % 2 ^ suc m) n, mod_two r n, mod_two r m, e, mod_mod_pow n m (r / 2) (omega arith))

-- functions that look at no fact from n on are the same over more facts where they are over n
pub same_more : (n m : ℕ) (F G : ℕ → ℕ) → Ignores n F → Ignores n G → Same n F G → Same m F G
same_more n m F G f g s r h = f r ∙ s (r % 2 ^ n) (mod_lt r n) ∙ sym (g r)

pub same_less : (n m : ℕ) (F G : ℕ → ℕ) → n ≤ m → Same m F G → Same n F G
same_less n m F G l s r h = s r (omega (arith, pow_mono l))
