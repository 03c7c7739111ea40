-- The list of requests: how a recursion over the facts lays it out, and that it is in order.
use Rattle.std.proofs.Common.{◌≡◌, ℕ, zero, suc, ◌+◌, ◌-◌, ◌*◌, ◌/◌, ◌%◌, ◌^◌, ◌<◌, ◌≤◌, true, false, eqb, ◌⊎◌, List, [], ◌∷◌, ◌++◌, map, length, get_or, sym, ap, ◌∙◌, subst, inl, inr, ⊎_elim, map-id, mul_assoc, mul-add, one-add, arith, length-append}
use mathlib.Core.Path.{fun_ext}
use mathlib.Core.List.{map-append, map-map}
use native.Mathlib.Nat.{pow-succ'}
use Rattle.std.proofs.lemmas.Nat.{shr-shr}
use Rattle.std.proofs.lemmas.List.{length-map, get_or-map, get_or_append_left, get_or-append_right}
use Rattle.std.proofs.lemmas.Bool.{cases_lt}
use Rattle.tape.specs.Requests.{has, Over, Before}
use Rattle.tabulation.specs.Order.{requests, Ordered}

-- no fact is left, and one fact more
pub laid_none : (mask p : ℕ) → map (λ q. mask + p * q) (requests 0) ≡ mask ∷ []
unfolding requests
laid_none mask p = let e : mask + p * 0 ≡ mask = omega arith in ap (λ (m : ℕ). m ∷ []) e

pub laid_more : (mask p m n : ℕ) → n ≡ suc m → map (λ q. mask + p * q) (requests n) ≡ map (λ q. mask + p * 2 * q) (requests m) ++ map (λ q. (mask + p) + p * 2 * q) (requests m)
unfolding requests
laid_more mask p m n e =
    let low : (q : ℕ) → mask + p * (2 * q) ≡ mask + p * 2 * q = λ q. ap (λ (x : ℕ). mask + x) (sym (mul_assoc p 2 q)) in
    let high : (q : ℕ) → mask + p * (1 + 2 * q) ≡ (mask + p) + p * 2 * q = λ q.
    let d : p * (1 + 2 * q) ≡ p * 1 + p * (2 * q) = mul-add p 1 (2 * q) in
    let l = low q in omega arith in
    ap (λ (k : ℕ). map (λ q. mask + p * q) (requests k)) e
    ∙ map-append (λ q. mask + p * q) (map (λ r. 2 * r) (requests m)) (map (λ r. 1 + 2 * r) (requests m))
    ∙ ap (λ (xs : List ℕ). xs ++ map (λ q. mask + p * q) (map (λ r. 1 + 2 * r) (requests m)))
    (map-map (λ q. mask + p * q) (λ r. 2 * r) (requests m) ∙ ap (λ (g : ℕ → ℕ). map g (requests m)) (fun_ext low))
    ∙ ap (λ (ys : List ℕ). map (λ q. mask + p * 2 * q) (requests m) ++ ys)
    (map-map (λ q. mask + p * q) (λ r. 1 + 2 * r) (requests m) ∙ ap (λ (g : ℕ → ℕ). map g (requests m)) (fun_ext high))

-- all facts are left
pub laid_all : (n : ℕ) → map (λ q. 0 + 1 * q) (requests n) ≡ requests n
laid_all n = ap (λ (g : ℕ → ℕ). map g (requests n)) (fun_ext (λ q. let e : 0 + 1 * q ≡ q = omega arith in e)) ∙ map-id (requests n)

-- one fact fewer, at twice the weight
pub weight_more : (p m n : ℕ) → n ≡ suc m → p * 2 * 2 ^ m ≡ p * 2 ^ n
weight_more p m n e = mul_assoc p 2 (2 ^ m) ∙ ap (λ (x : ℕ). p * x) (sym (pow-succ' 2 m) ∙ ap (λ (k : ℕ). 2 ^ k) (sym e))

-- the bits of 2 r and of 1 + 2 r
has_half : (r f : ℕ) → has (suc f) r ≡ has f (r / 2)
has_half r f = ap (λ (x : ℕ). eqb (x % 2) 1) (ap (λ (k : ℕ). r / 2 ^ k) (sym (one-add f)) ∙ sym (shr-shr r 1 f))

has_low : (r : ℕ) → has 0 r ≡ eqb (r % 2) 1
has_low r = ap (λ (x : ℕ). eqb (x % 2) 1) (omega arith)

even_half : (r f : ℕ) → has (suc f) (2 * r) ≡ has f r
even_half r f = let e : 2 * r / 2 ≡ r = omega arith in has_half (2 * r) f ∙ ap (λ (x : ℕ). has f x) e

odd_half : (r f : ℕ) → has (suc f) (1 + 2 * r) ≡ has f r
odd_half r f = let e : (1 + 2 * r) / 2 ≡ r = omega arith in has_half (1 + 2 * r) f ∙ ap (λ (x : ℕ). has f x) e

even_low : (r : ℕ) → has 0 (2 * r) ≡ false
even_low r = let e : 2 * r % 2 ≡ 0 = omega arith in has_low (2 * r) ∙ ap (λ (x : ℕ). eqb x 1) e

odd_low : (r : ℕ) → has 0 (1 + 2 * r) ≡ true
odd_low r = let e : (1 + 2 * r) % 2 ≡ 1 = omega arith in has_low (1 + 2 * r) ∙ ap (λ (x : ℕ). eqb x 1) e

before_split : (r s : ℕ) → Before (2 * r) (1 + 2 * s)
before_split r s = (0, (λ g h. absurd (omega arith)), even_low r, odd_low s)

-- an order of halves is one of the whole, where fact 0 is the same
before_double : (u v r s : ℕ) → has 0 u ≡ has 0 v → ((f : ℕ) → has (suc f) u ≡ has f r) → ((f : ℕ) → has (suc f) v ≡ has f s) → Before r s → Before u v
before_double u v r s low hu hv b = (suc b.0, agree, hu b.0 ∙ b.2, hv b.0 ∙ b.3)
  where
    agree : (g : ℕ) → g < suc b.0 → has g u ≡ has g v
    agree zero h = low
    agree (suc g) h = let l : g < b.0 = omega arith in hu g ∙ b.1 g l ∙ sym (hv g)

before_even : (r s : ℕ) → Before r s → Before (2 * r) (2 * s)
before_even r s b = before_double (2 * r) (2 * s) r s (even_low r ∙ sym (even_low s)) (even_half r) (even_half s) b

before_odd : (r s : ℕ) → Before r s → Before (1 + 2 * r) (1 + 2 * s)
before_odd r s b = before_double (1 + 2 * r) (1 + 2 * s) r s (odd_low r ∙ sym (odd_low s)) (odd_half r) (odd_half s) b

-- an element of the doubled list is twice one of the first, or one more than twice one
abbrev doubled : List ℕ → List ℕ
doubled rs = map (λ r. 2 * r) rs ++ map (λ r. 1 + 2 * r) rs

length_doubled : (rs : List ℕ) → length (doubled rs) ≡ length rs + length rs
length_doubled rs = let a = length-append (map (λ r. 2 * r) rs) (map (λ r. 1 + 2 * r) rs) in let b = length-map rs (λ r. 2 * r) in let c = length-map rs (λ r. 1 + 2 * r) in omega arith

at_low : (rs : List ℕ) (i : ℕ) → i < length rs → get_or (doubled rs) i 0 ≡ 2 * get_or rs i 0
at_low rs i h =
    let l = length-map rs (λ r. 2 * r) in
    let lt : i < length (map (λ r. 2 * r) rs) = omega arith in
    get_or_append_left (map (λ r. 2 * r) rs) (map (λ r. 1 + 2 * r) rs) 0 i lt ∙ get_or-map (λ r. 2 * r) rs i 0 0 h

at_high : (rs : List ℕ) (i : ℕ) → length rs ≤ i → i < length rs + length rs → get_or (doubled rs) i 0 ≡ 1 + 2 * get_or rs (i - length rs) 0
at_high rs i h k =
    let lt : i - length rs < length rs = omega arith in
    get_or-append_right (map (λ r. 2 * r) rs) (map (λ r. 1 + 2 * r) rs) (length rs) i 0 (length-map rs (λ r. 2 * r)) h ∙ get_or-map (λ r. 1 + 2 * r) rs (i - length rs) 0 0 lt

both : (rs : List ℕ) (P : ℕ → ℕ → Type 0) → ((i : ℕ) → i < length rs → P i (2 * get_or rs i 0)) → ((i : ℕ) → length rs ≤ i → i < length rs + length rs → P i (1 + 2 * get_or rs (i - length rs) 0)) → (i : ℕ) → i < length (doubled rs) → P i (get_or (doubled rs) i 0)
both rs P low high i h =
    let l = length_doubled rs in
    ⊎_elim (λ a. subst (P i) (sym (at_low rs i a)) (low i a))
    (λ b. let k : i < length rs + length rs = omega arith in subst (P i) (sym (at_high rs i b k)) (high i b k))
    (cases_lt i (length rs))

double_every : (n : ℕ) (rs : List ℕ) → Ordered n rs → (r : ℕ) → Over (suc n) r → (i : ℕ) × (i < length (doubled rs)) × (get_or (doubled rs) i 0 ≡ r)
double_every n rs o r h =
    let p = pow-succ' 2 n in
    let half : r / 2 < 2 ^ n = omega arith in
    let w = o.every (r / 2) half in
    let l = length_doubled rs in
    let lt = w.1 in
    ⊎_elim
    (λ (e : r % 2 ≡ 0). let k : w.0 < length (doubled rs) = omega arith in let q : 2 * (r / 2) ≡ r = omega arith in
    (w.0, k, at_low rs w.0 w.1 ∙ ap (λ (x : ℕ). 2 * x) w.2 ∙ q))
    (λ (e : r % 2 ≡ 1). let k : length rs + w.0 < length (doubled rs) = omega arith in let b : length rs ≤ length rs + w.0 = omega arith in let c : length rs + w.0 < length rs + length rs = omega arith in
    let i : length rs + w.0 - length rs ≡ w.0 = omega arith in let q : 1 + 2 * (r / 2) ≡ r = omega arith in
    (length rs + w.0, k, at_high rs (length rs + w.0) b c ∙ ap (λ (x : ℕ). 1 + 2 * get_or rs x 0) i ∙ ap (λ (x : ℕ). 1 + 2 * x) w.2 ∙ q))
    (parity r)
  where
    parity : (r : ℕ) → (r % 2 ≡ 0) ⊎ (r % 2 ≡ 1)
    parity r = ⊎_elim (λ a. inl (omega arith)) (λ b. inr (omega arith)) (cases_lt (r % 2) 1)

double_before : (n : ℕ) (rs : List ℕ) → Ordered n rs → (i j : ℕ) → i < j → j < length (doubled rs) → Before (get_or (doubled rs) i 0) (get_or (doubled rs) j 0)
double_before n rs o i j lt h =
    let l = length_doubled rs in
    both rs (λ j v. i < j → Before (get_or (doubled rs) i 0) v)
    (λ j a t. let k : i < length rs = omega arith in subst (λ (v : ℕ). Before v (2 * get_or rs j 0)) (sym (at_low rs i k)) (before_even _ _ (o.before i j t a)))
    (λ j a b t. let k : i < length (doubled rs) = omega arith in
    both rs (λ i v. i < j → Before v (1 + 2 * get_or rs (j - length rs) 0))
    (λ i c u. before_split _ _)
    (λ i c d u. let x : i - length rs < j - length rs = omega arith in let y : j - length rs < length rs = omega arith in before_odd _ _ (o.before (i - length rs) (j - length rs) x y))
    i k t)
    j h lt

double_over : (n : ℕ) (rs : List ℕ) → Ordered n rs → (i : ℕ) → i < length (doubled rs) → Over (suc n) (get_or (doubled rs) i 0)
double_over n rs o =
    let p = pow-succ' 2 n in
    both rs (λ i v. v < 2 ^ suc n)
    (λ i a. let h = o.over i a in omega arith)
    (λ i a b. let c : i - length rs < length rs = omega arith in let h = o.over (i - length rs) c in omega arith)

pub in_order : (n : ℕ) → Ordered n (requests n)
unfolding requests
in_order zero = record {
  over = λ i h. let e : i ≡ 0 = omega arith in subst (λ (k : ℕ). get_or (0 ∷ []) k 0 < 1) (sym e) (omega arith);
  every = λ r h. let e : r ≡ 0 = omega arith in (0, omega arith, sym e);
  before = λ i j lt h. absurd (omega arith);
}
in_order (suc n) =
    let o = in_order n in
    record { over = double_over n (requests n) o; every = double_every n (requests n) o; before = double_before n (requests n) o }
