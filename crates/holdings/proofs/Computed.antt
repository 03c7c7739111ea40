-- Statements about all requests over a few facts, from tests that are computed.
use Rattle.std.proofs.Common.{◌≡◌, ℕ, zero, suc, ◌^◌, ◌<◌, Bool, true, false, cond, not, ◌&&◌, ◌||◌, eqb, ltb, sym, refl, ap, ◌∙◌, ⊎_elim, arith}
use Rattle.std.proofs.lemmas.Bool.{and_parts, eqb-true, ltb-true, false≢true, true≢false, cases_lt}
use Rattle.tape.specs.Requests.{has, Before}
use Rattle.diagram.specs.Requests.{First}

-- a test of every number below k
abbrev pub all_below : (ℕ → Bool) → ℕ → Bool
all_below P zero = true
all_below P (suc k) = P k && all_below P k

pub each_below : (P : ℕ → Bool) (k : ℕ) → all_below P k ≡ true → (s : ℕ) → s < k → P s ≡ true
each_below P zero e s h = absurd (omega arith)
each_below P (suc k) e s h =
    let a = and_parts _ _ e in
    ⊎_elim (λ l. each_below P k a.1 s l) (λ g. let q : s ≡ k = omega arith in ap P q ∙ a.0) (cases_lt s k)

-- r comes before s, by the m facts from k on
abbrev pub earlier : ℕ → ℕ → ℕ → ℕ → Bool
earlier zero k r s = false
earlier (suc m) k r s = cond (has k r) (cond (has k s) (earlier m (suc k) r s) false) (cond (has k s) true (earlier m (suc k) r s))

pub earlier_before : (m k r s : ℕ) → earlier m k r s ≡ true → ((g : ℕ) → g < k → has g r ≡ has g s) → Before r s
earlier_before zero k r s e same = absurd (false≢true e)
earlier_before (suc m) k r s e same = by (has k r) (has k s) refl refl e (earlier_before m (suc k) r s)
  where
    further : has k r ≡ has k s → (g : ℕ) → g < suc k → has g r ≡ has g s
    further q g h = ⊎_elim (λ l. same g l) (λ w. let z : g ≡ k = omega arith in ap (λ x. has x r) z ∙ q ∙ ap (λ x. has x s) (sym z)) (cases_lt g k)

    by : (a b : Bool) → has k r ≡ a → has k s ≡ b → cond a (cond b (earlier m (suc k) r s) false) (cond b true (earlier m (suc k) r s)) ≡ true → (earlier m (suc k) r s ≡ true → ((g : ℕ) → g < suc k → has g r ≡ has g s) → Before r s) → Before r s
    by true true p q e f = f e (further (p ∙ sym q))
    by true false p q e f = absurd (false≢true e)
    by false true p q e f = (k, same, p, q)
    by false false p q e f = f e (further (p ∙ sym q))

-- r is the first request over n facts at which B holds
abbrev pub is_first : ℕ → (ℕ → Bool) → ℕ → Bool
is_first n B r = (ltb r (2 ^ n) && B r) && all_below (λ s. not (B s) || (eqb s r || earlier n 0 r s)) (2 ^ n)

pub first_of : (n : ℕ) (B : ℕ → Bool) (r : ℕ) → is_first n B r ≡ true → First n (λ s. B s ≡ true) r
first_of n B r e =
    let a = and_parts _ _ e in
    let b = and_parts _ _ a.0 in
    record {
      within = ltb-true r (2 ^ n) b.0;
      breaks = b.1;
      first = λ s h q ne. by s (B s) (eqb s r) refl refl (each_below (λ s. not (B s) || (eqb s r || earlier n 0 r s)) (2 ^ n) a.1 s h) q ne;
    }
  where
    by : (s : ℕ) (x y : Bool) → B s ≡ x → eqb s r ≡ y → (not (B s) || (eqb s r || earlier n 0 r s)) ≡ true → B s ≡ true → (s ≡ r → ⊥) → Before r s
    by s false y p q t b ne = absurd (false≢true (sym p ∙ b))
    by s true true p q t b ne = absurd (ne (eqb-true s r q))
    by s true false p q t b ne = earlier_before n 0 r s (sym (ap (λ v. not v || (eqb s r || earlier n 0 r s)) p ∙ ap (λ v. v || earlier n 0 r s) q) ∙ t) (λ g h. absurd (omega arith))

-- B holds at no request over n facts
pub none_of : (n : ℕ) (B : ℕ → Bool) → all_below (λ s. not (B s)) (2 ^ n) ≡ true → (s : ℕ) → s < 2 ^ n → B s ≡ true → ⊥
none_of n B e s h b = true≢false (sym (each_below (λ s. not (B s)) (2 ^ n) e s h) ∙ ap not b)
