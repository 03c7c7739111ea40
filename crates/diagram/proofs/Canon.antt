-- Trees that are ordered and reduced: a function has one.
use Rattle.std.proofs.Common.{◌≡◌, ℕ, zero, suc, ◌+◌, ◌<◌, ◌≤◌, Bool, true, false, ◌&&◌, eqb, sym, refl, ap, ◌∙◌, subst, ap₂, inl, inr, arith}
use Rattle.std.proofs.lemmas.Bool.{false≢true, cond-true, cond-false, eqb-true, eq-eqb, ne_eqb, cases_eq, cases_Bool, and_parts}
use Rattle.diagram.specs.Tree.{Tree, at, Neat, same, mk, low, high, put}
use Rattle.diagram.specs.Tree.Tree.{terminal, branch}

pub same_refl : (t : Tree) → same t t ≡ true
same_refl (terminal v) = eq-eqb v v refl
same_refl (branch f l h) = rw (eq-eqb f f refl, same_refl l, same_refl h) refl

pub same_eq : (t u : Tree) → same t u ≡ true → t ≡ u
same_eq (terminal v) (terminal w) e = ap terminal (eqb-true v w e)
same_eq (terminal v) (branch g m i) e = absurd (false≢true e)
same_eq (branch f l h) (terminal w) e = absurd (false≢true e)
same_eq (branch f l h) (branch g m i) e =
    let p = and_parts (eqb f g) (same l m && same h i) e in
    let q = and_parts (same l m) (same h i) p.1 in
    let e1 : f ≡ g = eqb-true f g p.0 in
    let e2 : l ≡ m = same_eq l m q.0 in
    let e3 : h ≡ i = same_eq h i q.1 in
    cc

-- a tree with no test before k speaks only of the facts from k on
pub at_later : (n k : ℕ) (t : Tree) → Neat n k t → (p q : ℕ → Bool) → ((f : ℕ) → k ≤ f → f < n → p f ≡ q f) → at t p ≡ at t q
at_later n k (terminal v) w p q e = refl
at_later n k (branch f l h) w p q e =
    let el : at l p ≡ at l q = at_later n (suc f) l w.2 p q (λ g a b. e g (omega arith) b) in
    let eh : at h p ≡ at h q = at_later n (suc f) h w.3 p q (λ g a b. e g (omega arith) b) in
    let ef : p f ≡ q f = e f w.0 w.1 in
    rw (ef, el, eh) refl

pub mk_same : (f : ℕ) (l h : Tree) → l ≡ h → mk f l h ≡ l
mk_same f l h e = cond-true (same l h) l (branch f l h) (subst (λ x. same l x ≡ true) e (same_refl l))

pub mk_other : (f : ℕ) (l h : Tree) → (l ≡ h → ⊥) → mk f l h ≡ branch f l h
mk_other f l h d = elim (cases_Bool (same l h)) [ inl e ↦ absurd (d (same_eq l h e)) | inr e ↦ cond-false (same l h) l (branch f l h) e ]

-- how a tree with no test before k stands to a test of k
pub data Top (n k : ℕ) : Tree → Type 0 where
  tests : {l h : Tree} → Neat n (suc k) l → Neat n (suc k) h → (l ≡ h → ⊥) → k < n → Top n k (branch k l h)
  skips : {t : Tree} → Neat n (suc k) t → low k t ≡ t → high k t ≡ t → Top n k t

pub top : (n k : ℕ) (t : Tree) → Neat n k t → Top n k t
top n k (terminal v) w = skips tt refl refl
top n k (branch f l h) w = elim (cases_eq f k) [
  | inl e ↦ subst (λ x. Top n k (branch x l h)) (sym e) (tests (subst (λ x. Neat n (suc x) l) e w.2) (subst (λ x. Neat n (suc x) h) e w.3) w.4 (omega (arith, w.1)))
  | inr d ↦ skips (omega arith, w.1, w.2, w.3, w.4) (cond-false (eqb f k) l (branch f l h) (ne_eqb f k d)) (cond-false (eqb f k) h (branch f l h) (ne_eqb f k d))
]

-- what the two sides of a tree at k are
pub record Sides (n k : ℕ) (t : Tree) : Type 0 where
  pub low_neat : Neat n (suc k) (low k t)
  pub high_neat : Neat n (suc k) (high k t)
  pub joined : mk k (low k t) (high k t) ≡ t
  pub at_low : (p : ℕ → Bool) → at (low k t) p ≡ at t (put p k false)
  pub at_high : (p : ℕ → Bool) → at (high k t) p ≡ at t (put p k true)

put_here : (p : ℕ → Bool) (k : ℕ) (b : Bool) → put p k b k ≡ b
put_here p k b = cond-true (eqb k k) b (p k) (eq-eqb k k refl)

put_there : (p : ℕ → Bool) (k : ℕ) (b : Bool) (f : ℕ) → suc k ≤ f → p f ≡ put p k b f
put_there p k b f h = sym (cond-false (eqb f k) b (p f) (ne_eqb f k (omega arith)))

low_here : (k : ℕ) (l h : Tree) → low k (branch k l h) ≡ l
low_here k l h = cond-true (eqb k k) l (branch k l h) (eq-eqb k k refl)

high_here : (k : ℕ) (l h : Tree) → high k (branch k l h) ≡ h
high_here k l h = cond-true (eqb k k) h (branch k l h) (eq-eqb k k refl)

sides_from : {n k : ℕ} {t : Tree} → Top n k t → Sides n k t
sides_from {n} {k} (tests {l = l} {h = h} wl wh d b) = record {
  low_neat = subst (Neat n (suc k)) (sym (low_here k l h)) wl;
  high_neat = subst (Neat n (suc k)) (sym (high_here k l h)) wh;
  joined = ap₂ (mk k) (low_here k l h) (high_here k l h) ∙ mk_other k l h d;
  at_low = λ p. ap (λ x. at x p) (low_here k l h) ∙ at_later n (suc k) l wl p (put p k false) (λ f a _. put_there p k false f a)
      ∙ sym (cond-false (put p k false k) (at h (put p k false)) (at l (put p k false)) (put_here p k false));
  at_high = λ p. ap (λ x. at x p) (high_here k l h) ∙ at_later n (suc k) h wh p (put p k true) (λ f a _. put_there p k true f a)
      ∙ sym (cond-true (put p k true k) (at h (put p k true)) (at l (put p k true)) (put_here p k true));
}
sides_from {n} {k} (skips {t = t} w el eh) = record {
  low_neat = subst (Neat n (suc k)) (sym el) w;
  high_neat = subst (Neat n (suc k)) (sym eh) w;
  joined = mk_same k (low k t) (high k t) (el ∙ sym eh) ∙ el;
  at_low = λ p. ap (λ x. at x p) el ∙ at_later n (suc k) t w p (put p k false) (λ f a _. put_there p k false f a);
  at_high = λ p. ap (λ x. at x p) eh ∙ at_later n (suc k) t w p (put p k true) (λ f a _. put_there p k true f a);
}

pub sides : (n k : ℕ) (t : Tree) → Neat n k t → Sides n k t
sides n k t w = sides_from (top n k t w)

-- canonicity: two trees that say the same everywhere are the same
pub canon : (n m k : ℕ) → n ≡ k + m → (t u : Tree) → Neat n k t → Neat n k u → ((p : ℕ → Bool) → at t p ≡ at u p) → t ≡ u
canon n zero k e (terminal v) (terminal w) nt nu s = ap terminal (s (λ _. false))
canon n zero k e (terminal v) (branch g l h) nt nu s = absurd (omega arith)
canon n zero k e (branch f l h) (terminal v) nt nu s = absurd (omega arith)
canon n zero k e (branch f l h) (branch g m i) nt nu s = absurd (omega arith)
canon n (suc m) k e t u nt nu s =
    let a = sides n k t nt in
    let b = sides n k u nu in
    let el : low k t ≡ low k u = canon n m (suc k) (omega arith) (low k t) (low k u) a.low_neat b.low_neat (λ p. a.at_low p ∙ s (put p k false) ∙ sym (b.at_low p)) in
    let eh : high k t ≡ high k u = canon n m (suc k) (omega arith) (high k t) (high k u) a.high_neat b.high_neat (λ p. a.at_high p ∙ s (put p k true) ∙ sym (b.at_high p)) in
    sym a.joined ∙ ap₂ (mk k) el eh ∙ b.joined
