-- The tree of an operation on two trees.
use Rattle.std.proofs.Common.{◌≡◌, ℕ, zero, suc, ◌+◌, ◌<◌, ◌≤◌, Bool, true, false, cond, eqb, sym, refl, ap, ◌∙◌, subst, ap₂, inl, inr, arith}
use Rattle.std.proofs.lemmas.Bool.{eq-eqb, ne_eqb, cases_eq, cases_Bool, cond-true, cond-false, both_ways}
use Rattle.diagram.specs.Tree.{Tree, at, says, Neat, same, mk, low, high, put, applied}
use Rattle.diagram.specs.Tree.Tree.{terminal, branch}
use Rattle.diagram.specs.Requests.{present}
use Rattle.diagram.specs.Counted.{Same}
use Rattle.diagram.proofs.Canon.{same_eq, same_refl, at_later, mk_same, mk_other, sides}

pub neat_less : (n j k : ℕ) (t : Tree) → j ≤ k → Neat n k t → Neat n j t
neat_less n j k (terminal v) h w = tt
neat_less n j k (branch f l g) h w = (omega (arith, w.0), w.1, w.2, w.3, w.4)

pub mk_neat : (n k : ℕ) (l h : Tree) → k < n → Neat n (suc k) l → Neat n (suc k) h → Neat n k (mk k l h)
mk_neat n k l h b wl wh = elim (cases_Bool (same l h)) [
  | inl e ↦ subst (Neat n k) (sym (mk_same k l h (same_eq l h e))) (neat_less n k (suc k) l (omega arith) wl)
  | inr e ↦ let d : l ≡ h → ⊥ = λ q. both_ways (same l h) e (subst (λ x. same l x ≡ true) q (same_refl l)) in subst (Neat n k) (sym (mk_other k l h d)) (omega arith, b, wl, wh, d)
]

pub at_mk : (k : ℕ) (l h : Tree) (p : ℕ → Bool) → at (mk k l h) p ≡ cond (p k) (at h p) (at l p)
at_mk k l h p = elim (cases_Bool (same l h)) [
  | inl e ↦ let q = same_eq l h e in ap (λ x. at x p) (mk_same k l h q) ∙ both (p k) (at h p) (at l p) (ap (λ x. at x p) q)
  | inr e ↦ ap (λ x. at x p) (cond-false (same l h) l (branch k l h) e)
]
  where
    both : (b : Bool) (x y : ℕ) → y ≡ x → y ≡ cond b x y
    both true x y e = e
    both false x y e = refl

-- fact k as it is
pub at_put : (n k : ℕ) (t : Tree) (p : ℕ → Bool) (b : Bool) → Neat n k t → p k ≡ b → at t (put p k b) ≡ at t p
at_put n k t p b w e = at_later n k t w (put p k b) p (λ f _ _. elim (cases_eq f k) [
  | inl q ↦ cond-true (eqb f k) b (p f) (eq-eqb f k q) ∙ sym e ∙ sym (ap p q)
  | inr d ↦ cond-false (eqb f k) b (p f) (ne_eqb f k d)
])

pub applied_neat : (op : ℕ → ℕ → ℕ) (n m k : ℕ) → n ≡ k + m → (t u : Tree) → Neat n k (applied op m k t u)
unfolding applied
applied_neat op n zero k e t u = tt
applied_neat op n (suc m) k e t u = mk_neat n k _ _ (omega arith)
    (applied_neat op n m (suc k) (omega arith) (low k t) (low k u)) (applied_neat op n m (suc k) (omega arith) (high k t) (high k u))

pub applied_at : (op : ℕ → ℕ → ℕ) (n m k : ℕ) → n ≡ k + m → (t u : Tree) → Neat n k t → Neat n k u
    → (p : ℕ → Bool) → at (applied op m k t u) p ≡ op (at t p) (at u p)
unfolding applied
applied_at op n zero k e t u wt wu p = ap₂ op (at_later n k t wt _ p (λ f a b. absurd (omega arith))) (at_later n k u wu _ p (λ f a b. absurd (omega arith)))
applied_at op n (suc m) k e t u wt wu p =
    let a = sides n k t wt in
    let b = sides n k u wu in
    let L : Tree = applied op m (suc k) (low k t) (low k u) in
    let H : Tree = applied op m (suc k) (high k t) (high k u) in
    let il = applied_at op n m (suc k) (omega arith) (low k t) (low k u) a.low_neat b.low_neat p in
    let ih = applied_at op n m (suc k) (omega arith) (high k t) (high k u) a.high_neat b.high_neat p in
    at_mk k L H p ∙ elim (cases_Bool (p k)) [
      | inl q ↦ cond-true (p k) (at H p) (at L p) q ∙ ih
          ∙ ap₂ op (a.at_high p ∙ at_put n k t p true wt q) (b.at_high p ∙ at_put n k u p true wu q)
      | inr q ↦ cond-false (p k) (at H p) (at L p) q ∙ il
          ∙ ap₂ op (a.at_low p ∙ at_put n k t p false wt q) (b.at_low p ∙ at_put n k u p false wu q)
    ]

pub low_later : (n k : ℕ) (t : Tree) → Neat n (suc k) t → low k t ≡ t
low_later n k (terminal v) w = refl
low_later n k (branch f l h) w = cond-false (eqb f k) l (branch f l h) (ne_eqb f k (omega (arith, w.0)))

pub high_later : (n k : ℕ) (t : Tree) → Neat n (suc k) t → high k t ≡ t
high_later n k (terminal v) w = refl
high_later n k (branch f l h) w = cond-false (eqb f k) h (branch f l h) (ne_eqb f k (omega (arith, w.0)))

-- facts that neither tree tests are passed over
pub applied_jump : (op : ℕ → ℕ → ℕ) (n M m k f : ℕ) → n ≡ k + M → n ≡ f + m → k ≤ f → (t u : Tree) → Neat n f t → Neat n f u
    → applied op M k t u ≡ applied op m f t u
unfolding applied
applied_jump op n zero m k f a b h t u wt wu =
    let em : 0 ≡ m = omega arith in
    let ek : k ≡ f = omega arith in
    ap₂ (λ x y. applied op x y t u) em ek
applied_jump op n (suc M) m k f a b h t u wt wu = elim (cases_eq k f) [
  | inl e ↦ let em : suc M ≡ m = omega arith in ap₂ (λ x y. applied op x y t u) em e
  | inr d ↦
      let X : Tree = applied op M (suc k) t u in
      let et : Neat n (suc k) t = neat_less n (suc k) f t (omega arith) wt in
      let eu : Neat n (suc k) u = neat_less n (suc k) f u (omega arith) wu in
      let el : applied op M (suc k) (low k t) (low k u) ≡ X = ap₂ (applied op M (suc k)) (low_later n k t et) (low_later n k u eu) in
      let eh : applied op M (suc k) (high k t) (high k u) ≡ X = ap₂ (applied op M (suc k)) (high_later n k t et) (high_later n k u eu) in
      ap₂ (mk k) el eh ∙ mk_same k X X refl ∙ applied_jump op n M m (suc k) f (omega arith) b (omega arith) t u wt wu
]

pub applied_terminal : (op : ℕ → ℕ → ℕ) (m k v w : ℕ) → applied op m k (terminal v) (terminal w) ≡ terminal (op v w)
unfolding applied
applied_terminal op zero k v w = refl
applied_terminal op (suc m) k v w = let i = applied_terminal op m (suc k) v w in mk_same k _ _ refl ∙ i

-- a fact that counts
pub applied_step : (op : ℕ → ℕ → ℕ) (m k : ℕ) (t u : Tree)
    → applied op (suc m) k t u ≡ mk k (applied op m (suc k) (low k t) (low k u)) (applied op m (suc k) (high k t) (high k u))
unfolding applied
applied_step op m k t u = refl

-- over all facts, what the operation makes of what the trees say
pub applied_says : (op : ℕ → ℕ → ℕ) (n : ℕ) (t u : Tree) → Neat n 0 t → Neat n 0 u → (F G : ℕ → ℕ) → Same n (says t) F → Same n (says u) G
    → Same n (says (applied op n 0 t u)) (λ r. op (F r) (G r))
applied_says op n t u wt wu F G f g r h = applied_at op n n 0 (omega arith) t u wt wu (present r) ∙ ap₂ op (f r h) (g r h)
