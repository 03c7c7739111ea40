-- The tree of a function.
use Rattle.std.proofs.Common.{◌≡◌, ℕ, zero, suc, ◌+◌, ◌^◌, ◌<◌, ◌≤◌, Bool, true, false, eqb, sym, ap, ◌∙◌, inl, inr, zero-add, arith}
use Rattle.std.proofs.lemmas.Bool.{cases_Bool, cases_eq, cond-true, cond-false, eq-eqb, ne_eqb}
use Rattle.diagram.specs.Tree.{Tree, at, says, Neat, put, shape, tree_of}
use Rattle.diagram.specs.Requests.{present, pack}
use Rattle.diagram.specs.Counted.{Same}
use Rattle.diagram.proofs.Applied.{mk_neat, at_mk}
use Rattle.diagram.proofs.Requests.{pack_lt, pack_present, facts_one}
use Rattle.diagram.proofs.Subtrees.{canon_masks}

pub shape_neat : (n m k : ℕ) → n ≡ k + m → (F : (ℕ → Bool) → ℕ) → Neat n k (shape m k F)
unfolding shape
shape_neat n zero k e F = tt
shape_neat n (suc m) k e F = mk_neat n k _ _ (omega arith) (shape_neat n m (suc k) (omega arith) (λ has. F (put has k false))) (shape_neat n m (suc k) (omega arith) (λ has. F (put has k true)))

-- F goes by the facts from k on and below n, where the facts below k are absent
abbrev pub Goes : ℕ → ℕ → ((ℕ → Bool) → ℕ) → Type 0
Goes n k F = (p q : ℕ → Bool) → ((f : ℕ) → k ≤ f → f < n → p f ≡ q f) → F p ≡ F q

goes_put : (n k : ℕ) (F : (ℕ → Bool) → ℕ) (b : Bool) → Goes n k F → Goes n (suc k) (λ has. F (put has k b))
goes_put n k F b g p q e = g (put p k b) (put q k b) (λ f h l. elim (cases_eq f k) [
  | inl z ↦ cond-true (eqb f k) b (p f) (eq-eqb f k z) ∙ sym (cond-true (eqb f k) b (q f) (eq-eqb f k z))
  | inr d ↦ cond-false (eqb f k) b (p f) (ne_eqb f k d) ∙ e f (omega arith) l ∙ sym (cond-false (eqb f k) b (q f) (ne_eqb f k d))
])

put_same : (p : ℕ → Bool) (k : ℕ) (b : Bool) → p k ≡ b → (f : ℕ) → put p k b f ≡ p f
put_same p k b e f = elim (cases_eq f k) [
  | inl z ↦ cond-true (eqb f k) b (p f) (eq-eqb f k z) ∙ sym e ∙ sym (ap p z)
  | inr d ↦ cond-false (eqb f k) b (p f) (ne_eqb f k d)
]

pub shape_at : (n m k : ℕ) → n ≡ k + m → (F : (ℕ → Bool) → ℕ) → Goes n k F → (p : ℕ → Bool) → at (shape m k F) p ≡ F p
unfolding shape
shape_at n zero k e F g p = g (λ _. false) p (λ f h l. absurd (omega arith))
shape_at n (suc m) k e F g p =
    let L : Tree = shape m (suc k) (λ has. F (put has k false)) in
    let H : Tree = shape m (suc k) (λ has. F (put has k true)) in
    let il : at L p ≡ F (put p k false) = shape_at n m (suc k) (omega arith) (λ has. F (put has k false)) (goes_put n k F false g) p in
    let ih : at H p ≡ F (put p k true) = shape_at n m (suc k) (omega arith) (λ has. F (put has k true)) (goes_put n k F true g) p in
    at_mk k L H p ∙ elim (cases_Bool (p k)) [
      | inl q ↦ cond-true (p k) _ _ q ∙ ih ∙ g (put p k true) p (λ f _ _. put_same p k true q f)
      | inr q ↦ cond-false (p k) _ _ q ∙ il ∙ g (put p k false) p (λ f _ _. put_same p k false q f)
    ]

pack_same : (n : ℕ) (p q : ℕ → Bool) → ((f : ℕ) → f < n → p f ≡ q f) → pack n p ≡ pack n q
pack_same n p q e = facts_one n (pack n p) (pack n q) (pack_lt n p) (pack_lt n q) (λ f l. pack_present n p f l ∙ e f l ∙ sym (pack_present n q f l))

pack_again : (n r : ℕ) → r < 2 ^ n → pack n (present r) ≡ r
pack_again n r h = facts_one n (pack n (present r)) r (pack_lt n (present r)) h (λ f l. pack_present n (present r) f l)

pub tree_of_neat : (n : ℕ) (F : ℕ → ℕ) → Neat n 0 (tree_of n F)
unfolding tree_of
tree_of_neat n F = shape_neat n n 0 (sym (zero-add n)) (λ has. F (pack n has))

-- the tree of a function says what the function says
pub tree_of_means : (n : ℕ) (F : ℕ → ℕ) → Same n (says (tree_of n F)) F
unfolding tree_of
tree_of_means n F r h =
    shape_at n n 0 (sym (zero-add n)) (λ has. F (pack n has)) (λ p q e. ap F (pack_same n p q (λ f l. e f (omega arith) l))) (present r) ∙ ap F (pack_again n r h)

-- and it is the only one that does
pub tree_of_one : (n : ℕ) (F : ℕ → ℕ) (t : Tree) → Neat n 0 t → Same n (says t) F → t ≡ tree_of n F
tree_of_one n F t w s = canon_masks n t (tree_of n F) w (tree_of_neat n F) (λ r h. s r h ∙ sym (tree_of_means n F r h))
