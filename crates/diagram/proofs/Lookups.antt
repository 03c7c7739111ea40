-- What is read off a row of nodes.
use Rattle.std.proofs.Common.{◌≡◌, ℕ, zero, suc, ◌+◌, ◌-◌, ◌/◌, ◌%◌, ◌^◌, ◌<◌, ◌≤◌, min, eqb, ltb, ◌⊎◌, List, [], ◌∷◌, length, get_or, Some, None, sym, refl, ap, ◌∙◌, subst, inl, inr, arith}
use Rattle.std.proofs.lemmas.Bool.{cond-true, cond-false, cases_lt, lt-ltb, le-ltb, eq-eqb, ne_eqb}
use Rattle.probing.specs.Table.{nth}
use Rattle.probing.specs.declared.node.Node.{Node}
use Rattle.diagram.specs.Tree.{Tree, says, Neat, low, high}
use Rattle.diagram.specs.Tree.Tree.{terminal, branch}
use Rattle.diagram.specs.Requests.{present}
use Rattle.diagram.specs.Nodes.{trees, meant, branch_of, no_node, node_of, Good}
use Rattle.diagram.specs.Building.{Top, Sided, Parted}
use Rattle.diagram.specs.declared.store.Sides.{Sides}
use Rattle.diagram.proofs.Nodes.{tree_const, tree_node, tree_neat}

nth_some : (xs : List Node) (i : ℕ) (x : Node) → Some x ≡ nth xs i → (i < length xs) × (x ≡ get_or xs i no_node)
nth_some [] i x e = let z : ◌≡◌ {A = ℕ} 0 1 = cc in absurd (omega arith)
nth_some (y ∷ ys) zero x e = (omega arith, cc)
nth_some (y ∷ ys) (suc i) x e = let r = nth_some ys i x e in (omega (arith, r.0), r.1)

nth_none : (xs : List Node) (i : ℕ) → None ≡ nth xs i → length xs ≤ i
nth_none [] i e = omega arith
nth_none (y ∷ ys) zero e = let z : ◌≡◌ {A = ℕ} 0 1 = cc in absurd (omega arith)
nth_none (y ∷ ys) (suc i) e = omega (arith, nth_none ys i e)

-- a code that names a node
pub node_some : (xs : List Node) (c : ℕ) (x : Node) → Some x ≡ node_of xs c → (16 ≤ c) × (c < 16 + length xs) × (x ≡ get_or xs (c - 16) no_node)
node_some xs c x e = elim (cases_lt c 16) [
  | inl h ↦ let q : Some x ≡ None = e ∙ cond-true (ltb c 16) None (nth xs (c - 16)) (lt-ltb c 16 h) in let z : ◌≡◌ {A = ℕ} 0 1 = cc in absurd (omega arith)
  | inr h ↦ let r = nth_some xs (c - 16) x (e ∙ cond-false (ltb c 16) None (nth xs (c - 16)) (le-ltb c 16 h)) in (h, omega (arith, r.0), r.1)
]

-- one that names none is a constant
pub node_none : (xs : List Node) (c : ℕ) → None ≡ node_of xs c → c < 16 + length xs → c < 16
node_none xs c e k = elim (cases_lt c 16) [
  | inl h ↦ h
  | inr h ↦ let r = nth_none xs (c - 16) (e ∙ cond-false (ltb c 16) None (nth xs (c - 16)) (le-ltb c 16 h)) in absurd (omega arith)
]

module _ (n : ℕ) (xs : List Node) (g : Good n xs) (c : ℕ) (k : c < 16 + length xs) where
  pub top_some : (x : Node) → Some x ≡ node_of xs c → Top n (meant xs c) x.fact
  top_some x e =
      let r = node_some xs c x e in
      subst (λ t. Top n t x.fact) (sym (tree_node n xs g c r.0 k)) (ap (λ (y : Node). y.fact) r.2)

  pub top_none : None ≡ node_of xs c → Top n (meant xs c) n
  top_none e = subst (λ t. Top n t n) (sym (tree_const (trees xs) c (node_none xs c e k))) refl

  pub sides_none : (f : ℕ) → None ≡ node_of xs c → Sided xs f c (record { low = c; high = c })
  sides_none f e =
      let q : meant xs c ≡ terminal c = tree_const (trees xs) c (node_none xs c e k) in
      record {
        low_within = k;
        high_within = k;
        low_means = q ∙ sym (ap (low f) q);
        high_means = q ∙ sym (ap (high f) q);
      }

  module _ (f : ℕ) (x : Node) (e : Some x ≡ node_of xs c) where
    is_node : meant xs c ≡ branch_of (trees xs) x
    is_node = let r = node_some xs c x e in tree_node n xs g c r.0 k ∙ ap (branch_of (trees xs)) (sym r.2)

    pub sides_other : (x.fact ≡ f → ⊥) → Sided xs f c (record { low = c; high = c })
    sides_other d = record {
      low_within = k;
      high_within = k;
      low_means = is_node ∙ sym (ap (low f) is_node ∙ cond-false (eqb x.fact f) _ _ (ne_eqb x.fact f d));
      high_means = is_node ∙ sym (ap (high f) is_node ∙ cond-false (eqb x.fact f) _ _ (ne_eqb x.fact f d));
    }

    pub sides_here : x.fact ≡ f → Sided xs f c (record { low = x.low; high = x.high })
    sides_here q =
        let r = node_some xs c x e in
        let o = g.older (c - 16) (omega (arith, r.0, r.1)) in
        let el : x.low ≡ (get_or xs (c - 16) no_node).low = ap (λ (y : Node). y.low) r.2 in
        let eh : x.high ≡ (get_or xs (c - 16) no_node).high = ap (λ (y : Node). y.high) r.2 in
        record {
          low_within = omega (arith, o.0, el, r.0, r.1);
          high_within = omega (arith, o.1, eh, r.0, r.1);
          low_means = sym (ap (low f) is_node ∙ cond-true (eqb x.fact f) _ _ (eq-eqb x.fact f q));
          high_means = sym (ap (high f) is_node ∙ cond-true (eqb x.fact f) _ _ (eq-eqb x.fact f q));
        }

-- where two codes part

top_neat : (n k r : ℕ) (t : Tree) → Top n t r → Neat n k t → k ≤ n → k ≤ r
top_neat n k r (terminal v) e w h = omega arith
top_neat n k r (branch f l g) e w h = omega (arith, w.0)

top_from : (n k r f : ℕ) (t : Tree) → Top n t r → Neat n k t → f ≤ r → Neat n f t
top_from n k r f (terminal v) e w h = tt
top_from n k r f (branch g l i) e w h = (omega arith, w.1, w.2, w.3, w.4)

-- a code that is no constant tests a fact below n
top_below : (n : ℕ) (xs : List Node) → Good n xs → (c r : ℕ) → 16 ≤ c → c < 16 + length xs → Top n (meant xs c) r → r < n
top_below n xs g c r h k e =
    let q = tree_node n xs g c h k in
    let w = subst (Neat n 0) q (tree_neat n xs g c k) in
    let e' = subst (λ t. Top n t r) q e in
    omega (arith, w.1, e')

pub parted : (n : ℕ) (xs : List Node) → Good n xs → (a b fa fb f : ℕ) (s t : Sides) → a < 16 + length xs → b < 16 + length xs → ((a < 16) × (16 ≤ b)) ⊎ (16 ≤ a)
    → Top n (meant xs a) fa → Top n (meant xs b) fb → f ≡ min fa fb → Sided xs f a s → Sided xs f b t
    → (k : ℕ) → k ≤ n → Neat n k (meant xs a) → Neat n k (meant xs b) → Parted n k xs a b (record { fact = f; first = s; second = t })
parted n xs g a b fa fb f s t ha hb o ta tb e sa sb k hk wa wb = record {
  from = omega (arith, top_neat n k fa (meant xs a) ta wa hk, top_neat n k fb (meant xs b) tb wb hk);
  below = elim o [ inl p ↦ omega (arith, top_below n xs g b fb p.1 hb tb) | inr p ↦ omega (arith, top_below n xs g a fa p ha ta) ];
  first_neat = top_from n k fa f (meant xs a) ta wa (omega arith);
  second_neat = top_from n k fb f (meant xs b) tb wb (omega arith);
  first = sa;
  second = sb;
}

-- one step of a walk down: the fact can be looked at, both children are older, and the request picks the one that means the same
pub record Walked (n : ℕ) (xs : List Node) (c : ℕ) (x : Node) (r : ℕ) : Type 0 where
  pub fact : x.fact < n
  pub low_older : x.low < c
  pub high_older : x.high < c
  pub on : r / 2 ^ x.fact % 2 ≡ 1 → says (meant xs x.high) r ≡ says (meant xs c) r
  pub off : (r / 2 ^ x.fact % 2 ≡ 1 → ⊥) → says (meant xs x.low) r ≡ says (meant xs c) r

pub walked : (n : ℕ) (xs : List Node) → Good n xs → (c : ℕ) (x : Node) (r : ℕ) → Some x ≡ node_of xs c → Walked n xs c x r
walked n xs g c x r e =
    let q = node_some xs c x e in
    let o = g.older (c - 16) (omega (arith, q.0, q.1)) in
    let el : x.low ≡ (get_or xs (c - 16) no_node).low = ap (λ (y : Node). y.low) q.2 in
    let eh : x.high ≡ (get_or xs (c - 16) no_node).high = ap (λ (y : Node). y.high) q.2 in
    let t : meant xs c ≡ branch_of (trees xs) x = tree_node n xs g c q.0 q.1 ∙ ap (branch_of (trees xs)) (sym q.2) in
    record {
      fact = (subst (Neat n 0) t (tree_neat n xs g c q.1)).1;
      low_older = omega (arith, o.0, el, q.0);
      high_older = omega (arith, o.1, eh, q.0);
      on = λ h. sym (ap (λ y. says y r) t ∙ cond-true (present r x.fact) _ _ (eq-eqb _ 1 h));
      off = λ h. sym (ap (λ y. says y r) t ∙ cond-false (present r x.fact) _ _ (ne_eqb _ 1 h));
    }
