-- The trees of a row of nodes.
use Rattle.std.proofs.Common.{◌≡◌, ℕ, zero, suc, ◌+◌, ◌-◌, ◌<◌, ◌≤◌, ltb, List, [], ◌∷◌, ◌++◌, length, get_or, take, drop, sym, refl, ap, ◌∙◌, subst, ap₂, inl, inr, add-zero, zero-add, arith, length-append, length-take-le, get_or-take}
use lib.ListN.{get_or-append}
use lib.Seq.{get_or-append_seam, get_or_at}
use Rattle.std.proofs.lemmas.List.{take_all}
use Rattle.std.proofs.lemmas.Bool.{cond-true, cond-false, cases_lt, lt-ltb, le-ltb}
use Rattle.diagram.specs.Tree.{Tree, says, Neat}
use Rattle.diagram.specs.Tree.Tree.{terminal, branch}
use Rattle.diagram.specs.Counted.{Same, Apart}
use Rattle.diagram.specs.Nodes.{tree, branch_of, grow, trees, meant, no_node, Good, In, Begins}
use Rattle.probing.specs.declared.node.Node.{Node}
pub use Rattle.diagram.specs.Lasting.{grow_length, trees_length, begins_same, begins_length, begins_trans}
use Rattle.diagram.proofs.Elements.{each_in}
use Rattle.diagram.proofs.Inserted.{Grows, grows_none, grows_trans, Closed, Near}
use Rattle.diagram.proofs.Subtrees.{Held, Branch, canon_masks}

pub grow_app : (S : List Tree) (xs ys : List Node) → grow S (xs ++ ys) ≡ grow (grow S xs) ys
grow_app S [] ys = refl
grow_app S (x ∷ xs) ys = grow_app (S ++ (branch_of S x ∷ [])) xs ys

pub grow_grows : (S : List Tree) (xs : List Node) → Grows S (grow S xs)
grow_grows S [] = grows_none S
grow_grows S (x ∷ xs) = grows_trans S (S ++ (branch_of S x ∷ [])) _ (record { rest = branch_of S x ∷ []; is = refl }) (grow_grows (S ++ (branch_of S x ∷ [])) xs)

-- the tree of an older code stays
pub tree_grows : (A B : List Tree) (c : ℕ) → Grows A B → c < 16 + length A → tree B c ≡ tree A c
tree_grows A B c g h = elim (cases_lt c 16) [
  | inl l ↦ cond-true (ltb c 16) (terminal c) (get_or B (c - 16) (terminal 0)) (lt-ltb c 16 l) ∙ sym (cond-true (ltb c 16) (terminal c) (get_or A (c - 16) (terminal 0)) (lt-ltb c 16 l))
  | inr l ↦ cond-false (ltb c 16) (terminal c) (get_or B (c - 16) (terminal 0)) (le-ltb c 16 l)
      ∙ ap (λ x. get_or x (c - 16) (terminal 0)) g.is ∙ get_or-append A g.rest (terminal 0) (c - 16) (omega arith)
      ∙ sym (cond-false (ltb c 16) (terminal c) (get_or A (c - 16) (terminal 0)) (le-ltb c 16 l))
]

pub get_or_grows : (A B : List Tree) (i : ℕ) → Grows A B → i < length A → get_or B i (terminal 0) ≡ get_or A i (terminal 0)
get_or_grows A B i g h = ap (λ x. get_or x i (terminal 0)) g.is ∙ get_or-append A g.rest (terminal 0) i h

-- each tree is that of its node, over all the trees
pub grow_reads : (S : List Tree) (xs : List Node) (i : ℕ) → i < length xs
    → ((j : ℕ) → j < length xs → ((get_or xs j no_node).low < 16 + (length S + j)) × ((get_or xs j no_node).high < 16 + (length S + j)))
    → get_or (grow S xs) (length S + i) (terminal 0) ≡ branch_of (grow S xs) (get_or xs i no_node)
grow_reads S [] i h o = absurd (omega arith)
grow_reads S (x ∷ xs) zero h o =
    let S₁ : List Tree = S ++ (branch_of S x ∷ []) in
    let G : Grows S₁ (grow S₁ xs) = grow_grows S₁ xs in
    let G₀ : Grows S (grow S₁ xs) = grow_grows S (x ∷ xs) in
    let b = o 0 (omega arith) in
    let e1 : tree (grow S₁ xs) x.low ≡ tree S x.low = tree_grows S _ x.low G₀ (omega (arith, b.0)) in
    let e2 : tree (grow S₁ xs) x.high ≡ tree S x.high = tree_grows S _ x.high G₀ (omega (arith, b.1)) in
    ap (λ k. get_or (grow S₁ xs) k (terminal 0)) (add-zero (length S))
    ∙ get_or_grows S₁ _ (length S) G (simp length-append (omega arith))
    ∙ get_or-append_seam S (branch_of S x) [] (terminal 0)
    ∙ ap₂ (branch x.fact) (sym e1) (sym e2)
grow_reads S (x ∷ xs) (suc i) h o =
    let S₁ : List Tree = S ++ (branch_of S x ∷ []) in
    let el : length S + suc i ≡ length S₁ + i = simp length-append (omega arith) in
    let l1 : length S₁ ≡ length S + 1 = length-append S (branch_of S x ∷ []) in
    ap (λ k. get_or (grow S₁ xs) k (terminal 0)) el
    ∙ grow_reads S₁ xs i (omega arith) (λ j lt. let b = o (suc j) (omega arith) in (omega (arith, b.0, l1), omega (arith, b.1, l1)))

pub in_index : (t : Tree) (S : List Tree) → In t S → (i : ℕ) × (i < length S) × (get_or S i (terminal 0) ≡ t)
in_index t [] i = elim i [ ]
in_index t (x ∷ xs) (inl e) = (0, omega arith, e)
in_index t (x ∷ xs) (inr i) = let r = in_index t xs i in (suc r.0, omega (arith, r.1), r.2)

pub index_in : (S : List Tree) (i : ℕ) → i < length S → In (get_or S i (terminal 0)) S
index_in [] i h = absurd (omega arith)
index_in (x ∷ xs) zero h = inl refl
index_in (x ∷ xs) (suc i) h = inr (index_in xs i (omega arith))

-- one more node
pub good_push : (n : ℕ) (xs : List Node) (x : Node) → Good n xs → x.low < 16 + length xs → x.high < 16 + length xs
    → Neat n 0 (branch_of (grow [] xs) x) → (In (branch_of (grow [] xs) x) (grow [] xs) → ⊥) → Good n (xs ++ (x ∷ []))
good_push n xs x g hl hh w out =
    let S : List Tree = trees xs in
    let T : Tree = branch_of S x in
    let lS : length S ≡ length xs = trees_length xs in
    let eS : grow [] (xs ++ (x ∷ [])) ≡ S ++ (T ∷ []) = grow_app [] xs (x ∷ []) in
    let lx : length (xs ++ (x ∷ [])) ≡ length xs + 1 = length-append xs (x ∷ []) in
    let old : (i : ℕ) → i < length xs → get_or (grow [] (xs ++ (x ∷ []))) i (terminal 0) ≡ get_or S i (terminal 0)
    = λ i h. ap (λ y. get_or y i (terminal 0)) eS ∙ get_or-append S (T ∷ []) (terminal 0) i (omega arith) in
    let new : get_or (grow [] (xs ++ (x ∷ []))) (length xs) (terminal 0) ≡ T
    = ap (λ y. get_or y (length xs) (terminal 0)) eS ∙ get_or_at S T [] (terminal 0) (length xs) lS in
    let at_end : (i : ℕ) → i < length (xs ++ (x ∷ [])) → (length xs ≤ i) → i ≡ length xs = λ i h k. omega arith in
    let lone : (i : ℕ) → i < length xs → get_or S i (terminal 0) ≡ T → ⊥
    = λ i h e. out (subst (λ y. In y S) e (index_in S i (omega arith))) in
    record {
      older = λ i h. elim (cases_lt i (length xs)) [
        | inl k ↦ let b = g.older i k in
            let q : get_or (xs ++ (x ∷ [])) i no_node ≡ get_or xs i no_node = get_or-append xs (x ∷ []) no_node i k in
            (subst (λ y. y.low < 16 + i) (sym q) b.0, subst (λ y. y.high < 16 + i) (sym q) b.1)
        | inr k ↦ let ei : i ≡ length xs = at_end i h k in
            let q : get_or (xs ++ (x ∷ [])) i no_node ≡ x = get_or_at xs x [] no_node i (sym ei) in
            (subst (λ y. y.low < 16 + i) (sym q) (omega arith), subst (λ y. y.high < 16 + i) (sym q) (omega arith))
      ];
      neat = λ i h. elim (cases_lt i (length xs)) [
        | inl k ↦ subst (Neat n 0) (sym (old i k)) (g.neat i k)
        | inr k ↦ let ei : i ≡ length xs = at_end i h k in
            subst (λ j. Neat n 0 (get_or (grow [] (xs ++ (x ∷ []))) j (terminal 0))) (sym ei) (subst (Neat n 0) (sym new) w)
      ];
      apart = λ i j h k e. elim (cases_lt i (length xs)) [
        | inl a ↦ elim (cases_lt j (length xs)) [
          | inl b ↦ g.apart i j a b (sym (old i a) ∙ e ∙ old j b)
          | inr b ↦ let ej : j ≡ length xs = at_end j k b in
              absurd (lone i a (sym (old i a) ∙ e ∙ ap (λ y. get_or (grow [] (xs ++ (x ∷ []))) y (terminal 0)) ej ∙ new))
        ]
        | inr a ↦ elim (cases_lt j (length xs)) [
          | inl b ↦ let ei : i ≡ length xs = at_end i h a in
              absurd (lone j b (sym (old j b) ∙ sym e ∙ ap (λ y. get_or (grow [] (xs ++ (x ∷ []))) y (terminal 0)) ei ∙ new))
          | inr b ↦ omega (arith, at_end i h a, at_end j k b)
        ]
      ];
    }

-- a code below 16 is a constant
pub tree_const : (S : List Tree) (c : ℕ) → c < 16 → tree S c ≡ terminal c
tree_const S c h = cond-true (ltb c 16) (terminal c) (get_or S (c - 16) (terminal 0)) (lt-ltb c 16 h)

tree_get : (S : List Tree) (c : ℕ) → 16 ≤ c → tree S c ≡ get_or S (c - 16) (terminal 0)
tree_get S c h = cond-false (ltb c 16) (terminal c) (get_or S (c - 16) (terminal 0)) (le-ltb c 16 h)

module _ (n : ℕ) (xs : List Node) (g : Good n xs) where
  pub trees_at : (i : ℕ) → i < length xs → get_or (trees xs) i (terminal 0) ≡ branch_of (trees xs) (get_or xs i no_node)
  trees_at i h =
      let r = grow_reads [] xs i h (λ j k. let b = g.older j k in (omega (arith, b.0), omega (arith, b.1))) in
      ap (λ k. get_or (trees xs) k (terminal 0)) (sym (zero-add i)) ∙ r

  -- any other names a node
  pub tree_node : (c : ℕ) → 16 ≤ c → c < 16 + length xs → meant xs c ≡ branch_of (trees xs) (get_or xs (c - 16) no_node)
  tree_node c h k = tree_get (trees xs) c h ∙ trees_at (c - 16) (omega arith)

  pub tree_neat : (c : ℕ) → c < 16 + length xs → Neat n 0 (meant xs c)
  tree_neat c k = elim (cases_lt c 16) [
    | inl h ↦ subst (Neat n 0) (sym (tree_const (trees xs) c h)) tt
    | inr h ↦ subst (Neat n 0) (sym (tree_get (trees xs) c h)) (g.neat (c - 16) (omega arith))
  ]

  -- a tree has one code
  pub tree_inj : (c d : ℕ) → c < 16 + length xs → d < 16 + length xs → meant xs c ≡ meant xs d → c ≡ d
  tree_inj c d hc hd e = elim (cases_lt c 16) [
    | inl a ↦ elim (cases_lt d 16) [
      | inl b ↦ let q : terminal c ≡ terminal d = sym (tree_const (trees xs) c a) ∙ e ∙ tree_const (trees xs) d b in cc
      | inr b ↦ let q : terminal c ≡ branch_of (trees xs) (get_or xs (d - 16) no_node) = sym (tree_const (trees xs) c a) ∙ e ∙ tree_node d b hd in
          let z : ◌≡◌ {A = ℕ} 0 1 = cc in absurd (omega arith)
    ]
    | inr a ↦ elim (cases_lt d 16) [
      | inl b ↦ let q : terminal d ≡ branch_of (trees xs) (get_or xs (c - 16) no_node) = sym (tree_const (trees xs) d b) ∙ sym e ∙ tree_node c a hc in
          let z : ◌≡◌ {A = ℕ} 0 1 = cc in absurd (omega arith)
      | inr b ↦
          let q : c - 16 ≡ d - 16 = g.apart (c - 16) (d - 16) (omega arith) (omega arith) (sym (tree_get (trees xs) c a) ∙ e ∙ tree_get (trees xs) d b) in
          omega arith
    ]
  ]

  -- so does a function
  pub code_inj : (c d : ℕ) → c < 16 + length xs → d < 16 + length xs → Same n (says (meant xs c)) (says (meant xs d)) → c ≡ d
  code_inj c d hc hd e = tree_inj c d hc hd (canon_masks n (meant xs c) (meant xs d) (tree_neat c hc) (tree_neat d hd) e)

  near_code : (c : ℕ) → c < 16 + length xs → Near (meant xs c) (trees xs)
  near_code c k = elim (cases_lt c 16) [
    | inl a ↦ subst (λ y. Near y (trees xs)) (sym (tree_const (trees xs) c a)) tt
    | inr a ↦ subst (λ y. Near y (trees xs)) (sym (tree_node c a k))
        (subst (λ y. In y (trees xs)) (trees_at (c - 16) (omega arith)) (index_in (trees xs) (c - 16) (omega (arith, trees_length xs))))
  ]

  pub trees_closed : Closed (trees xs)
  trees_closed f l h i =
      let r = in_index (branch f l h) (trees xs) i in
      let hi : r.0 < length xs = omega (arith, r.1, trees_length xs) in
      let e : branch_of (trees xs) (get_or xs r.0 no_node) ≡ branch f l h = sym (trees_at r.0 hi) ∙ r.2 in
      let b = g.older r.0 hi in
      let el : meant xs (get_or xs r.0 no_node).low ≡ l = cc in
      let eh : meant xs (get_or xs r.0 no_node).high ≡ h = cc in (
        subst (λ y. Near y (trees xs)) el (near_code (get_or xs r.0 no_node).low (omega (arith, b.0))),
        subst (λ y. Near y (trees xs)) eh (near_code (get_or xs r.0 no_node).high (omega (arith, b.1))),
      )

  -- the trees of the nodes are such as a store holds
  pub trees_held : Held n (trees xs)
  trees_held = record {
    tests = λ s i.
        let r = in_index s (trees xs) i in
        subst Branch (sym (trees_at r.0 (omega (arith, r.1, trees_length xs))) ∙ r.2) tt;
    neat = λ s i.
        let r = in_index s (trees xs) i in
        subst (Neat n 0) r.2 (g.neat r.0 (omega (arith, r.1, trees_length xs)));
    closed = trees_closed;
    apart = apart_from (trees xs) (λ i j h k e. g.apart i j (omega (arith, h, trees_length xs)) (omega (arith, k, trees_length xs)) e);
  }
    where
      apart_from : (S : List Tree) → ((i j : ℕ) → i < length S → j < length S → get_or S i (terminal 0) ≡ get_or S j (terminal 0) → i ≡ j) → Apart ◌≡◌ S
      apart_from [] a = tt
      apart_from (x ∷ S) a = (
        each_in (λ y. x ≡ y → ⊥) S (λ y i e. let r = in_index y S i in let z : 0 ≡ suc r.0 = a 0 (suc r.0) (omega arith) (omega (arith, r.1)) (e ∙ sym r.2) in omega (arith, z)),
        apart_from S (λ i j h k e. let z : suc i ≡ suc j = a (suc i) (suc j) (omega arith) (omega arith) e in omega arith),
      )

-- rows that begin with others

pub begins_push : (xs ys : List Node) → Begins xs (xs ++ ys)
begins_push [] ys = refl
begins_push (x ∷ xs) ys = ap (λ z. x ∷ z) (begins_push xs ys)

pub begins_take : (k : ℕ) (xs : List Node) → Begins (take k xs) xs
begins_take zero xs = refl
begins_take (suc k) [] = refl
begins_take (suc k) (x ∷ xs) = ap (λ z. x ∷ z) (begins_take k xs)

take_drop : (k : ℕ) (xs : List Node) → xs ≡ take k xs ++ drop k xs
take_drop zero [] = refl
take_drop zero (x ∷ xs) = refl
take_drop (suc k) [] = refl
take_drop (suc k) (x ∷ xs) = ap (λ z. x ∷ z) (take_drop k xs)

-- the trees of a front of a row are a front of its trees
pub trees_grow : (xs ys : List Node) → Begins xs ys → Grows (trees xs) (trees ys)
trees_grow xs ys b =
    let e : ys ≡ xs ++ drop (length xs) ys = take_drop (length xs) ys ∙ ap (λ z. z ++ drop (length xs) ys) b in
    subst (λ z. Grows (trees xs) (trees z)) (sym e) (subst (Grows (trees xs)) (sym (grow_app [] xs (drop (length xs) ys))) (grow_grows (trees xs) (drop (length xs) ys)))

-- an older code means what it meant
pub meant_later : (xs ys : List Node) → Begins xs ys → (c : ℕ) → c < 16 + length xs → meant ys c ≡ meant xs c
meant_later xs ys b c h = tree_grows (trees xs) (trees ys) c (trees_grow xs ys b) (omega (arith, trees_length xs))

-- a front of good nodes is good
pub good_front : (n k : ℕ) (xs : List Node) → k ≤ length xs → Good n xs → Good n (take k xs)
good_front n k xs h g =
    let l : length (take k xs) ≡ k = length-take-le k xs h in
    let b : Begins (take k xs) xs = ap (λ z. take z xs) l in
    let G : Grows (trees (take k xs)) (trees xs) = trees_grow (take k xs) xs b in
    let old : (i : ℕ) → i < k → get_or (trees (take k xs)) i (terminal 0) ≡ get_or (trees xs) i (terminal 0)
    = λ i lt. sym (get_or_grows (trees (take k xs)) (trees xs) i G (omega (arith, trees_length (take k xs)))) in
    record {
      older = λ i lt.
          let e : get_or (take k xs) i no_node ≡ get_or xs i no_node = get_or-take k xs i no_node (omega arith) in
          let o = g.older i (omega arith) in
          (subst (λ y. y.low < 16 + i) (sym e) o.0, subst (λ y. y.high < 16 + i) (sym e) o.1);
      neat = λ i lt. subst (Neat n 0) (sym (old i (omega arith))) (g.neat i (omega arith));
      apart = λ i j li lj e. g.apart i j (omega arith) (omega arith) (sym (old i (omega arith)) ∙ e ∙ old j (omega arith));
    }

pub good_take : (n k : ℕ) (xs : List Node) → Good n xs → Good n (take k xs)
good_take n k xs g = elim (cases_lt k (length xs)) [
  | inl h ↦ good_front n k xs (omega arith) g
  | inr h ↦ subst (Good n) (sym (take_all k xs h)) g
]

pub good_none : (n : ℕ) → Good n []
good_none n = record { older = λ i h. absurd (omega arith); neat = λ i h. absurd (omega arith); apart = λ i j h k e. absurd (omega arith) }

-- a code that names no node is the constant 0
pub meant_unknown : (xs : List Node) (c : ℕ) → 16 + length xs ≤ c → meant xs c ≡ terminal 0
meant_unknown xs c h = tree_get (trees xs) c (omega arith) ∙ past (trees xs) (c - 16) (omega (arith, trees_length xs))
  where
    past : (S : List Tree) (i : ℕ) → length S ≤ i → get_or S i (terminal 0) ≡ terminal 0
    past [] i h = refl
    past (x ∷ S) zero h = absurd (omega arith)
    past (x ∷ S) (suc i) h = past S i (omega arith)
