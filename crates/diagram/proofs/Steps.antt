-- What a test of a fact over two codes makes of a row of nodes.
use Rattle.std.proofs.Common.{◌≡◌, ℕ, zero, suc, ◌+◌, ◌<◌, ◌≤◌, true, false, ◌&&◌, eqb, ltb, List, [], ◌∷◌, ◌++◌, length, get_or, Some, None, Option, sym, refl, ap, ◌∙◌, subst, inl, inr, add-one, arith, length-append}
use lib.Seq.{get_or_at}
use Rattle.std.proofs.lemmas.Bool.{cases_Bool, cond-true, cond-false, cases_lt, lt-ltb, le-ltb, eq-eqb, eqb-true, and_parts, and_from, both_ways}
use Rattle.probing.specs.Kinds.{node_same}
use Rattle.probing.specs.Table.{number_from, number_of, answered, extended, numbered, grown}
use Rattle.probing.specs.declared.node.Node.{Node}
use Rattle.diagram.specs.Tree.{Tree, Neat, same, mk}
use Rattle.diagram.specs.Tree.Tree.{terminal, branch}
use Rattle.diagram.specs.Nodes.{trees, meant, branch_of, no_node, Good, In, once, tested}
use Rattle.diagram.specs.Building.{Made, Refused}
use Rattle.diagram.proofs.Canon.{same_eq, same_refl, mk_same, mk_other}
use Rattle.diagram.proofs.Inserted.{once_in, once_out}
use Rattle.diagram.proofs.Nodes.{grow_app, trees_length, trees_at, tree_node, tree_inj, in_index, index_in, good_push, begins_same, begins_push}

-- the number of a node that is there
found_from : (x : Node) (n : ℕ) (ks : List Node) (i : ℕ) → number_from node_same x n ks ≡ Some i
    → (j : ℕ) × (i ≡ n + j) × (j < length ks) × (node_same (get_or ks j no_node) x ≡ true)
found_from x n [] i e = let z : ◌≡◌ {A = ℕ} 0 1 = cc in absurd (omega arith)
found_from x n (k ∷ ks) i e = elim (cases_Bool (node_same k x)) [
  | inl t ↦ let q : Some n ≡ Some i = sym (cond-true (node_same k x) _ _ t) ∙ e in let p : n ≡ i = cc in (0, omega arith, omega arith, t)
  | inr t ↦ let r = found_from x (n + 1) ks i (sym (cond-false (node_same k x) _ _ t) ∙ e) in (suc r.0, omega (arith, r.1), omega (arith, r.2), r.3)
]

-- a refused insertion changes nothing
pub none_still : (x : Node) (slots : ℕ) (xs ys : List Node) → None ≡ numbered node_same x slots xs → ys ≡ grown node_same x slots xs → ys ≡ xs
none_still x slots xs ys a b = go (number_of node_same x xs) a b
  where
    go : (o : Option ℕ) → None ≡ answered slots xs o → ys ≡ extended slots xs x o → ys ≡ xs
    go (Some j) p q = q
    go None p q = elim (cases_lt (length xs) slots) [
      | inl h ↦ let p' : None ≡ Some (length xs) = p ∙ cond-true (ltb (length xs) slots) _ _ (lt-ltb (length xs) slots h) in let z : ◌≡◌ {A = ℕ} 0 1 = cc in absurd (omega arith)
      | inr h ↦ q ∙ cond-false (ltb (length xs) slots) _ _ (le-ltb (length xs) slots h)
    ]

-- of one that is not
missing_from : (x : Node) (n : ℕ) (ks : List Node) → number_from node_same x n ks ≡ None → (j : ℕ) → j < length ks → node_same (get_or ks j no_node) x ≡ false
missing_from x n [] e j h = absurd (omega arith)
missing_from x n (k ∷ ks) e zero h = elim (cases_Bool (node_same k x)) [
  | inl t ↦ let q : Some n ≡ None = sym (cond-true (node_same k x) _ _ t) ∙ e in let z : ◌≡◌ {A = ℕ} 0 1 = cc in absurd (omega arith)
  | inr t ↦ t
]
missing_from x n (k ∷ ks) e (suc j) h = elim (cases_Bool (node_same k x)) [
  | inl t ↦ let q : Some n ≡ None = sym (cond-true (node_same k x) _ _ t) ∙ e in let z : ◌≡◌ {A = ℕ} 0 1 = cc in absurd (omega arith)
  | inr t ↦ missing_from x (n + 1) ks (sym (cond-false (node_same k x) _ _ t) ∙ e) j (omega arith)
]

module _ (n : ℕ) (xs : List Node) (g : Good n xs) (f lo hi : ℕ) (hl : lo < 16 + length xs) (hh : hi < 16 + length xs) where
  abbrev x : Node
  x = record { fact = f; low = lo; high = hi }

  abbrev IsMade : List Node → ℕ → Type 0
  IsMade ys c = Made n xs ys (tested (trees xs) f (meant xs lo) (meant xs hi)) (mk f (meant xs lo) (meant xs hi)) c

  -- both sides are the same
  pub made_same : lo ≡ hi → Made n xs xs (tested (trees xs) f (meant xs lo) (meant xs hi)) (mk f (meant xs lo) (meant xs hi)) lo
  made_same e =
      let q : meant xs lo ≡ meant xs hi = ap (meant xs) e in
      let s : same (meant xs lo) (meant xs hi) ≡ true = subst (λ t. same (meant xs lo) t ≡ true) q (same_refl (meant xs lo)) in
      record {
        good = g;
        held = sym (cond-true (same (meant xs lo) (meant xs hi)) (trees xs) (once (trees xs) (branch f (meant xs lo) (meant xs hi))) s);
        within = hl;
        means = sym (mk_same f (meant xs lo) (meant xs hi) q);
        begins = begins_same xs;
      }

  module _ (d : lo ≡ hi → ⊥) where
    apart_sides : meant xs lo ≡ meant xs hi → ⊥
    apart_sides e = d (tree_inj n xs g lo hi hl hh e)

    tested_apart : tested (trees xs) f (meant xs lo) (meant xs hi) ≡ once (trees xs) (branch f (meant xs lo) (meant xs hi))
    tested_apart = elim (cases_Bool (same (meant xs lo) (meant xs hi))) [
      | inl e ↦ absurd (apart_sides (same_eq _ _ e))
      | inr e ↦ cond-false _ _ _ e
    ]

    -- the node is there
    made_found : (i : ℕ) → i < length xs → node_same (get_or xs i no_node) (record { fact = f; low = lo; high = hi }) ≡ true
        → Made n xs xs (tested (trees xs) f (meant xs lo) (meant xs hi)) (mk f (meant xs lo) (meant xs hi)) (16 + i)
    made_found i h t =
        let y : Node = get_or xs i no_node in
        let p = and_parts (eqb y.fact f) (eqb y.low lo && eqb y.high hi) t in
        let r = and_parts (eqb y.low lo) (eqb y.high hi) p.1 in
        let ef : y.fact ≡ f = eqb-true y.fact f p.0 in
        let el : y.low ≡ lo = eqb-true y.low lo r.0 in
        let eh : y.high ≡ hi = eqb-true y.high hi r.1 in
        let T : Tree = branch f (meant xs lo) (meant xs hi) in
        let e0 : branch_of (trees xs) y ≡ T = cc in
        let e1 : get_or (trees xs) i (terminal 0) ≡ T = trees_at n xs g i h ∙ e0 in
        let isIn : In T (trees xs) = subst (λ s. In s (trees xs)) e1 (index_in (trees xs) i (omega (arith, trees_length xs))) in
        let em : meant xs (16 + i) ≡ T = tree_node n xs g (16 + i) (omega arith) (omega arith) ∙ ap (λ k. branch_of (trees xs) (get_or xs k no_node)) (omega arith) ∙ e0 in
        record {
          good = g;
          held = sym (tested_apart ∙ once_in (trees xs) T isIn);
          within = omega arith;
          means = em ∙ sym (mk_other f (meant xs lo) (meant xs hi) apart_sides);
          begins = begins_same xs;
        }

    -- it is not there
    module _ (none : (j : ℕ) → j < length xs → node_same (get_or xs j no_node) (record { fact = f; low = lo; high = hi }) ≡ false) where
      out : In (branch f (meant xs lo) (meant xs hi)) (trees xs) → ⊥
      out isIn =
          let r = in_index _ (trees xs) isIn in
          let k : ℕ = r.0 in
          let h : k < length xs = omega (arith, r.1, trees_length xs) in
          let y : Node = get_or xs k no_node in
          let o = g.older k h in
          let q : branch_of (trees xs) y ≡ branch f (meant xs lo) (meant xs hi) = sym (trees_at n xs g k h) ∙ r.2 in
          let ef : y.fact ≡ f = cc in
          let el : meant xs y.low ≡ meant xs lo = cc in
          let eh : meant xs y.high ≡ meant xs hi = cc in
          let ql : y.low ≡ lo = tree_inj n xs g y.low lo (omega (arith, o.0)) hl el in
          let qh : y.high ≡ hi = tree_inj n xs g y.high hi (omega (arith, o.1)) hh eh in
          both_ways (node_same y (record { fact = f; low = lo; high = hi })) (none k h)
          (and_from (eqb y.fact f) _ (eq-eqb y.fact f ef) (and_from (eqb y.low lo) (eqb y.high hi) (eq-eqb y.low lo ql) (eq-eqb y.high hi qh)))

      grown_trees : tested (trees xs) f (meant xs lo) (meant xs hi) ≡ trees xs ++ (branch f (meant xs lo) (meant xs hi) ∷ [])
      grown_trees = tested_apart ∙ once_out (trees xs) _ out

      made_full : (slots : ℕ) → slots ≤ length xs → Refused slots xs xs (tested (trees xs) f (meant xs lo) (meant xs hi))
      made_full slots h = record {
        full = rw (grown_trees, length-append) (omega (arith, trees_length xs));
        begins = begins_same xs;
      }

      made_new : (f < n) → Neat n (f + 1) (meant xs lo) → Neat n (f + 1) (meant xs hi)
          → Made n xs (xs ++ (record { fact = f; low = lo; high = hi }) ∷ []) (tested (trees xs) f (meant xs lo) (meant xs hi)) (mk f (meant xs lo) (meant xs hi)) (16 + length xs)
      made_new hf wl wh =
          let T : Tree = branch f (meant xs lo) (meant xs hi) in
          let node : Node = record { fact = f; low = lo; high = hi } in
          let ys : List Node = xs ++ node ∷ [] in
          let nl : Neat n (suc f) (meant xs lo) = subst (λ k. Neat n k (meant xs lo)) (add-one f) wl in
          let nh : Neat n (suc f) (meant xs hi) = subst (λ k. Neat n k (meant xs hi)) (add-one f) wh in
          let g' : Good n ys = good_push n xs node g hl hh (omega arith, hf, nl, nh, apart_sides) out in
          let ly : length ys ≡ length xs + 1 = length-append xs (node ∷ []) in
          let eS : trees ys ≡ trees xs ++ (T ∷ []) = grow_app [] xs (node ∷ []) in
          let em : meant ys (16 + length xs) ≡ T =
          cond-false (ltb (16 + length xs) 16) (terminal (16 + length xs)) _ (le-ltb (16 + length xs) 16 (omega arith))
          ∙ ap (λ k. get_or (trees ys) k (terminal 0)) (omega arith) ∙ ap (λ S. get_or S (length xs) (terminal 0)) eS
          ∙ get_or_at (trees xs) T [] (terminal 0) (length xs) (trees_length xs) in
          record {
            good = g';
            held = eS ∙ sym grown_trees;
            within = omega arith;
            means = em ∙ sym (mk_other f (meant xs lo) (meant xs hi) apart_sides);
            begins = begins_push xs (node ∷ []);
          }

    -- what an insertion into the table answers
    pub made_some : (f < n) → Neat n (f + 1) (meant xs lo) → Neat n (f + 1) (meant xs hi) → (slots : ℕ) (ys : List Node) (i : ℕ)
        → Some i ≡ numbered node_same (record { fact = f; low = lo; high = hi }) slots xs → ys ≡ grown node_same (record { fact = f; low = lo; high = hi }) slots xs
        → Made n xs ys (tested (trees xs) f (meant xs lo) (meant xs hi)) (mk f (meant xs lo) (meant xs hi)) (16 + i)
    made_some hf wl wh slots ys i a b = go (number_of node_same x xs) refl a b
      where
        go : (o : Option ℕ) → number_of node_same x xs ≡ o → Some i ≡ answered slots xs o → ys ≡ extended slots xs x o → IsMade ys (16 + i)
        go (Some j) e p q =
            let r = found_from x 0 xs j e in
            let ei : i ≡ r.0 = let ij : i ≡ j = cc in omega (arith, r.1) in
            subst (λ zs. IsMade zs (16 + i)) (sym q) (subst (λ k. IsMade xs (16 + k)) (sym ei) (made_found r.0 r.2 r.3))
        go None e p q = elim (cases_lt (length xs) slots) [
          | inl h ↦
              let p' : Some i ≡ Some (length xs) = p ∙ cond-true (ltb (length xs) slots) _ _ (lt-ltb (length xs) slots h) in
              let ei : i ≡ length xs = cc in
              let q' : ys ≡ xs ++ x ∷ [] = q ∙ cond-true (ltb (length xs) slots) _ _ (lt-ltb (length xs) slots h) in
              subst (λ zs. IsMade zs (16 + i)) (sym q') (subst (λ k. IsMade (xs ++ x ∷ []) (16 + k)) (sym ei) (made_new (missing_from x 0 xs e) hf wl wh))
          | inr h ↦
              let p' : Some i ≡ None = p ∙ cond-false (ltb (length xs) slots) _ _ (le-ltb (length xs) slots h) in
              let z : ◌≡◌ {A = ℕ} 0 1 = cc in absurd (omega arith)
        ]

    pub made_none : (slots : ℕ) (ys : List Node)
        → None ≡ numbered node_same (record { fact = f; low = lo; high = hi }) slots xs → ys ≡ grown node_same (record { fact = f; low = lo; high = hi }) slots xs
        → Refused slots xs ys (tested (trees xs) f (meant xs lo) (meant xs hi))
    made_none slots ys a b = go (number_of node_same x xs) refl a b
      where
        go : (o : Option ℕ) → number_of node_same x xs ≡ o → None ≡ answered slots xs o → ys ≡ extended slots xs x o
            → Refused slots xs ys (tested (trees xs) f (meant xs lo) (meant xs hi))
        go (Some j) e p q = let z : ◌≡◌ {A = ℕ} 0 1 = cc in absurd (omega arith)
        go None e p q = elim (cases_lt (length xs) slots) [
          | inl h ↦
              let p' : None ≡ Some (length xs) = p ∙ cond-true (ltb (length xs) slots) _ _ (lt-ltb (length xs) slots h) in
              let z : ◌≡◌ {A = ℕ} 0 1 = cc in absurd (omega arith)
          | inr h ↦
              let q' : ys ≡ xs = q ∙ cond-false (ltb (length xs) slots) _ _ (le-ltb (length xs) slots h) in
              subst (λ zs. Refused slots xs zs (tested (trees xs) f (meant xs lo) (meant xs hi))) (sym q') (made_full (missing_from x 0 xs e) slots h)
        ]

    -- whatever it answered, the nodes after it are good
    pub good_after : (f < n) → Neat n (f + 1) (meant xs lo) → Neat n (f + 1) (meant xs hi) → (slots : ℕ) (ys : List Node) (o : Option ℕ)
        → o ≡ numbered node_same (record { fact = f; low = lo; high = hi }) slots xs → ys ≡ grown node_same (record { fact = f; low = lo; high = hi }) slots xs
        → Good n ys
    good_after hf wl wh slots ys (Some i) a b = (made_some hf wl wh slots ys i a b).good
    good_after hf wl wh slots ys None a b = subst (Good n) (sym (none_still x slots xs ys a b)) g

-- a number that was answered is below the slots
pub numbered_below : (x : Node) (slots : ℕ) (xs : List Node) (i : ℕ) → length xs ≤ slots → Some i ≡ numbered node_same x slots xs → i < slots
numbered_below x slots xs i l a = go (number_of node_same x xs) refl a
  where
    go : (o : Option ℕ) → number_of node_same x xs ≡ o → Some i ≡ answered slots xs o → i < slots
    go (Some j) e p = let r = found_from x 0 xs j e in let ij : i ≡ j = cc in omega (arith, r.1, r.2)
    go None e p = elim (cases_lt (length xs) slots) [
      | inl h ↦ let p' : Some i ≡ Some (length xs) = p ∙ cond-true (ltb (length xs) slots) _ _ (lt-ltb (length xs) slots h) in let ei : i ≡ length xs = cc in omega arith
      | inr h ↦ let p' : Some i ≡ None = p ∙ cond-false (ltb (length xs) slots) _ _ (le-ltb (length xs) slots h) in let z : ◌≡◌ {A = ℕ} 0 1 = cc in absurd (omega arith)
    ]
