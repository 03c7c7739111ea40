-- What the steps of the search for a first request leave to show.
use Rattle.std.proofs.Common.{◌≡◌, ℕ, suc, ◌+◌, ◌-◌, ◌^◌, ◌<◌, ◌≤◌, Bool, true, false, eqb, ltb, List, [], ◌∷◌, ◌++◌, length, Some, None, Option, sym, ◌∙◌, subst, ap₂, subst₂, inl, inr, add-one, arith}
use Rattle.std.proofs.lemmas.Nat.{pow_pos}
use Rattle.std.proofs.lemmas.Bool.{cases_Bool, cases_lt, cond-true, cond-false, lt-ltb, le-ltb, eqb-true, and_parts, both_ways, false≢true}
use Rattle.std.specs.Bool.{then_some}
use Rattle.std.specs.Option.{is_some}
use Rattle.probing.specs.Kinds.{pair_same}
use Rattle.probing.specs.Table.{number_from, number_of, extended, grown}
use Rattle.probing.specs.declared.node.Node.{Node}
use Rattle.probing.specs.declared.pair.Pair.{Pair}
use Rattle.diagram.specs.Tree.{says, low, high}
use Rattle.diagram.specs.Nodes.{trees, meant}
use Rattle.diagram.specs.Building.{Parted}
use Rattle.diagram.specs.Questions.{asks, Breaks, Kept, FirstFrom, WitnessFrom, Searched}
use Rattle.diagram.specs.declared.store.Split.{Split}
use Rattle.diagram.proofs.Elements.{each_append}
use Rattle.diagram.proofs.Nodes.{tree_const}
use Rattle.diagram.proofs.Requests.{add_fact}
use Rattle.diagram.proofs.First.{first_zero, first_skip, first_low, first_high, first_none}

-- two constants
module _ (n : ℕ) (xs : List Node) (q : List Bool) (a b : ℕ) (ha : a < 16) (hb : b < 16) where
  const_asks : (s : ℕ) → asks q (says (meant xs a) s) (says (meant xs b) s) ≡ asks q a b
  const_asks s = ap₂ (λ x y. asks q (says x s) (says y s)) (tree_const (trees xs) a ha) (tree_const (trees xs) b hb)

  const_kept : asks q a b ≡ false → Kept n q (says (meant xs a)) (says (meant xs b))
  const_kept e s h z = both_ways (asks q a b) e (sym (const_asks s) ∙ z)

  const_found : (k : ℕ) → k ≤ n → asks q a b ≡ true → FirstFrom n k (Breaks q (says (meant xs a)) (says (meant xs b))) 0
  const_found k h e = first_zero n k _ h (const_asks 0 ∙ e) (pow_pos n)

  -- the first request, if it breaks the question
  pub terminals : (k : ℕ) → k ≤ n → (r : Bool) → r ≡ asks q a b → WitnessFrom n k (Breaks q (says (meant xs a)) (says (meant xs b))) (then_some r 0)
  terminals k h true e = const_found k h (sym e)
  terminals k h false e = const_kept (sym e)

-- two codes that part
module _ (n k : ℕ) (xs : List Node) (q : List Bool) (a b : ℕ) (p : Split) (P : Parted n k xs a b p) where
  abbrev f : ℕ
  f = p.fact

  abbrev Found : ℕ → ℕ → Type 0
  Found j r = FirstFrom n j (Breaks q (says (meant xs a)) (says (meant xs b))) r

  down : (r : ℕ) → Found f r → Found k r
  down r w = first_skip n (f - k) k _ r (subst (λ j. Found j r) (omega (arith, P.from)) w)

  low_found : (r : ℕ) → FirstFrom n (f + 1) (Breaks q (says (meant xs p.first.low)) (says (meant xs p.second.low))) r → FirstFrom n (suc f) (Breaks q (says (low f (meant xs a))) (says (low f (meant xs b)))) r
  low_found r w = subst (λ j. FirstFrom n j (Breaks q (says (low f (meant xs a))) (says (low f (meant xs b)))) r) (add-one f)
      (subst₂ (λ x y. FirstFrom n (f + 1) (Breaks q (says x) (says y)) r) P.first.low_means P.second.low_means w)

  high_found : (r : ℕ) → FirstFrom n (f + 1) (Breaks q (says (meant xs p.first.high)) (says (meant xs p.second.high))) r → FirstFrom n (suc f) (Breaks q (says (high f (meant xs a))) (says (high f (meant xs b)))) r
  high_found r w = subst (λ j. FirstFrom n j (Breaks q (says (high f (meant xs a))) (says (high f (meant xs b)))) r) (add-one f)
      (subst₂ (λ x y. FirstFrom n (f + 1) (Breaks q (says x) (says y)) r) P.first.high_means P.second.high_means w)

  -- a break on the low side
  pub found_low : (r : ℕ) → FirstFrom n (p.fact + 1) (Breaks q (says (meant xs p.first.low)) (says (meant xs p.second.low))) r → FirstFrom n k (Breaks q (says (meant xs a)) (says (meant xs b))) r
  found_low r w = down r (first_low n f q _ _ P.first_neat P.second_neat r (low_found r w))

  -- none there
  module _ (no-low : Kept n q (says (meant xs p.first.low)) (says (meant xs p.second.low))) where
    no_low' : Kept n q (says (low f (meant xs a))) (says (low f (meant xs b)))
    no_low' = subst₂ (λ x y. Kept n q (says x) (says y)) P.first.low_means P.second.low_means no-low

    pub found_high : (r : ℕ) → FirstFrom n (p.fact + 1) (Breaks q (says (meant xs p.first.high)) (says (meant xs p.second.high))) r → FirstFrom n k (Breaks q (says (meant xs a)) (says (meant xs b))) (r + 2 ^ p.fact)
    found_high r w = down (r + 2 ^ f) (first_high n f q _ _ P.first_neat P.second_neat r P.below no_low' (high_found r w))

    pub found_none : Kept n q (says (meant xs p.first.high)) (says (meant xs p.second.high)) → Kept n q (says (meant xs a)) (says (meant xs b))
    found_none no-high = first_none n f q _ _ P.first_neat P.second_neat no_low'
        (subst₂ (λ x y. Kept n q (says x) (says y)) P.first.high_means P.second.high_means no-high)

  -- the request has room for the fact
  pub request_fits : (Q : ℕ → Type 0) (r : ℕ) → FirstFrom n (p.fact + 1) Q r → r + 2 ^ p.fact < 2 ^ n
  request_fits Q r w = (add_fact n f r P.below w.within (w.bare f (omega arith))).within

-- pairs that were searched
module _ (n : ℕ) (q : List Bool) (xs : List Node) where
  abbrev Clear : Pair → Type 0
  Clear p = Kept n q (says (meant xs p.first)) (says (meant xs p.second))

  same_clear : (x y : Pair) → pair_same x y ≡ true → Clear x → Clear y
  same_clear x y e c =
      let p = and_parts (eqb x.first y.first) (eqb x.second y.second) e in
      subst₂ (λ a b. Kept n q (says (meant xs a)) (says (meant xs b))) (eqb-true x.first y.first p.0) (eqb-true x.second y.second p.1) c

  -- one of them
  seen_from : (k : Pair) (m : ℕ) (ps : List Pair) (i : ℕ) → Some i ≡ number_from pair_same k m ps → Searched n q xs ps → Clear k
  seen_from k m [] i e s = let z : ◌≡◌ {A = ℕ} 0 1 = cc in absurd (omega arith)
  seen_from k m (p ∷ ps) i e s = elim (cases_Bool (pair_same p k)) [
    | inl t ↦ same_clear p k t s.0
    | inr t ↦ seen_from k (m + 1) ps i (e ∙ cond-false (pair_same p k) _ _ t) s.1
  ]

  pub seen_some : (k : Pair) (ps : List Pair) (o : Option ℕ) → is_some o ≡ true → o ≡ number_of pair_same k ps → Searched n q xs ps → Clear k
  seen_some k ps (Some i) t e s = seen_from k 0 ps i e s
  seen_some k ps None t e s = absurd (false≢true t)

  -- one more
  pub searched_more : (k : Pair) (slots : ℕ) (ps ps' : List Pair) → ps' ≡ grown pair_same k slots ps → Clear k → Searched n q xs ps → Searched n q xs ps'
  searched_more k slots ps ps' e c s = subst (Searched n q xs) (sym e) (go (number_of pair_same k ps))
    where
      go : (o : Option ℕ) → Searched n q xs (extended slots ps k o)
      go (Some i) = s
      go None = elim (cases_lt (length ps) slots) [
        | inl h ↦ subst (Searched n q xs) (sym (cond-true (ltb (length ps) slots) (ps ++ k ∷ []) ps (lt-ltb (length ps) slots h))) (each_append Clear ps (k ∷ []) s (c, tt))
        | inr h ↦ subst (Searched n q xs) (sym (cond-false (ltb (length ps) slots) (ps ++ k ∷ []) ps (le-ltb (length ps) slots h))) s
      ]
