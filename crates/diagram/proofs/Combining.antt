-- How codes are built of the codes of their sides.
use Rattle.std.proofs.Common.{◌≡◌, ℕ, suc, ◌+◌, ◌-◌, ◌*◌, ◌<◌, ◌&&◌, ltb, List, length, get_or, Ok, Err, Result, sym, ap, ◌∙◌, subst, ap₂, subst₂, inl, inr, add-one, arith}
use Rattle.std.proofs.lemmas.Bool.{cases_Bool, cases_lt, cond-true, cond-false, lt-ltb, le-ltb, and_from, and_left, and_right}
use Rattle.effects.specs.Cells.{cell}
use Rattle.effects.specs.declared.tables.CodeTable.{CodeTable}
use Rattle.probing.specs.declared.node.Node.{Node}
use Rattle.diagram.specs.Tree.{Tree, Neat, same, mk, low, high, applied}
use Rattle.diagram.specs.Tree.Tree.{terminal, branch}
use Rattle.diagram.specs.Nodes.{trees, meant, Good, inserted, tested}
use Rattle.diagram.specs.Building.{Parted, Made, Refused, Answer}
use Rattle.diagram.specs.declared.store.Full.{Full}
use Rattle.diagram.specs.declared.store.Split.{Split}
use Rattle.diagram.proofs.Canon.{same_eq, mk_same, sides}
use Rattle.diagram.proofs.Applied.{applied_neat, applied_jump, applied_step, applied_terminal}
use Rattle.diagram.proofs.Inserted.{Closed, inserted_near, inserted_has, inserted_side, inserted_sides, closed_inserted}
use Rattle.diagram.proofs.Nodes.{tree_const, meant_later, trees_closed, begins_same, begins_trans}

-- a test behind what its sides hold is what the whole tree holds
pub tested_inserted : (S : List Tree) (k : ℕ) (l h : Tree) → Closed S → tested (inserted (inserted S l) h) k l h ≡ inserted S (mk k l h)
tested_inserted S k l h c = elim (cases_Bool (same l h)) [
  | inl e ↦
      let q : l ≡ h = same_eq l h e in
      cond-true (same l h) _ _ e
      ∙ ap (inserted (inserted S l)) (sym q) ∙ inserted_near (inserted S l) l (closed_inserted S l c) (inserted_has S l)
      ∙ ap (inserted S) (sym (mk_same k l h q))
  | inr e ↦ cond-false (same l h) _ _ e ∙ ap (inserted S) (sym (cond-false (same l h) l (branch k l h) e))
]

-- a terminal needs no node
pub made_terminal : (n : ℕ) (xs : List Node) → Good n xs → (t : Tree) (v : ℕ) → v < 16 → t ≡ terminal v → Made n xs xs (inserted (trees xs) t) t v
made_terminal n xs g t v h e = record {
  good = g;
  held = sym (ap (inserted (trees xs)) e);
  within = omega arith;
  means = tree_const (trees xs) v h ∙ sym e;
  begins = begins_same xs;
}

-- a tree J that is a test over Tl and Th: first Tl is built, then Th, and then the test
module _ (n slots : ℕ) (xs : List Node) (g : Good n xs) (J : Tree) (f : ℕ) (Tl Th : Tree) (eJ : J ≡ mk f Tl Th) where
  pub refused_low : (ys : List Node) → Refused slots xs ys (inserted (trees xs) Tl) → Refused slots xs ys (inserted (trees xs) J)
  refused_low ys r = record {
    full = rw eJ (omega (arith, r.full, inserted_side (trees xs) f Tl Th (trees_closed n xs g)));
    begins = r.begins;
  }

  module _ (ys : List Node) (lo : ℕ) (m₁ : Made n xs ys (inserted (trees xs) Tl) Tl lo) where
    pub refused_high : (zs : List Node) → Refused slots ys zs (inserted (trees ys) Th) → Refused slots xs zs (inserted (trees xs) J)
    refused_high zs r =
        let q : slots < length (inserted (inserted (trees xs) Tl) Th) = subst (λ S. slots < length (inserted S Th)) m₁.held r.full in
        record {
          full = rw eJ (omega (arith, q, inserted_sides (trees xs) f Tl Th (trees_closed n xs g)));
          begins = begins_trans xs ys zs m₁.begins r.begins;
        }

    module _ (zs : List Node) (hi : ℕ) (m₂ : Made n ys zs (inserted (trees ys) Th) Th hi) where
      pub low_there : meant zs lo ≡ Tl
      low_there = meant_later ys zs m₂.begins lo m₁.within ∙ m₁.means

      pub answered : (ws : List Node) (r : Result ℕ Full) → Answer n slots zs ws (tested (trees zs) f (meant zs lo) (meant zs hi)) (mk f (meant zs lo) (meant zs hi)) r
          → Answer n slots xs ws (inserted (trees xs) J) J r
      answered ws r a =
          let eS : trees zs ≡ inserted (inserted (trees xs) Tl) Th = m₂.held ∙ ap (λ S. inserted S Th) m₁.held in
          let e1 : tested (trees zs) f (meant zs lo) (meant zs hi) ≡ inserted (trees xs) J =
          ap₂ (λ x y. tested (trees zs) f x y) low_there m₂.means
          ∙ ap (λ S. tested S f Tl Th) eS ∙ tested_inserted (trees xs) f Tl Th (trees_closed n xs g) ∙ ap (inserted (trees xs)) (sym eJ) in
          let e2 : mk f (meant zs lo) (meant zs hi) ≡ J = ap₂ (mk f) low_there m₂.means ∙ sym eJ in
          go r (subst₂ (λ S T. Answer n slots zs ws S T r) e1 e2 a)
        where
          go : (r : Result ℕ Full) → Answer n slots zs ws (inserted (trees xs) J) J r → Answer n slots xs ws (inserted (trees xs) J) J r
          go (Ok c) b = record {
            good = b.good;
            held = b.held;
            within = b.within;
            means = b.means;
            begins = begins_trans xs zs ws (begins_trans xs ys zs m₁.begins m₂.begins) b.begins;
          }
          go (Err e) b = record { full = b.full; begins = begins_trans xs zs ws (begins_trans xs ys zs m₁.begins m₂.begins) b.begins }

-- two constants
pub combined_terminals : (n : ℕ) (xs : List Node) → Good n xs → (op : ℕ → ℕ → ℕ) (m k a b : ℕ) → a < 16 → b < 16 → op a b < 16
    → Made n xs xs (inserted (trees xs) (applied op m k (meant xs a) (meant xs b))) (applied op m k (meant xs a) (meant xs b)) (op a b)
combined_terminals n xs g op m k a b ha hb hs =
    made_terminal n xs g (applied op m k (meant xs a) (meant xs b)) (op a b) hs
    (ap₂ (applied op m k) (tree_const (trees xs) a ha) (tree_const (trees xs) b hb) ∙ applied_terminal op m k a b)

-- two codes that part
module _ (n k : ℕ) (xs : List Node) (a b : ℕ) (p : Split) (P : Parted n k xs a b p) where
  abbrev f : ℕ
  f = p.fact

  later : (c : ℕ) (t : Tree) → meant xs c ≡ t → Neat n (suc f) t → Neat n (f + 1) (meant xs c)
  later c t e w = subst (Neat n (f + 1)) (sym e) (subst (λ j. Neat n j t) (sym (add-one f)) w)

  pub low_first : Neat n (p.fact + 1) (meant xs p.first.low)
  low_first = later _ _ P.first.low_means (sides n f _ P.first_neat).low_neat

  pub low_second : Neat n (p.fact + 1) (meant xs p.second.low)
  low_second = later _ _ P.second.low_means (sides n f _ P.second_neat).low_neat

  pub high_first : Neat n (p.fact + 1) (meant xs p.first.high)
  high_first = later _ _ P.first.high_means (sides n f _ P.first_neat).high_neat

  pub high_second : Neat n (p.fact + 1) (meant xs p.second.high)
  high_second = later _ _ P.second.high_means (sides n f _ P.second_neat).high_neat

  -- an operation on them, on their low sides and on their high sides
  module _ (op : ℕ → ℕ → ℕ) where
    abbrev pub both : Tree
    both = applied op (n - k) k (meant xs a) (meant xs b)

    abbrev pub lows : Tree
    lows = applied op (n - (p.fact + 1)) (p.fact + 1) (meant xs p.first.low) (meant xs p.second.low)

    abbrev pub highs : List Node → Tree
    highs ys = applied op (n - (p.fact + 1)) (p.fact + 1) (meant ys p.first.high) (meant ys p.second.high)

    whole : both ≡ mk f lows (highs xs)
    whole =
        let m : ℕ = n - (f + 1) in
        applied_jump op n (n - k) (suc m) k f (omega (arith, P.from, P.below)) (omega (arith, P.below)) P.from (meant xs a) (meant xs b) P.first_neat P.second_neat
        ∙ applied_step op m f (meant xs a) (meant xs b)
        ∙ ap (λ j. mk f (applied op m j (low f (meant xs a)) (low f (meant xs b))) (applied op m j (high f (meant xs a)) (high f (meant xs b)))) (sym (add-one f))
        ∙ ap₂ (mk f)
        (ap₂ (applied op m (f + 1)) (sym P.first.low_means) (sym P.second.low_means))
        (ap₂ (applied op m (f + 1)) (sym P.first.high_means) (sym P.second.high_means))

    module _ (slots : ℕ) (g : Good n xs) where
      pub combined_refused_low : (ys : List Node) → Refused slots xs ys (inserted (trees xs) lows) → Refused slots xs ys (inserted (trees xs) both)
      combined_refused_low = refused_low n slots xs g both f lows (highs xs) whole

      module _ (ys : List Node) (lo : ℕ) (m₁ : Made n xs ys (inserted (trees xs) lows) lows lo) where
        same_highs : highs ys ≡ highs xs
        same_highs = ap₂ (applied op (n - (f + 1)) (f + 1)) (meant_later xs ys m₁.begins p.first.high P.first.high_within) (meant_later xs ys m₁.begins p.second.high P.second.high_within)

        pub high_first_later : Neat n (p.fact + 1) (meant ys p.first.high)
        high_first_later = subst (Neat n (f + 1)) (sym (meant_later xs ys m₁.begins p.first.high P.first.high_within)) high_first

        pub high_second_later : Neat n (p.fact + 1) (meant ys p.second.high)
        high_second_later = subst (Neat n (f + 1)) (sym (meant_later xs ys m₁.begins p.second.high P.second.high_within)) high_second

        pub combined_refused_high : (zs : List Node) → Refused slots ys zs (inserted (trees ys) (highs ys)) → Refused slots xs zs (inserted (trees xs) both)
        combined_refused_high zs r = refused_high n slots xs g both f lows (highs xs) whole ys lo m₁ zs (subst (λ T. Refused slots ys zs (inserted (trees ys) T)) same_highs r)

        module _ (zs : List Node) (hi : ℕ) (m₂ : Made n ys zs (inserted (trees ys) (highs ys)) (highs ys) hi) where
          m₂' : Made n ys zs (inserted (trees ys) (highs xs)) (highs xs) hi
          m₂' = subst (λ T. Made n ys zs (inserted (trees ys) T) T hi) same_highs m₂

          pub combined_low_neat : Neat n (p.fact + 1) (meant zs lo)
          combined_low_neat = subst (Neat n (f + 1)) (sym (low_there n slots xs g both f lows (highs xs) whole ys lo m₁ zs hi m₂')) (applied_neat op n (n - (f + 1)) (f + 1) (omega (arith, P.below)) _ _)

          pub combined_high_neat : Neat n (p.fact + 1) (meant zs hi)
          combined_high_neat = subst (Neat n (f + 1)) (sym m₂.means) (applied_neat op n (n - (f + 1)) (f + 1) (omega (arith, P.below)) _ _)

          pub combined : (ws : List Node) (r : Result ℕ Full) → Answer n slots zs ws (tested (trees zs) f (meant zs lo) (meant zs hi)) (mk f (meant zs lo) (meant zs hi)) r
              → Answer n slots xs ws (inserted (trees xs) both) both r
          combined = answered n slots xs g both f lows (highs xs) whole ys lo m₁ zs hi m₂'

-- what a table of codes says is a code
pub cell_small : (t : CodeTable) (a b : ℕ) → cell t.cells a b < 16
cell_small t a b = elim (cases_lt a 16) [
  | inl ha ↦ elim (cases_lt b 16) [
    | inl hb ↦ subst (λ v. v < 16) (sym (cond-true (ltb a 16 && ltb b 16) (get_or t.cells (a * 16 + b) 0) 0 (and_from (ltb a 16) (ltb b 16) (lt-ltb a 16 ha) (lt-ltb b 16 hb)))) (t.small (a * 16 + b) (omega arith))
    | inr hb ↦ subst (λ v. v < 16) (sym (cond-false (ltb a 16 && ltb b 16) (get_or t.cells (a * 16 + b) 0) 0 (and_right (ltb a 16) (ltb b 16) (le-ltb b 16 hb)))) (omega arith)
  ]
  | inr ha ↦ subst (λ v. v < 16) (sym (cond-false (ltb a 16 && ltb b 16) (get_or t.cells (a * 16 + b) 0) 0 (and_left (ltb a 16) (ltb b 16) (le-ltb a 16 ha)))) (omega arith)
]
