-- How the diagrams of "any fact" and "every fact" are built, fact by fact.
use Rattle.std.proofs.Common.{◌≡◌, ℕ, suc, ◌+◌, ◌-◌, ◌<◌, ◌≤◌, Bool, true, false, cond, List, Result, sym, refl, ap, ◌∙◌, subst, inl, inr, add-one, arith}
use mir.Val.{bool_byte}
use Rattle.std.proofs.lemmas.Bool.{cases_Bool}
use Rattle.probing.specs.declared.node.Node.{Node}
use Rattle.diagram.specs.Requests.{present}
use Rattle.diagram.specs.Tree.{Tree, Neat, mk, rung, ladder}
use Rattle.diagram.specs.Tree.Tree.{terminal}
use Rattle.diagram.specs.Nodes.{trees, meant, Good, inserted, tested}
use Rattle.diagram.specs.Building.{Made, Refused, Answer}
use Rattle.diagram.specs.declared.store.Full.{Full}
use Rattle.diagram.proofs.Ladders.{ladder_in, ladder_out, ladder_end, ladder_neat}
use Rattle.diagram.proofs.Combining.{made_terminal, refused_low, refused_high, answered}

-- 1 or 0, as a number
pub byte_end : (b : Bool) (v : ℕ) → v ≡ bool_byte b → (cond b 1 0 ≡ v) × (v < 16)
byte_end true v e = (sym e, omega (arith, e))
byte_end false v e = (sym e, omega (arith, e))

-- no fact is left
pub end_made : (n k : ℕ) (xs : List Node) → Good n xs → (every : Bool) (mask v : ℕ) → n ≤ k → cond every 1 0 ≡ v → v < 16
    → Made n xs xs (inserted (trees xs) (ladder every mask (n - k) k)) (ladder every mask (n - k) k) v
end_made n k xs g every mask v h e b =
    let z : n - k ≡ 0 = omega arith in
    made_terminal n xs g (ladder every mask (n - k) k) v b (ap (λ m. ladder every mask m k) z ∙ ladder_end every mask k ∙ ap terminal e)

module _ (n slots k : ℕ) (h : k < n) (xs : List Node) (g : Good n xs) (every : Bool) (mask : ℕ) where
  -- the later facts alone, and with fact k
  abbrev pub rest : Tree
  rest = ladder every mask (n - (k + 1)) (k + 1)

  abbrev pub all_of : Tree
  all_of = ladder every mask (n - k) k

  at_suc : all_of ≡ ladder every mask (suc (n - (k + 1))) k
  at_suc = let e : n - k ≡ suc (n - (k + 1)) = omega arith in ap (λ m. ladder every mask m k) e

  back : ladder every mask (n - (k + 1)) (suc k) ≡ rest
  back = ap (ladder every mask (n - (k + 1))) (sym (add-one k))

  is_rung : present mask k ≡ true → all_of ≡ rung every k rest
  is_rung p = at_suc ∙ ladder_in every mask (n - (k + 1)) k p ∙ ap (rung every k) back

  is_rest : present mask k ≡ false → all_of ≡ rest
  is_rest p = at_suc ∙ ladder_out every mask (n - (k + 1)) k p ∙ back

  none : Made n xs xs (inserted (trees xs) (terminal 0)) (terminal 0) 0
  none = made_terminal n xs g (terminal 0) 0 (omega arith) refl

  -- there are too few slots for the later facts
  pub rest_refused : (ys : List Node) → Refused slots xs ys (inserted (trees xs) rest) → Refused slots xs ys (inserted (trees xs) all_of)
  rest_refused ys r = elim (cases_Bool (present mask k)) [
    | inl p ↦ go every refl p
    | inr p ↦ subst (λ T. Refused slots xs ys (inserted (trees xs) T)) (sym (is_rest p)) r
  ]
    where
      go : (b : Bool) → every ≡ b → present mask k ≡ true → Refused slots xs ys (inserted (trees xs) all_of)
      go true e p = refused_high n slots xs g all_of k (terminal 0) rest (is_rung p ∙ ap (λ b. rung b k rest) e) xs 0 none ys r
      go false e p = refused_low n slots xs g all_of k rest (terminal 1) (is_rung p ∙ ap (λ b. rung b k rest) e) ys r

  module _ (ys : List Node) (c : ℕ) (m : Made n xs ys (inserted (trees xs) rest) rest c) where
    -- fact k is not in the mask
    pub rest_made : present mask k ≡ false → Made n xs ys (inserted (trees xs) all_of) all_of c
    rest_made p = subst (λ T. Made n xs ys (inserted (trees xs) T) T c) (sym (is_rest p)) m

    pub rest_neat : Neat n (k + 1) (meant ys c)
    rest_neat = subst (Neat n (k + 1)) (sym m.means) (ladder_neat every mask n (n - (k + 1)) (k + 1) (omega arith))

    -- it is, and every fact counts
    pub every_made : present mask k ≡ true → every ≡ true → (zs : List Node) (r : Result ℕ Full)
        → Answer n slots ys zs (tested (trees ys) k (meant ys 0) (meant ys c)) (mk k (meant ys 0) (meant ys c)) r → Answer n slots xs zs (inserted (trees xs) all_of) all_of r
    every_made p e = answered n slots xs g all_of k (terminal 0) rest (is_rung p ∙ ap (λ b. rung b k rest) e) xs 0 none ys c m

    -- it is, and any fact counts
    pub any_made : present mask k ≡ true → every ≡ false → (zs : List Node) (r : Result ℕ Full)
        → Answer n slots ys zs (tested (trees ys) k (meant ys c) (meant ys 1)) (mk k (meant ys c) (meant ys 1)) r → Answer n slots xs zs (inserted (trees xs) all_of) all_of r
    any_made p e = answered n slots xs g all_of k rest (terminal 1) (is_rung p ∙ ap (λ b. rung b k rest) e) ys c m ys 1
        (made_terminal n ys m.good (terminal 1) 1 (omega arith) refl)
