-- What stands where in a list, and after a write.
use Rattle.std.proofs.Common.{◌≡◌, ℕ, zero, suc, ◌<◌, ◌⊎◌, List, [], ◌∷◌, ◌++◌, map, length, get_or, take, drop, set, replicate, sym, refl, ap, ◌∙◌, inl, inr, arith}
use Rattle.std.proofs.lemmas.List.{get_or_default, length-set, get_or-set_same, get_or-set_other}
use Rattle.std.proofs.lemmas.Bool.{cases_order}
use Rattle.probing.specs.Table.{Holds}

module _ {X : Type 0} where
  pub holds_same : (xs : List X) (i : ℕ) (x y : X) → Holds xs i x → Holds xs i y → x ≡ y
  holds_same xs i x y a b = a.1 ∙ get_or_default xs i x y a.0 ∙ sym b.1

  -- what is read at a place stands there
  pub holds_read : (xs : List X) (i : ℕ) (d : X) → i < length xs → Holds xs i (get_or xs i d)
  holds_read xs i d l = (l, get_or_default xs i d (get_or xs i d) l)

  -- something stands at each place
  pub at_place : (xs : List X) (i : ℕ) → i < length xs → (x : X) × Holds xs i x
  at_place [] i l = absurd (omega arith)
  at_place (x ∷ xs) zero l = (x, (omega arith, refl))
  at_place (x ∷ xs) (suc i) l = let r = at_place xs i (omega arith) in (r.0, (omega (arith, r.1.0), r.1.1))

  pub holds_set : (xs : List X) (i j : ℕ) (x y : X) → i < length xs → Holds (set xs i x) j y → ((j ≡ i) × (y ≡ x)) ⊎ ((j ≡ i → ⊥) × Holds xs j y)
  holds_set xs i j x y l h = elim (cases_order j i) [
    | inl e ↦ inl (e, h.1 ∙ ap (λ k. get_or (set xs i x) k y) e ∙ get_or-set_same xs i x y l)
    | inr o ↦ let ne : j ≡ i → ⊥ = omega_ne j i o in inr (ne, (simp length-set at h.0, h.1 ∙ get_or-set_other xs i j x y ne))
  ]
    where
      omega_ne : (j i : ℕ) → (j < i) ⊎ (i < j) → j ≡ i → ⊥
      omega_ne j i o e = elim o [ inl a ↦ omega arith | inr b ↦ omega arith ]

  pub holds_take : (xs : List X) (c n : ℕ) (x : X) → Holds (take c xs) n x → (n < c) × Holds xs n x
  holds_take xs zero n x h = absurd (omega (arith, h.0))
  holds_take [] (suc c) n x h = absurd (omega (arith, h.0))
  holds_take (y ∷ ys) (suc c) zero x h = (omega arith, (omega arith, h.1))
  holds_take (y ∷ ys) (suc c) (suc n) x h = let r = holds_take ys c n x (omega (arith, h.0), h.1) in (omega (arith, r.0), (omega (arith, r.1.0), r.1.1))

  pub holds_taken : (xs : List X) (c n : ℕ) (x : X) → n < c → Holds xs n x → Holds (take c xs) n x
  holds_taken xs zero n x l h = absurd (omega arith)
  holds_taken [] (suc c) n x l h = absurd (omega (arith, h.0))
  holds_taken (y ∷ ys) (suc c) zero x l h = (omega arith, h.1)
  holds_taken (y ∷ ys) (suc c) (suc n) x l h = let r = holds_taken ys c n x (omega arith) (omega (arith, h.0), h.1) in (omega (arith, r.0), r.1)

  pub holds_push : (xs : List X) (k : X) (n : ℕ) (x : X) → Holds (xs ++ k ∷ []) n x → Holds xs n x ⊎ ((n ≡ length xs) × (x ≡ k))
  holds_push [] k zero x h = inr (refl, h.1)
  holds_push [] k (suc n) x h = absurd (omega (arith, h.0))
  holds_push (y ∷ ys) k zero x h = inl (omega arith, h.1)
  holds_push (y ∷ ys) k (suc n) x h = elim (holds_push ys k n x (omega (arith, h.0), h.1)) [
    | inl a ↦ inl (omega (arith, a.0), a.1)
    | inr b ↦ inr (omega (arith, b.0), b.1)
  ]

  pub drop_set_past : (xs : List X) (i m : ℕ) (x : X) → i < m → drop m (set xs i x) ≡ drop m xs
  drop_set_past xs i zero x l = absurd (omega arith)
  drop_set_past [] i (suc m) x l = refl
  drop_set_past (y ∷ ys) zero (suc m) x l = refl
  drop_set_past (y ∷ ys) (suc i) (suc m) x l = drop_set_past ys i m x (omega arith)

  -- the same written everywhere
  pub map_const : {Y : Type 0} (y : Y) (xs : List X) → map (λ _. y) xs ≡ replicate (length xs) y
  map_const y [] = refl
  map_const y (x ∷ xs) = ap (λ r. y ∷ r) (map_const y xs)

module _ {X Y : Type 0} (f : X → Y) where
  pub map_set : (xs : List X) (i : ℕ) (x : X) → map f (set xs i x) ≡ set (map f xs) i (f x)
  map_set [] i x = refl
  map_set (y ∷ ys) zero x = refl
  map_set (y ∷ ys) (suc i) x = ap (λ r. f y ∷ r) (map_set ys i x)

  pub holds_mapped : (xs : List X) (i : ℕ) (x : X) → Holds xs i x → Holds (map f xs) i (f x)
  holds_mapped [] i x h = absurd (omega (arith, h.0))
  holds_mapped (y ∷ ys) zero x h = (omega arith, ap f h.1)
  holds_mapped (y ∷ ys) (suc i) x h = let r = holds_mapped ys i x (omega (arith, h.0), h.1) in (omega (arith, r.0), r.1)
