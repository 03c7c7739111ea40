-- Folded texts, compared and gathered byte by byte.
use Rattle.std.proofs.Common.{◌≡◌, ℕ, ◌+◌, ◌<◌, ◌≤◌, true, false, ◌&&◌, eqb, List, [], ◌∷◌, map, length, get_or, drop, sym, refl, ap, ◌∙◌, arith}
use lib.Bits.{bit_xor}
use Rattle.std.specs.Str.{bytes_eq}
use Rattle.std.proofs.lemmas.List.{drop_more, drop_all}
use Rattle.std.proofs.lemmas.Bool.{eq-eqb, ne_eqb, and_right}
use Rattle.probing.specs.Mixing.{product, gathered}

module _ (f : ℕ → ℕ) where
  -- texts of two lengths are not the same
  pub same_lengths : (xs ys : List ℕ) → (length xs ≡ length ys → ⊥) → bytes_eq (map f xs) (map f ys) ≡ false
  same_lengths [] [] ne = absurd (ne refl)
  same_lengths [] (y ∷ ys) ne = refl
  same_lengths (x ∷ xs) [] ne = refl
  same_lengths (x ∷ xs) (y ∷ ys) ne = and_right (eqb (f x) (f y)) (bytes_eq (map f xs) (map f ys)) (same_lengths xs ys (λ e. ne (omega arith)))

  -- the bytes at i, and then the rest
  same_step : (xs ys : List ℕ) (i : ℕ) → i < length xs → i < length ys → bytes_eq (map f (drop i xs)) (map f (drop i ys)) ≡ (eqb (f (get_or xs i 0)) (f (get_or ys i 0)) && bytes_eq (map f (drop (i + 1) xs)) (map f (drop (i + 1) ys)))
  same_step xs ys i l m =
      ap (λ (a : List ℕ). bytes_eq (map f a) (map f (drop i ys))) (drop_more xs i 0 l)
      ∙ ap (λ (b : List ℕ). bytes_eq (map f (get_or xs i 0 ∷ drop (i + 1) xs)) (map f b)) (drop_more ys i 0 m)

  pub same_more : (xs ys : List ℕ) (i : ℕ) → i < length xs → i < length ys → f (get_or xs i 0) ≡ f (get_or ys i 0) → bytes_eq (map f (drop (i + 1) xs)) (map f (drop (i + 1) ys)) ≡ bytes_eq (map f (drop i xs)) (map f (drop i ys))
  same_more xs ys i l m e = sym (same_step xs ys i l m ∙ ap (λ t. t && bytes_eq (map f (drop (i + 1) xs)) (map f (drop (i + 1) ys))) (eq-eqb (f (get_or xs i 0)) (f (get_or ys i 0)) e))

  pub same_stops : (xs ys : List ℕ) (i : ℕ) → i < length xs → i < length ys → (f (get_or xs i 0) ≡ f (get_or ys i 0) → ⊥) → bytes_eq (map f (drop i xs)) (map f (drop i ys)) ≡ false
  same_stops xs ys i l m ne = same_step xs ys i l m ∙ ap (λ t. t && bytes_eq (map f (drop (i + 1) xs)) (map f (drop (i + 1) ys))) (ne_eqb (f (get_or xs i 0)) (f (get_or ys i 0)) ne)

  pub same_all : (xs ys : List ℕ) (i : ℕ) → length xs ≤ i → length ys ≤ i → bytes_eq (map f (drop i xs)) (map f (drop i ys)) ≡ true
  same_all xs ys i l m = ap (λ (a : List ℕ). bytes_eq (map f a) (map f (drop i ys))) (drop_all i xs l) ∙ ap (λ (b : List ℕ). bytes_eq [] (map f b)) (drop_all i ys m)

  pub gathered_more : (h : ℕ) (xs : List ℕ) (i b : ℕ) → i < length xs → b ≡ f (get_or xs i 0) → gathered (product (bit_xor h b) 0x100000001B3) (map f (drop (i + 1) xs)) ≡ gathered h (map f (drop i xs))
  gathered_more h xs i b l e =
      ap (λ (x : ℕ). gathered (product (bit_xor h x) 0x100000001B3) (map f (drop (i + 1) xs))) e
      ∙ sym (ap (λ (a : List ℕ). gathered h (map f a)) (drop_more xs i 0 l))

  pub gathered_all : (h : ℕ) (xs : List ℕ) (i : ℕ) → length xs ≤ i → h ≡ gathered h (map f (drop i xs))
  gathered_all h xs i l = sym (ap (λ (a : List ℕ). gathered h (map f a)) (drop_all i xs l))
