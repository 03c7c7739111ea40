-- The cofactors of functions of requests, and how many there are. A request is a number whose bit f says whether fact f is present.
use Rattle.std.specs.Prelude.{ℕ, suc, ◌+◌, ◌*◌, ◌/◌, ◌%◌, ◌^◌, Bool, true, false, cond, ◌&&◌, ◌||◌, List, [], ◌∷◌, map, length, ◌==◌}
use Rattle.std.specs.List.{range_with_len, flat_map}

-- the request that has facts 0 to j−1 as a has them, and the others as r has them
abbrev pub fixing : ℕ → ℕ → ℕ → ℕ
fixing j a r = r / 2 ^ j * 2 ^ j + a % 2 ^ j

-- a function's values at the requests over n facts, in the order of their numbers
abbrev pub values : ℕ → (ℕ → ℕ) → List ℕ
values n F = map F (range_with_len 0 (2 ^ n))

-- the values of each cofactor of F: facts 0 to j−1 are fixed in each way, for each j from 0 to n
abbrev pub cofactors : ℕ → (ℕ → ℕ) → List (List ℕ)
cofactors n F = flat_map (λ j. map (λ a. values n (λ r. F (fixing j a r))) (range_with_len 0 (2 ^ j))) (range_with_len 0 (suc n))

-- each value is v
abbrev pub only : ℕ → List ℕ → Bool
only v [] = true
only v (x ∷ xs) = x == v && only v xs

-- all values are the same
abbrev pub constant : List ℕ → Bool
constant [] = true
constant (x ∷ xs) = only x xs

-- two lists of values are the same
abbrev pub same_values : List ℕ → List ℕ → Bool
same_values [] [] = true
same_values [] (y ∷ ys) = false
same_values (x ∷ xs) [] = false
same_values (x ∷ xs) (y ∷ ys) = x == y && same_values xs ys

-- t is one of a row of lists of values
abbrev pub among : List ℕ → List (List ℕ) → Bool
among t [] = false
among t (u ∷ us) = same_values t u || among t us

-- those that are not constant, each once
unfoldable pub distinct : List (List ℕ) → List (List ℕ)
distinct [] = []
distinct (t ∷ ts) = cond (constant t || among t ts) (distinct ts) (t ∷ distinct ts)

-- how many distinct cofactors that are not constant the functions Fs have over n facts
unfoldable pub count : ℕ → List (ℕ → ℕ) → ℕ
count n Fs = length (distinct (flat_map (cofactors n) Fs))
