-- What holds of the count of cofactors, whatever the functions.
use Rattle.std.specs.Prelude.{◌≡◌, ℕ, ◌≤◌, List, [], ◌∷◌, ◌++◌}
use Rattle.diagram.specs.Cofactors.{count}
use Rattle.diagram.specs.Counted.{Same, Constant, Exists, Each, Ignores, Within, Counted}

-- the laws of `count`
pub record Law : Type 0 where
  -- the count is the relation's number, and the relation has one
  pub number : (n : ℕ) (Fs : List (ℕ → ℕ)) (k : ℕ) → Counted n Fs k → count n Fs ≡ k
  pub stands : (n : ℕ) (Fs : List (ℕ → ℕ)) → Counted n Fs (count n Fs)
  pub none : (n : ℕ) → count n [] ≡ 0
  -- facts that make no difference add nothing, and nor do facts after them
  pub ignored : (n m : ℕ) (F : ℕ → ℕ) → n ≤ m → Ignores n F → Ignores m F
  pub facts : (n m : ℕ) (Fs : List (ℕ → ℕ)) → n ≤ m → Each (Ignores n) Fs → count m Fs ≡ count n Fs
  -- more functions have no fewer cofactors
  pub more : (n : ℕ) (Fs Gs : List (ℕ → ℕ)) → Within n Fs Gs → count n Fs ≤ count n Gs
  pub same : (n : ℕ) (Fs Gs : List (ℕ → ℕ)) → Within n Fs Gs → Within n Gs Fs → count n Fs ≡ count n Gs
  -- dropped, swapped, repeated, constant
  pub dropped : (n : ℕ) (Fs Gs : List (ℕ → ℕ)) → count n Fs ≤ count n (Fs ++ Gs)
  pub swapped : (n : ℕ) (Fs Gs : List (ℕ → ℕ)) → count n (Fs ++ Gs) ≡ count n (Gs ++ Fs)
  pub again : (n : ℕ) (F : ℕ → ℕ) (Fs : List (ℕ → ℕ)) → Exists (λ G. Same n F G) Fs → count n (F ∷ Fs) ≡ count n Fs
  pub constants : (n : ℕ) (F : ℕ → ℕ) (Fs : List (ℕ → ℕ)) → Constant n F → count n (F ∷ Fs) ≡ count n Fs
