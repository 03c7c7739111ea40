-- Steps round a ring of slots.
use Rattle.std.proofs.Common.{◌≡◌, ℕ, ◌<◌, arith}
use Rattle.std.proofs.lemmas.Bool.Decides.{nat_tests}
use Rattle.probing.specs.Table.{gap}

module _ (n h : ℕ) (inside : h < n) where
  pub gap_below : (p : ℕ) → p < n → gap n h p < n
  gap_below p l = grind (arith, nat_tests)

  pub gap_same : (p q : ℕ) → p < n → q < n → gap n h p ≡ gap n h q → p ≡ q
  gap_same p q l m e = grind (arith, nat_tests)
