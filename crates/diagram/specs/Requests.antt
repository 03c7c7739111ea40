-- Requests by their facts, and the first request of which something holds.
use Rattle.std.specs.Prelude.{ℕ, zero, suc, ◌+◌, ◌*◌, ◌^◌, ◌<◌, Bool, cond, Some, None, Option, ◌≢◌}
use Rattle.tape.specs.Requests.{has, Before}

-- fact f is present in the request r
abbrev pub present : ℕ → ℕ → Bool
present r f = has f r

-- the request over n facts that has fact f where p says so
abbrev pub pack : ℕ → (ℕ → Bool) → ℕ
pack zero p = 0
pack (suc n) p = cond (p 0) 1 0 + 2 * pack n (λ f. p (suc f))

-- r is the first request over n facts of which Q holds
pub record First (n : ℕ) (Q : ℕ → Type 0) (r : ℕ) : Type 0 where
  pub within : r < 2 ^ n
  pub breaks : Q r
  pub first : (s : ℕ) → s < 2 ^ n → Q s → (s ≢ r) → Before r s

-- the first request over n facts of which Q holds, or none where there is none
abbrev pub Witness : ℕ → (ℕ → Type 0) → Option ℕ → Type 0
Witness n Q (Some r) = First n Q r
Witness n Q None = (s : ℕ) → s < 2 ^ n → Q s → ⊥
