-- Requests: sets of facts, as masks whose bit f stands for fact f.
use Rattle.std.specs.Prelude.{◌≡◌, ℕ, ◌/◌, ◌%◌, ◌^◌, ◌<◌, Bool, true, false, not, ◌==◌, bit_and}

-- fact f is in the request r
abbrev pub has : ℕ → ℕ → Bool
has f r = r / 2 ^ f % 2 == 1

-- at least one fact of the mask m is in r
abbrev pub any : ℕ → ℕ → Bool
any m r = not (bit_and m r == 0)

-- every fact of the mask m is in r
abbrev pub all : ℕ → ℕ → Bool
all m r = bit_and m r == m

-- r is a request over the first n facts
abbrev pub Over : ℕ → ℕ → Type 0
Over n r = r < 2 ^ n

-- r comes before s: r lacks the lowest-numbered fact in which they differ
abbrev pub Before : ℕ → ℕ → Type 0
Before r s = (f : ℕ) × ((g : ℕ) → g < f → has g r ≡ has g s) × (has f r ≡ false) × (has f s ≡ true)
