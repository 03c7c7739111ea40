-- The requests over so many facts, in the request order.
use Rattle.std.specs.Prelude.{◌≡◌, ℕ, zero, suc, ◌+◌, ◌*◌, ◌<◌, List, [], ◌∷◌, ◌++◌, map, length, slice_index}
use Rattle.tape.specs.Requests.{Over, Before}

-- first those that lack fact 0, then those that have it; the other facts are the facts of one fact fewer
unfoldable pub requests : ℕ → List ℕ
requests zero = 0 ∷ []
requests (suc n) = map (λ r. 2 * r) (requests n) ++ map (λ r. 1 + 2 * r) (requests n)

-- a list of requests that has each request over n facts, and nothing else, each before the next ones
pub record Ordered (n : ℕ) (rs : List ℕ) : Type 0 where
  pub over : (i : ℕ) → i < length rs → Over n (slice_index rs i)
  pub every : (r : ℕ) → Over n r → (i : ℕ) × (i < length rs) × (slice_index rs i ≡ r)
  pub before : (i j : ℕ) → i < j → j < length rs → Before (slice_index rs i) (slice_index rs j)
