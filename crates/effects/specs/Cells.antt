-- Operation tables: 16 rows of 16 cells, row a and column b at 16 a + b.
use Rattle.std.specs.Prelude.{ℕ, ◌+◌, ◌*◌, ◌<◌, cond, ◌&&◌, List, nat_lt, slice_index, slice_index_or}

-- what a table says of two codes; 0 where one of them is not below 16
abbrev pub cell : List ℕ → ℕ → ℕ → ℕ
cell t a b = cond (nat_lt a 16 && nat_lt b 16) (slice_index t (a * 16 + b)) 0

-- every cell is below 16
abbrev pub Small : List ℕ → Type 0
Small t = (x : ℕ) → x < 256 → slice_index t x < 16

-- a table has at each row and column a value that P allows there
pub record Holds {A : Type 0} (P : ℕ → ℕ → A → Type 0) (t : List A) : Type 0 where
  pub at : (a b : ℕ) (z : A) → a < 16 → b < 16 → P a b (slice_index_or t (a * 16 + b) z)
