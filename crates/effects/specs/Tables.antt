-- The tables of an algebra.
use Rattle.std.specs.Prelude.{◌≡◌, ℕ, ◌+◌, ◌-◌, ◌*◌, ◌<◌, ◌≤◌, Bool, false, cond, ◌&&◌, ◌||◌, List, [], map, ◌==◌, slice_index_or}
use Rattle.effects.specs.Cells.{cell}
use Rattle.effects.specs.Codes.{Codes, QuestionCodes}
use Rattle.effects.specs.declared.tables.EffectTables.{EffectTables}
use Rattle.effects.specs.declared.tables.QuestionTables.{QuestionTables}

-- a condition's value as a number: 1 where it is true
abbrev pub bit : Bool → ℕ
bit b = cond b 1 0

-- where a condition is 1 the policy's code, else the given one, which is that of not applicable
abbrev pub scoped : ℕ → ℕ → ℕ → ℕ
scoped na policy condition = cond (condition == 1) policy na

-- where a condition is 1 the code of the failed form, else the policy's own
abbrev pub failing : Codes → ℕ → ℕ → ℕ
failing K policy condition = cond (condition == 1) (K.failed policy) policy

-- a table of combiner k: the first policy's code is the row, the second's the column
abbrev pub Combines : Codes → ℕ → List ℕ → Type 0
Combines K k t = (a b : ℕ) → k < K.combiners → a < K.count → b < K.count → cell t a b ≡ K.combined k a b

-- the cells of the table of combiner k
abbrev pub combiner_cells : EffectTables → ℕ → List ℕ
combiner_cells t k = slice_index_or (map (λ table. table.cells) t.combine) k []

-- a table of question q, at codes below the count
abbrev pub Answers : ℕ → QuestionCodes → ℕ → List Bool → Type 0
Answers count Q q t = (a b : ℕ) → q < Q.questions → a < count → b < count → slice_index_or t (a * 16 + b) false ≡ Q.breaks q a b

-- the tables are those of the algebra K
pub record Tables (K : Codes) (t : EffectTables) : Type 0 where
  pub counted : t.count ≡ K.count
  pub combiners : t.combiner_count ≡ K.combiners
  pub stated : (e : ℕ) → e < K.count → slice_index_or t.statable e false ≡ K.statable e
  -- the three operations on conditions
  pub negated : (a : ℕ) → a ≤ 1 → cell t.negation.cells a a ≡ 1 - a
  pub both : (a b : ℕ) → a ≤ 1 → b ≤ 1 → cell t.both.cells a b ≡ bit (a == 1 && b == 1)
  pub either : (a b : ℕ) → a ≤ 1 → b ≤ 1 → cell t.either.cells a b ≡ bit (a == 1 || b == 1)
  -- a policy's code is the row, a condition's value the column
  pub scope : (a b : ℕ) → a < K.count → b ≤ 1 → cell t.scope.cells a b ≡ scoped K.not_applicable a b
  pub fail : (a b : ℕ) → a < K.count → b ≤ 1 → cell t.fail.cells a b ≡ failing K a b
  pub combine : (k : ℕ) → Combines K k (combiner_cells t k)

-- the question tables are those of Q, at codes below the count
pub record Asked (count : ℕ) (Q : QuestionCodes) (t : QuestionTables) : Type 0 where
  pub counted : t.count ≡ Q.questions
  pub breaks : (q : ℕ) → Answers count Q q (slice_index_or t.breaks q [])
