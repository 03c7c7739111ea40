-- The table of a tape.
use Rattle.std.specs.Prelude.{◌≡◌, ℕ, ◌<◌, ⊤, List, map, length, count_by, Ok, Err, vec_items, Result, ◌==◌, slice_index}
use Rattle.effects.specs.Codes.{Codes, codes}
use Rattle.effects.specs.Four.{four}
use Rattle.effects.specs.Six.{six}
use Rattle.tape.specs.Requests.{Over}
use Rattle.tape.specs.Tape.{read_answer}
use Rattle.tape.specs.declared.refusal.RefusedAt.{RefusedAt}
use Rattle.tabulation.specs.Inputs.{Asked, asked}
use Rattle.tabulation.specs.Order.{requests, Ordered}
use Rattle.tabulation.specs.declared.input.EffectSet.{EffectSet}
use Rattle.tabulation.specs.declared.input.EffectSet.TheVariants.{Four, Six}
use Rattle.tabulation.specs.declared.input.BadInput.{BadInput}
use Rattle.tabulation.specs.declared.input.Input.{Input}
use Rattle.tabulation.specs.declared.rows.Row.{Row}
use Rattle.tabulation.specs.declared.rows.Table.{Table}
use Rattle.tabulation.specs.declared.error.TabulateError.{TabulateError}
use Rattle.tabulation.specs.declared.error.TabulateError.TheVariants.{Unreadable, Refused, OutOfMemory}

-- an input as the bytes say it, or why they do not
abbrev pub Parsed : List ℕ → Result Input BadInput → Type 0
Parsed bs (Ok i) = asked bs ≡ Ok (record { facts = i.facts; effects = i.effects; tape = i.tape.now })
Parsed bs (Err b) = asked bs ≡ Err b

-- the codes of a set of effects
abbrev pub codes_of : EffectSet → Codes
codes_of Four = codes four
codes_of Six = codes six

-- what reading answers at a request
abbrev pub reads : Asked → ℕ → Result ℕ RefusedAt
reads q r = read_answer (codes_of q.effects) q.facts q.tape r

-- the requests of a table, and the answers that its rows stand for
abbrev pub masks : List Row → List ℕ
masks rows = map (λ x. x.mask) rows

abbrev pub answers : List Row → List (Result ℕ RefusedAt)
answers rows = map (λ x. Ok x.code) rows

-- the table of a tape at these requests, or the refusal at one of them; nothing is said of when memory runs out
abbrev pub Filled : Codes → Input → List ℕ → Result Table TabulateError → Type 0
Filled K i ms (Ok t) =
    (t.effects ≡ i.effects) × (masks (vec_items t.rows) ≡ ms) × (answers (vec_items t.rows) ≡ map (read_answer K i.facts i.tape.now) ms)
Filled K i ms (Err (Unreadable b)) = ⊥
Filled K i ms (Err (Refused e)) = (k : ℕ) × (k < length ms) × (read_answer K i.facts i.tape.now (slice_index ms k) ≡ Err e)
Filled K i ms (Err OutOfMemory) = ⊤

-- a table of what reading answers: every request over the facts, in the request order, with the answer there
pub record Tells (q : Asked) (t : Table) : Type 0 where
  pub effects : t.effects ≡ q.effects
  pub listed : masks (vec_items t.rows) ≡ requests q.facts
  pub ordered : Ordered q.facts (masks (vec_items t.rows))
  pub told : answers (vec_items t.rows) ≡ map (reads q) (requests q.facts)

-- what became of an input that asks for q: the table, or reading refuses at every request; nothing is said of when
-- memory runs out
abbrev pub Becomes : Asked → Result Table TabulateError → Type 0
Becomes q (Ok t) = Tells q t
Becomes q (Err (Unreadable b)) = ⊥
Becomes q (Err (Refused e)) = (r : ℕ) → Over q.facts r → reads q r ≡ Err e
Becomes q (Err OutOfMemory) = ⊤

-- the same, where the bytes may be no input
abbrev pub Outcomes : Result Asked BadInput → Result Table TabulateError → Type 0
Outcomes (Err b) r = r ≡ Err (Unreadable b)
Outcomes (Ok q) r = Becomes q r

-- what became of the bytes of an input
abbrev pub Says : List ℕ → Result Table TabulateError → Type 0
Says bs r = Outcomes (asked bs) r

-- how many rows have a code
abbrev pub tally : ℕ → List Row → ℕ
tally e rows = count_by (λ x. x.code == e) rows
