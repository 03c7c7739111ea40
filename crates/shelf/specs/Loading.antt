-- A whole tape, as a shelf reads it.
use Rattle.std.specs.Prelude.{ℕ, List, [], ◌++◌, length, Result}
use Rattle.effects.specs.Codes.{Codes}
use Rattle.tape.specs.Tape.{Row, tape_from}
use Rattle.tape.specs.declared.refusal.RefusedAt.{RefusedAt}
use Rattle.shelf.specs.Catalogue.{results}
use Rattle.shelf.specs.Calls.{slot_tests}

-- the commands of a tape as a row, or the first refusal, after the results Fs over n facts and in so many slots
abbrev pub read_row : Codes → ℕ → ℕ → List (ℕ → ℕ) → List ℕ → Result Row RefusedAt
read_row K n many Fs tape = tape_from (length tape) K n (λ row x. slot_tests K many n (Fs ++ results K row) row x) [] 0 tape
