-- How a shelf's state changes.
use Rattle.std.specs.Prelude.{ℕ, ◌+◌, ◌%◌, ◌^◌, [], ◌∷◌, ◌++◌, Some, None}
use Rattle.shelf.specs.declared.state.State.{State}

-- no policies and no draft
abbrev pub no_state : ℕ → State
no_state number = record { number = number; given = 0; roots = record { items = [] }; before = None }

-- a draft is given out, with so much held before it
abbrev pub opened_state : State → ℕ → State
opened_state s held = record { number = s.number; given = (s.given + 1) % 2 ^ 32; roots = s.roots; before = Some held }

-- one policy more, and no draft
abbrev pub filed_state : State → ℕ → State
filed_state s root = record { number = s.number; given = s.given; roots = record { items = s.roots.items ++ root ∷ [] }; before = None }

-- no draft
abbrev pub closed_state : State → State
closed_state s = record { number = s.number; given = s.given; roots = s.roots; before = None }
