-- The calls of a whole job.
use Rattle.std.specs.Prelude.{◌≡◌, ℕ, ◌+◌, ◌<◌, true, false, List, [], ◌∷◌, length, drop, Some, None, Option, nat_lt}
use Rattle.shelf.specs.declared.exchange.Call.{Call}
use Rattle.jobs.specs.Commands.{Spells, NoCommand}

-- the job's commands from a place on are these calls, up to its end or up to the bad place, where no job command begins
abbrev pub Parsed : List ℕ → ℕ → List Call → Option ℕ → Type 0
Parsed job place [] None = place ≡ length job
Parsed job place [] (Some bad) = (bad ≡ place) × (place < length job) × NoCommand (drop place job)
Parsed job place (call ∷ calls) bad = (size : ℕ) × Spells (drop place job) call size × Parsed job (place + size) calls bad

-- a whole job: one of more than 65,535 bytes is bad at place 0, and none of its commands is taken
abbrev pub Taken : List ℕ → List Call → Option ℕ → Type 0
Taken job calls bad = elim (nat_lt 65535 (length job)) [ true ↦ ((calls ≡ []) × (bad ≡ Some 0)) | false ↦ Parsed job 0 calls bad ]
