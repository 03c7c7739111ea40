use Rattle.std.proofs.Common.{◌≡◌, ◌++◌, map, take, drop}
use Rattle.probing.specs.Table.{trimmed}
use Rattle.probing.proofs.keeping.trim.Given as goal

abbrev pub invariant-loop-slot : goal.invariant-loop-slot
invariant-loop-slot g l = l.slots ≡ map (trimmed l.n) (take l.slot-index l.initial.slots) ++ drop l.slot-index l.initial.slots
