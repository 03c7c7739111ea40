use Rattle.std.proofs.Common.{◌≡◌, ◌++◌, map, take, drop}
use Rattle.probing.specs.Table.{free}
use Rattle.probing.proofs.keeping.wipe.Given as goal

abbrev pub invariant-loop-slot : goal.invariant-loop-slot
invariant-loop-slot g l = l.slots ≡ map (λ _. free l.blank) (take l.slot-index l.initial.slots) ++ drop l.slot-index l.initial.slots
