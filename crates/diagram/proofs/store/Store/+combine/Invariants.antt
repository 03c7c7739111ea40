use Rattle.std.proofs.Common.{◌-◌}
use Rattle.diagram.proofs.store.Store.+combine.Given as goal

abbrev pub decreases-combine : goal.decreases-combine
decreases-combine l = 32 - l.from
