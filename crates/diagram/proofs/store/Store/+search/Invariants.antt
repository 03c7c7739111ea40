use Rattle.std.proofs.Common.{◌-◌}
use Rattle.diagram.proofs.store.Store.+search.Given as goal

abbrev pub decreases-search : goal.decreases-search
decreases-search l = 32 - l.from
