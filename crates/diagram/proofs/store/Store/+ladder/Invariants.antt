use Rattle.std.proofs.Common.{◌-◌}
use Rattle.diagram.proofs.store.Store.+ladder.Given as goal

abbrev pub decreases-ladder : goal.decreases-ladder
decreases-ladder l = 32 - l.from
