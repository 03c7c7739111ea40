use Rattle.std.proofs.Common.{◌≡◌, ◌+◌, ◌<◌}
use Rattle.diagram.specs.Stores.{held, meaning}
use Rattle.diagram.proofs.store.Store.evaluate.Given as goal

abbrev pub invariant-loop-node : goal.invariant-loop-node
invariant-loop-node l = (l.here < 16 + held l.self) × (meaning l.self l.here l.request ≡ meaning l.self l.code l.request)

abbrev pub decreases-loop-node : goal.decreases-loop-node
decreases-loop-node l = l.here
