use Rattle.std.proofs.Common.{sym, arith}
use Rattle.diagram.specs.Stores.{nodes}
use Rattle.diagram.proofs.Nodes.{meant_unknown}
use Rattle.diagram.proofs.store.Store.known.Goals as goal

pub returns-else-code-count : goal.returns-else-code-count
returns-else-code-count c = record {
  within = omega arith;
  means = sym (meant_unknown (nodes c.args.self.now) c.args.code (omega (arith, c.count.ensures.number)));
  itself = λ h. absurd (omega (arith, c.count.ensures.number));
}
