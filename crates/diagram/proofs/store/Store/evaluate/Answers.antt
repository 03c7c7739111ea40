use Rattle.std.proofs.Common.{sym, ap, ◌∙◌, arith}
use Rattle.diagram.specs.Tree.{says}
use Rattle.diagram.specs.Nodes.{trees}
use Rattle.diagram.specs.Stores.{nodes}
use Rattle.diagram.proofs.Nodes.{tree_const}
use Rattle.diagram.proofs.Lookups.{walked, node_none}
use Rattle.diagram.proofs.Records.{good}
use Rattle.diagram.proofs.store.Store.evaluate.Goals as goal

pub overflow_shr-request : goal.overflow_shr-request
overflow_shr-request c = (walked 32 (nodes c.args.self.now) (good c.args.self.now) c.loop-node.here c.in-Some.node c.args.request c.in-Some.ensures).fact

pub loop-node-smaller-then-request-node-eq1 : goal.loop-node-smaller-then-request-node-eq1
loop-node-smaller-then-request-node-eq1 c = (walked 32 (nodes c.args.self.now) (good c.args.self.now) c.loop-node.here c.in-Some.node c.args.request c.in-Some.ensures).high_older

pub loop-node-preserved-then-request-node-eq1 : goal.loop-node-preserved-then-request-node-eq1
loop-node-preserved-then-request-node-eq1 c =
    let w = walked 32 (nodes c.args.self.now) (good c.args.self.now) c.loop-node.here c.in-Some.node c.args.request c.in-Some.ensures in
    (omega (arith, w.high_older, c.loop-node.invariant.0), w.on c.if-request-node-eq1.true ∙ c.loop-node.invariant.1)

pub loop-node-smaller : goal.loop-node-smaller
loop-node-smaller c = (walked 32 (nodes c.args.self.now) (good c.args.self.now) c.loop-node.here c.in-Some.node c.args.request c.in-Some.ensures).low_older

pub loop-node-preserved : goal.loop-node-preserved
loop-node-preserved c =
    let w = walked 32 (nodes c.args.self.now) (good c.args.self.now) c.loop-node.here c.in-Some.node c.args.request c.in-Some.ensures in
    (omega (arith, w.low_older, c.loop-node.invariant.0), w.off c.if-request-node-eq1.false ∙ c.loop-node.invariant.1)

pub overflow_cast-result : goal.overflow_cast-result
overflow_cast-result c = omega (arith, node_none (nodes c.args.self.now) c.loop-node.here c.in_default.ensures c.loop-node.invariant.0)

pub returns : goal.returns
returns c =
    let xs = nodes c.args.self.now in
    sym (ap (λ t. says t c.args.request) (tree_const (trees xs) c.loop-node.here (node_none xs c.loop-node.here c.in_default.ensures c.loop-node.invariant.0))) ∙ c.loop-node.invariant.1
