use Rattle.diagram.specs.Stores.{nodes}
use Rattle.diagram.proofs.Lookups.{sides_none, sides_other, sides_here}
use Rattle.diagram.proofs.Records.{good}
use Rattle.diagram.proofs.store.Store.sides.Goals as goal

pub returns-in-Some : goal.returns-in-Some
returns-in-Some c = sides_here 32 (nodes c.args.self.now) (good c.args.self.now) c.args.code c.requires.below c.args.fact c.in-Some.node c.in-Some.ensures c.if-node-fact.true

pub returns-in_default : goal.returns-in_default
returns-in_default c = sides_other 32 (nodes c.args.self.now) (good c.args.self.now) c.args.code c.requires.below c.args.fact c.in-Some.node c.in-Some.ensures c.if-node-fact.false

pub returns-in_default-2 : goal.returns-in_default-2
returns-in_default-2 c = sides_none 32 (nodes c.args.self.now) (good c.args.self.now) c.args.code c.requires.below c.args.fact c.in_default.ensures
