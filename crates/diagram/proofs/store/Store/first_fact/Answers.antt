use Rattle.diagram.specs.Stores.{nodes}
use Rattle.diagram.proofs.Lookups.{top_some, top_none}
use Rattle.diagram.proofs.Records.{good}
use Rattle.diagram.proofs.store.Store.first_fact.Goals as goal

pub returns-in-Some : goal.returns-in-Some
returns-in-Some c = top_some 32 (nodes c.args.self.now) (good c.args.self.now) c.args.code c.requires.below c.in-Some.node c.in-Some.ensures

pub returns-in-None : goal.returns-in-None
returns-in-None c = top_none 32 (nodes c.args.self.now) (good c.args.self.now) c.args.code c.requires.below c.in-None.ensures
