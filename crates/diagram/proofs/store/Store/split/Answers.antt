use Rattle.diagram.specs.Stores.{nodes}
use Rattle.diagram.proofs.Lookups.{parted}
use Rattle.diagram.proofs.Records.{good}
use Rattle.diagram.proofs.store.Store.split.Goals as goal

pub returns : goal.returns
returns c =
    parted 32 (nodes c.args.self.now) (good c.args.self.now) c.args.first c.args.second c.first_fact.result c.first_fact-2.result c.min-fact.result c.sides.result c.sides-2.result
    c.requires.first_below c.requires.second_below c.requires.tests c.first_fact.ensures c.first_fact-2.ensures c.min-fact.ensures c.sides.ensures c.sides-2.ensures
