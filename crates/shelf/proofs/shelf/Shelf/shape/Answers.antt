use Rattle.std.proofs.Common.{◌∙◌}
use Rattle.shelf.proofs.Asking.{shaping_is}
use Rattle.shelf.proofs.shelf.Shelf.shape.Goals as goal

pub returns : goal.returns
returns c = record { says = c.root.ensures; stands = λ K Q cat u. c.root.ensures ∙ shaping_is c.args.self.now u c.args.policy }
