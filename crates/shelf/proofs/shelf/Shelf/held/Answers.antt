use Rattle.std.proofs.Common.{◌∙◌}
use Rattle.shelf.specs.Stands.{holding}
use Rattle.shelf.proofs.Asking.{holding_is}
use Rattle.shelf.proofs.shelf.Shelf.held.Goals as goal

pub returns : goal.returns
unfolding holding
returns c = record { says = c.held.ensures.number; stands = λ K Q cat u. c.held.ensures.number ∙ holding_is c.args.self.now u }
