use Rattle.std.proofs.Common.{true, false, sym, ◌∙◌}
use Rattle.shelf.proofs.Replies.{own_is}
use Rattle.shelf.proofs.shelf.Shelf.held_before.Goals as goal

pub returns-then-eq-clause-own : goal.returns-then-eq-clause-own
returns-then-eq-clause-own c = λ K Q cat u. sym (own_is u c.args.draft.now.id true (sym c.eq.ensures ∙ c.if-eq.true))

pub returns-else-eq-clause-own : goal.returns-else-eq-clause-own
returns-else-eq-clause-own c = λ K Q cat u. sym (own_is u c.args.draft.now.id false (sym c.eq.ensures ∙ c.if-eq.false))
