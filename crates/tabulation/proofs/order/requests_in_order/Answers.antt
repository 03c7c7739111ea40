use Rattle.std.proofs.Common.{ℕ, ◌+◌, ◌*◌, List, ◌++◌, map, ap, ◌∙◌}
use Rattle.tabulation.specs.Order.{requests}
use Rattle.tabulation.proofs.Listing.{laid_all}
use Rattle.tabulation.proofs.order.requests_in_order.Goals as goal

pub returns : goal.returns
returns c =
    let n = c.args.facts in
    c.in_ok-push_requests.ensures ∙ ap (λ (xs : List ℕ). xs ++ map (λ q. 0 + 1 * q) (requests n)) c.new-out.ensures.items ∙ laid_all n
