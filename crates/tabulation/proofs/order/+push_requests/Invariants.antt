use Rattle.tabulation.proofs.order.+push_requests.Given as goal

abbrev pub decreases-push_requests : goal.decreases-push_requests
decreases-push_requests l = l.left
