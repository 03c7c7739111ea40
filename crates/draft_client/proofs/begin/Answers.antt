use Rattle.draft_client.proofs.Owned.{begun}
use Rattle.draft_client.proofs.begin.Goals as goal

pub returns : goal.returns
returns c = begun _ _ _ c.open.ensures.moves
