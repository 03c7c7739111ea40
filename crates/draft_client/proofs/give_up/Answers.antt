use Rattle.draft_client.proofs.Owned.{given_up}
use Rattle.draft_client.proofs.give_up.Goals as goal

pub unwrap-requires : goal.unwrap-requires
unwrap-requires c = given_up _ _ _ _ c.requires c.abandon.ensures.moves
