use Rattle.draft_client.proofs.Owned.{file_kept}
use Rattle.draft_client.proofs.finish.Goals as goal

pub give_up-requires : goal.give_up-requires
give_up-requires c = file_kept _ _ _ c.in-Err.draft c.in-Err.refusal c.requires c.in-Err.ensures.moves
