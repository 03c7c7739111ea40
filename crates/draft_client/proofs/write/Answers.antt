use Rattle.std.proofs.Common.{Ok, Err}
use Rattle.draft_client.proofs.Owned.{fed_kept}
use Rattle.draft_client.proofs.write.Goals as goal

pub give_up-requires : goal.give_up-requires
give_up-requires c = fed_kept _ _ _ _ (Err (c.in-Err.refusal, c.in-Err.draft)) c.requires c.in-Err.ensures.moves

pub returns-in-Ok : goal.returns-in-Ok
returns-in-Ok c = fed_kept _ _ _ _ (Ok (c.in-Ok.field-0-0, c.in-Ok.draft)) c.requires c.in-Ok.ensures.moves
