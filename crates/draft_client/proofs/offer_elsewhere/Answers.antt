use Rattle.std.proofs.Common.{Ok, Err}
use Rattle.draft_client.proofs.Owned.{fed_elsewhere}
use Rattle.draft_client.proofs.offer_elsewhere.Goals as goal

pub give_up-requires : goal.give_up-requires
give_up-requires c = fed_elsewhere c.begin.new.shelf c.args.other.now c.feed.new.self c.in_ok-draft.draft _ (Ok (c.in-Ok.field-0-0, c.in-Ok.draft)) c.in_ok-draft.ensures c.in-Ok.ensures.moves

pub give_up-requires-in-Err : goal.give_up-requires-in-Err
give_up-requires-in-Err c = fed_elsewhere c.begin.new.shelf c.args.other.now c.feed.new.self c.in_ok-draft.draft _ (Err (c.in-Err.refusal, c.in-Err.draft)) c.in_ok-draft.ensures c.in-Err.ensures.moves
