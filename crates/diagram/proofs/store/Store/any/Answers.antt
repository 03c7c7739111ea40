use Rattle.diagram.proofs.Recording.{outcome_later}
use Rattle.diagram.proofs.Ladders.{ladder_any}
use Rattle.diagram.proofs.store.Store.any.Goals as goal

pub returns : goal.returns
returns c =
    let o = c.of_mask.ensures.gives _ (ladder_any 32 c.args.mask c.ranges.mask.fits) in
    record {
      later = outcome_later c.args.self.now c.of_mask.new.self _ c.of_mask.result o;
      gives = o;
    }
