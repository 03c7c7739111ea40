use Rattle.diagram.proofs.Recording.{recorded_facts}
use Rattle.diagram.proofs.store.Store.held.Goals as goal

pub returns : goal.returns
returns c = record {
  number = c.count.ensures.number;
  within = c.count.ensures.within;
  counts = λ n Fs h w R. recorded_facts c.args.self.now c.count.result n Fs R h w;
}
