use Rattle.diagram.proofs.Recording.{recorded_facts, full_count, recorded_same, listed_same, one_code}
use Rattle.diagram.proofs.store_laws.Goals as goal

pub returns : goal.returns
returns c = record {
  counted = recorded_facts;
  filled = full_count;
  same = recorded_same;
  same_listed = listed_same;
  canonical = one_code;
}
