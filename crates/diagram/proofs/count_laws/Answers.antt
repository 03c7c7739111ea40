use Rattle.diagram.proofs.Counts.{counted_count, count_counted, count_more, count_le, count_same}
use Rattle.diagram.proofs.CountLaws.{count_none, ignores_more, count_front, count_swap, count_again, count_constant}
use Rattle.diagram.proofs.count_laws.Goals as goal

pub returns : goal.returns
returns c = record {
  number = counted_count;
  stands = count_counted;
  none = count_none;
  ignored = ignores_more;
  facts = λ n m Fs h e. count_more n m h Fs e;
  more = count_le;
  same = count_same;
  dropped = count_front;
  swapped = count_swap;
  again = count_again;
  constants = count_constant;
}
