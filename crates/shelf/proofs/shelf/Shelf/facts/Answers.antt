use Rattle.std.proofs.Common.{◌≤◌, arith, rules}
use Rattle.shelf.proofs.Facts.{few_names}
use Rattle.shelf.proofs.shelf.Shelf.facts.Goals as goal

pub overflow_cast-result : goal.overflow_cast-result
overflow_cast-result c = let few : c.count.result ≤ 32 = omega (arith, few_names c.args.self.now, c.count.ensures.within) in search rules

pub returns : goal.returns
returns c = record { few = omega (arith, few_names c.args.self.now, c.count.ensures.within); number = c.count.ensures.number }
