use Rattle.std.proofs.Common.{length, vec_items}
use Rattle.jobs.proofs.Steps.{Before}
use Rattle.jobs.proofs.parsing.parse.Given as goal

abbrev pub invariant-loop-rest : goal.invariant-loop-rest
invariant-loop-rest l = Before l.job l.rest (vec_items l.calls)

abbrev pub decreases-loop-rest : goal.decreases-loop-rest
decreases-loop-rest l = length l.rest
