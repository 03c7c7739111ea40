use Rattle.std.proofs.Common.{ℕ, ◌-◌, ◌<◌, length}
use Rattle.probing.specs.Table.{gap, home, serials, stored, Other}
use Rattle.probing.proofs.keeping.seek.Given as goal

-- the buckets that were passed, as many as were probed, lead to other keys
abbrev pub invariant-loop-i : goal.invariant-loop-i
invariant-loop-i g l =
    (l.probed < length l.slots)
    × ((p : ℕ) → p < length (serials l.slots) → gap (length (serials l.slots)) (home (length (serials l.slots)) (g.K.Key.hashed l.key)) p < l.probed → Other g.K.Key.same (serials l.slots) (stored l.slots) l.key p)

abbrev pub decreases-loop-i : goal.decreases-loop-i
decreases-loop-i g l = length l.slots - l.probed
