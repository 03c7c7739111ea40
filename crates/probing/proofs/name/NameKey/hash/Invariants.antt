use Rattle.std.proofs.Common.{◌≡◌, map, drop}
use Rattle.probing.specs.Mixing.{gathered}
use Rattle.probing.specs.Kinds.{fold_byte}
use Rattle.probing.proofs.name.NameKey.hash.Given as goal

-- the bytes that are left, gathered from here, come to the same as all of them from the start
abbrev pub invariant-loop-b : goal.invariant-loop-b
invariant-loop-b l = gathered l.h (map fold_byte (drop l.b-index l.b-items)) ≡ gathered 0xCBF29CE484222325 (map fold_byte l.b-items)
