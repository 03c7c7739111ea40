use Rattle.std.proofs.Common.{◌≡◌, map, drop}
use Rattle.std.specs.Str.{bytes_eq}
use Rattle.probing.specs.Kinds.{fold_byte}
use Rattle.probing.proofs.name.NamePartialEq.eq.Given as goal

-- the bytes so far are the same, so that the others decide
abbrev pub invariant-loop-i : goal.invariant-loop-i
invariant-loop-i l = bytes_eq (map fold_byte (drop l.i l.mine)) (map fold_byte (drop l.i l.theirs)) ≡ bytes_eq (map fold_byte l.mine) (map fold_byte l.theirs)
