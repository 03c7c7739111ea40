-- The kinds of keys: which are the same, and what each is hashed to.
use Rattle.std.specs.Prelude.{ℕ, ◌+◌, ◌*◌, min, Bool, ◌&&◌, List, map, take, ◌==◌}
use Rattle.std.specs.Str.{bytes_eq}
use Rattle.probing.specs.Mixing.{mixed, gathered}
use Rattle.probing.specs.declared.name.Name.{Name}
use Rattle.probing.specs.declared.node.Node.{Node}
use Rattle.probing.specs.declared.pair.Pair.{Pair}

-- the byte that stands for b where names are compared and hashed: b itself, so that letters in another case are other letters
abbrev pub fold_byte : ℕ → ℕ
fold_byte b = b

-- the bytes of a name that take part: as many as its length says, and at most sixteen
abbrev pub text : Name → List ℕ
text x = take (min x.len 16) x.bytes

-- the bytes by which a name is compared and hashed
abbrev pub folded : Name → List ℕ
folded x = map fold_byte (text x)

-- Two names are the same where their folded bytes are, each at its place, and as many of them.
abbrev pub name_same : Name → Name → Bool
name_same x y = bytes_eq (folded x) (folded y)

-- what a name is hashed to, from the starting value of FNV-1a
abbrev pub name_hashed : Name → ℕ
name_hashed x = mixed (gathered 0xCBF29CE484222325 (folded x))

-- Two nodes are the same where all three fields are.
abbrev pub node_same : Node → Node → Bool
node_same x y = x.fact == y.fact && (x.low == y.low && x.high == y.high)

-- what a node is hashed to: its fields side by side, mixed
abbrev pub node_hashed : Node → ℕ
node_hashed x = mixed (x.low + 65536 * (x.high + 65536 * x.fact))

-- a pair for slots that hold none
abbrev pub no_pair : Pair
no_pair = record { first = 0; second = 0 }

-- Two pairs are the same where both codes are.
abbrev pub pair_same : Pair → Pair → Bool
pair_same x y = x.first == y.first && x.second == y.second

-- what a pair is hashed to: its codes side by side, mixed
abbrev pub pair_hashed : Pair → ℕ
pair_hashed x = mixed (x.first + 65536 * x.second)
