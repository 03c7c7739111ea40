-- Names: which are good, and when two are equal.
use Rattle.std.specs.Prelude.{ℕ, Bool, ◌&&◌, ◌||◌, List, map, ◌==◌, nat_le}
use Rattle.std.specs.List.{list_all}
use Rattle.std.specs.Str.{bytes_eq}
use Rattle.probing.specs.Kinds.{fold_byte, text}
use Rattle.probing.specs.declared.name.Name.{Name}

-- the bytes of a name, as many as its length says
abbrev pub Spelling : Type 0
Spelling = List ℕ

-- a byte that a name may have: A to Z, a to z, 0 to 9, hyphen, full stop
abbrev pub name_byte : ℕ → Bool
name_byte b =
    (nat_le 0x41 b && nat_le b 0x5A) || ((nat_le 0x61 b && nat_le b 0x7A) || ((nat_le 0x30 b && nat_le b 0x39) || (b == 0x2D || b == 0x2E)))

-- every byte of a spelling is one that a name may have
abbrev pub name_bytes : Spelling → Bool
name_bytes bytes = list_all name_byte bytes

-- a good name has 1 to 16 bytes, all of them ones that a name may have
abbrev pub good_name : Name → Bool
good_name n = nat_le 1 n.len && (nat_le n.len 16 && name_bytes (text n))

-- two spellings are equal names
abbrev pub same_name : Spelling → Spelling → Bool
same_name x y = bytes_eq (map fold_byte x) (map fold_byte y)
