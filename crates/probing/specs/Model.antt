-- What a table means: the list of its keys, the key of number n at place n.
use Rattle.std.specs.Prelude.{ℕ, List, length, take}
use Rattle.probing.specs.declared.Key.{Ghosts as Kind}
use Rattle.probing.specs.Kinds.{name_same, name_hashed}
use Rattle.probing.specs.declared.name.Name.{Name}
use Rattle.probing.specs.declared.table.Table.{Table}
use Rattle.probing.specs.Table.{stored}

-- what every slot keeps as its key, be it one of the table's or a left-over
abbrev pub kept : {K : Type 0} {kind : Kind K} → Table K kind → List K
kept t = stored t.slots.now

-- the keys: those of the first slots, as many as the count
abbrev pub keys : {K : Type 0} {kind : Kind K} → Table K kind → List K
keys t = take t.count (kept t)

-- how many slots there are
abbrev pub room : {K : Type 0} {kind : Kind K} → Table K kind → ℕ
room t = length t.slots.now

-- a table of names: two are the same where their texts are
abbrev pub NameTable : Type 0
NameTable = Table Name (record { same = name_same; hashed = name_hashed })
