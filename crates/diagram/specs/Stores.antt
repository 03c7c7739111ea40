-- What a store means. A request is a number below 2 ^ 32, one bit for each fact that can be declared.
use Rattle.std.specs.Prelude.{◌≡◌, ℕ, ◌+◌, ◌<◌, ◌≤◌, Bool, true, false, List, [], ◌∷◌, ◌++◌, length, take, Ok, Err, Result, nat_lt}
use Rattle.probing.specs.Model.{keys, room}
use Rattle.probing.specs.declared.node.Node.{Node}
use Rattle.diagram.specs.Cofactors.{count}
use Rattle.diagram.specs.Counted.{Same, Lists}
use Rattle.diagram.specs.Tree.{says, tree_of}
use Rattle.diagram.specs.Nodes.{trees, meant, functions, inserted, Begins}
use Rattle.diagram.specs.declared.store.Full.{Full}
use Rattle.diagram.specs.declared.store.Store.{Store}

-- the nodes of a store, oldest first
abbrev pub nodes : Store → List Node
nodes s = keys s.unique

-- how many nodes it holds
abbrev pub held : Store → ℕ
held s = length (nodes s)

-- how many it has slots for
abbrev pub slots : Store → ℕ
slots s = room s.unique

-- what a code means at a request; a code that names no node means 0
abbrev pub meaning : Store → ℕ → ℕ → ℕ
meaning s c r = says (meant (nodes s) c) r

-- the first k nodes are the cofactors of Fs that are not constant: each of them is one, and there is no other
pub record Recorded (s : Store) (k : ℕ) (Fs : List (ℕ → ℕ)) : Type 0 where
  pub within : k ≤ held s
  pub lists : Lists 32 Fs (functions (take k (nodes s)))

-- the code c of the store means F, at every request
pub record Means (s : Store) (c : ℕ) (F : ℕ → ℕ) : Type 0 where
  pub within : c < 16 + held s
  pub same : Same 32 (meaning s c) F

-- t has the slots and the nodes of s, and maybe more nodes behind them
pub record Later (s t : Store) : Type 0 where
  pub slots : slots t ≡ slots s
  pub begins : Begins (nodes s) (nodes t)
  -- so every code means what it meant
  pub means : (c : ℕ) → c < 16 + held s → (r : ℕ) → meaning t c r ≡ meaning s c r
  -- and what was recorded still is
  pub recorded : (k : ℕ) (Fs : List (ℕ → ℕ)) → Recorded s k Fs → Recorded t k Fs

-- t has the slots and the nodes of s, and no others
pub record Unchanged (s t : Store) : Type 0 where
  pub slots : slots t ≡ slots s
  pub nodes : nodes t ≡ nodes s

-- how many nodes there are once the cofactors of F are there too
abbrev pub needed : Store → (ℕ → ℕ) → ℕ
needed s F = length (inserted (trees (nodes s)) (tree_of 32 F))

-- there are too few slots for the cofactors of F
abbrev pub full : Store → (ℕ → ℕ) → Bool
full s F = nat_lt (slots s) (needed s F)

-- t comes from s by recording F behind what s had recorded
pub record Grows (s : Store) (F : ℕ → ℕ) (t : Store) : Type 0 where
  pub later : Later s t
  pub recorded : (Fs : List (ℕ → ℕ)) → Recorded s (held s) Fs → Recorded t (held t) (Fs ++ F ∷ [])

-- F was recorded, and c is its code
pub record Taken (s : Store) (F : ℕ → ℕ) (t : Store) (c : ℕ) : Type 0 where
  pub means : Means t c F
  pub fits : full s F ≡ false
  pub grows : Grows s F t
  -- held is now the number of distinct cofactors that are not constant, and there are slots for as many
  pub count : (Fs : List (ℕ → ℕ)) → Recorded s (held s) Fs → (held t ≡ count 32 (Fs ++ F ∷ [])) × (count 32 (Fs ++ F ∷ []) ≤ slots s)

-- F was refused, and the store is as it was
pub record TooMany (s : Store) (F : ℕ → ℕ) (t : Store) : Type 0 where
  pub full : full s F ≡ true
  pub same : Unchanged s t
  -- held would be more than there are slots
  pub count : (Fs : List (ℕ → ℕ)) → Recorded s (held s) Fs → slots s < count 32 (Fs ++ F ∷ [])

-- what becomes of F
abbrev pub Outcome : Store → (ℕ → ℕ) → Store → Result ℕ Full → Type 0
Outcome s F t (Ok c) = Taken s F t c
Outcome s F t (Err e) = TooMany s F t

-- t has the slots of s and its first n nodes
pub record Back (s : Store) (n : ℕ) (t : Store) : Type 0 where
  pub slots : slots t ≡ slots s
  pub nodes : nodes t ≡ take n (nodes s)
  -- so every code of those means what it meant, and what they record they still record
  pub means : (c : ℕ) → c < 16 + held t → (r : ℕ) → meaning t c r ≡ meaning s c r
  pub recorded : (k : ℕ) (Fs : List (ℕ → ℕ)) → k ≤ n → Recorded s k Fs → Recorded t k Fs
  -- and a store of as many nodes that came before is there again
  pub restored : (before : Store) → Later before s → n ≡ held before → Unchanged before t
