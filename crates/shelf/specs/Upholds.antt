-- What a shelf's parts have to do with a catalogue: the builder's own relation, of which callers need only that it is one.
use Rattle.std.specs.Prelude.{◌≡◌, ℕ, ◌+◌, ◌%◌, ◌^◌, ◌<◌, ◌≤◌, true, List, map, length, Some, is_some, slice_index, slice_index_or}
use Rattle.effects.specs.Codes.{Codes, QuestionCodes, Closed}
use Rattle.effects.specs.Tables.{Tables, Asked}
use Rattle.effects.specs.declared.tables.EffectTables.{EffectTables}
use Rattle.effects.specs.declared.tables.QuestionTables.{QuestionTables}
use Rattle.probing.specs.Kinds.{text}
use Rattle.probing.specs.Model.{NameTable, keys, room}
use Rattle.tape.specs.Entries.{Holds}
use Rattle.tape.specs.Tape.{Row, values, result, ended}
use Rattle.tape.specs.declared.stack.Stack.{Stack}
use Rattle.diagram.specs.Counted.{Each, Ignores}
use Rattle.diagram.specs.Entries.{store_model}
use Rattle.diagram.specs.Stores.{held as held_by, slots, Recorded, Means}
use Rattle.diagram.specs.declared.store.Store.{Store}
use Rattle.shelf.specs.Names.{Spelling}
use Rattle.shelf.specs.Catalogue.{Catalogue, Filed, no_policy, facts, is_open, open_row, filed_results, all_results}
use Rattle.shelf.specs.declared.state.State.{State}

-- the tables are those of the algebra
pub record Algebra (K : Codes) (Q : QuestionCodes) (tables : EffectTables) (questions : QuestionTables) : Type 0 where
  pub closed : Closed K
  pub tables_are : Tables K tables
  pub questions_are : Asked K.count Q questions

-- the keys of the table are the declared names, and it has the slots for names
pub record Naming (names : NameTable) (name_slots : ℕ) (declared : List Spelling) : Type 0 where
  pub few : room names ≤ 32
  pub slots_are : name_slots ≡ room names
  pub are : declared ≡ map text (keys names)

-- the store records the functions Fs, all of them of n facts, and has so many slots
pub record Storing (store : Store) (many n : ℕ) (Fs : List (ℕ → ℕ)) : Type 0 where
  pub slots_are : many ≡ slots store
  pub recorded : Recorded store (held_by store) Fs
  pub keeps : Each (Ignores n) Fs

-- each root means what its policy's row says, which is an effect's code everywhere
pub record Filing (K : Codes) (store : Store) (roots : List ℕ) (filed : List Filed) : Type 0 where
  pub are : length filed ≡ length roots
  pub few : length roots ≤ 64
  pub roots_mean : (p : ℕ) → p < length roots → Means store (slice_index roots p) (λ q. result K (slice_index_or filed p no_policy).row q)
  pub effects_below : (p q : ℕ) → p < length roots → result K (slice_index_or filed p no_policy).row q < K.count

-- facts n and above make no difference to any entry of a row
abbrev pub Settled : Codes → ℕ → Row → Type 0
Settled K n row = (q : ℕ) → values K row q ≡ values K row (q % 2 ^ n)

-- what a row's entries are: facts n and above make no difference, and after END the result is an effect's code
pub record Fed (K : Codes) (n : ℕ) (row : Row) : Type 0 where
  pub settled : Settled K n row
  pub finished : ended row ≡ true → (q : ℕ) → result K row q < K.count

-- what an open draft adds, with so much held before it: the stack holds its row, the nodes before it record the filed policies, and there is room for one more
pub record Drafting (K : Codes) (store : Store) (stack : Stack ℕ) (state : State) (before : ℕ) (c : Catalogue) : Type 0 where
  pub holds : Holds store_model K store stack (open_row c)
  pub fed : Fed K (facts c) (open_row c)
  pub recorded_before : Recorded store before (filed_results K c)
  pub roots_before : (p : ℕ) → p < length state.roots.items → slice_index state.roots.items p < 16 + before
  pub room : length state.roots.items < 64
  pub given : 0 < c.given

-- all of it
pub record Upholds (K : Codes) (Q : QuestionCodes) (names : NameTable) (store : Store) (tables : EffectTables) (questions : QuestionTables) (stack : Stack ℕ) (state : State) (c : Catalogue) : Type 0 where
  pub algebra : Algebra K Q tables questions
  pub naming : Naming names c.making.name_slots c.contents.names
  pub storing : Storing store c.making.slots (facts c) (all_results K c)
  pub filing : Filing K store state.roots.items c.contents.filed
  pub number_is : c.making.number ≡ state.number
  pub given_is : state.given ≡ c.given % 2 ^ 32
  pub drafting_is : is_open c ≡ is_some state.before
  pub drafting : (before : ℕ) → state.before ≡ Some before → Drafting K store stack state before c
