-- The store as a reader of tapes: an entry is a code.
use Rattle.std.specs.Prelude.{ℕ}
use Rattle.tape.specs.Entries.{Model}
use Rattle.diagram.specs.Stores.{Means, Later, Unchanged, Grows, full}
use Rattle.diagram.specs.declared.store.Store.{Store}

-- a code means its function at every request; there is no slot where the cofactors would be more than the slots
abbrev pub store_model : Model Store ℕ
store_model = record {
  sense = Means;
  full = full;
  later = Later;
  grows = Grows;
  stays = Unchanged;
}
