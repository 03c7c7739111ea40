-- What holds of every store, said of the functions that it has recorded.
use Rattle.std.specs.Prelude.{◌≡◌, ℕ, ◌≤◌, List, [], ◌∷◌, ◌++◌, nat_lt}
use Rattle.probing.specs.declared.node.Node.{Node}
use Rattle.diagram.specs.Cofactors.{count}
use Rattle.diagram.specs.Counted.{Same, Ignores, Each, Within, Lists}
use Rattle.diagram.specs.Nodes.{functions}
use Rattle.diagram.specs.Stores.{held, slots, full, Recorded, Means}
use Rattle.diagram.specs.declared.store.Store.{Store}

-- the laws of a store
pub record StoreLaw : Type 0 where
  -- the number of nodes that record functions is the count of their cofactors, over any number of facts that they keep to
  pub counted : (s : Store) (k n : ℕ) (Fs : List (ℕ → ℕ)) → Recorded s k Fs → n ≤ 32 → Each (Ignores n) Fs → k ≡ count n Fs
  -- a store is full for a function where the count with its cofactors is more than the slots
  pub filled : (s : Store) (n : ℕ) (Fs : List (ℕ → ℕ)) (F : ℕ → ℕ) → Recorded s (held s) Fs → n ≤ 32 → Each (Ignores n) (Fs ++ F ∷ []) → full s F ≡ nat_lt (slots s) (count n (Fs ++ F ∷ []))
  -- the same functions, in whatever order and however often, are recorded by the same nodes
  pub same : (s : Store) (k : ℕ) (Fs Gs : List (ℕ → ℕ)) → Within 32 Fs Gs → Within 32 Gs Fs → Recorded s k Fs → Recorded s k Gs
  -- and so are those that any nodes list, be they a store's or not
  pub same_listed : (xs : List Node) (Fs Gs : List (ℕ → ℕ)) → Within 32 Fs Gs → Within 32 Gs Fs → Lists 32 Fs (functions xs) → Lists 32 Gs (functions xs)
  -- a function has one code: two that mean functions of n facts are the same where those are
  pub canonical : (s : Store) (n c d : ℕ) (F G : ℕ → ℕ) → n ≤ 32 → Ignores n F → Ignores n G → Means s c F → Means s d G → Same n F G → c ≡ d
