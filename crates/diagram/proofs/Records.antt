-- What holds of stores.
use Rattle.std.proofs.Common.{◌≡◌, ℕ, suc, ◌+◌, ◌<◌, ◌≤◌, List, length, get_or, refl}
use mathlib.Core.Logic.{∥∥₁_elim}
use mathlib.Core.HLevel.{Π_prop}
use denote.Struct.Props.{props}
use Rattle.probing.specs.declared.node.Node.{Node}
use Rattle.diagram.specs.Tree.{Tree, Neat}
use Rattle.diagram.specs.Tree.Tree.{terminal, branch}
use Rattle.diagram.specs.Nodes.{trees, no_node, Good}
use Rattle.diagram.specs.Stores.{nodes}
use Rattle.diagram.specs.declared.store.Store.{Store}

-- `Good` has one proof at most
neat_prop : (n k : ℕ) (t : Tree) → IsProp (Neat n k t)
neat_prop n k (terminal v) x y = refl
neat_prop n k (branch f l h) x y =
    let a : IsProp (k ≤ f) = hlevel props in
    let b : IsProp (f < n) = hlevel props in
    let c : IsProp (l ≡ h → ⊥) = hlevel props in
    λ i. (a x.0 y.0 i, b x.1 y.1 i, neat_prop n (suc f) l x.2 y.2 i, neat_prop n (suc f) h x.3 y.3 i, c x.4 y.4 i)

module _ (n : ℕ) (xs : List Node) where
  older_prop : IsProp ((i : ℕ) → i < length xs → ((get_or xs i no_node).low < 16 + i) × ((get_or xs i no_node).high < 16 + i))
  older_prop = hlevel props

  neats_prop : IsProp ((i : ℕ) → i < length xs → Neat n 0 (get_or (trees xs) i (terminal 0)))
  neats_prop = Π_prop λ i. Π_prop λ h. neat_prop n 0 (get_or (trees xs) i (terminal 0))

  apart_prop : IsProp ((i j : ℕ) → i < length xs → j < length xs → get_or (trees xs) i (terminal 0) ≡ get_or (trees xs) j (terminal 0) → i ≡ j)
  apart_prop = hlevel props

  good_prop : IsProp (Good n xs)
  good_prop x y = λ i. record {
    older = older_prop x.older y.older i;
    neat = neats_prop x.neat y.neat i;
    apart = apart_prop x.apart y.apart i;
  }

-- the nodes of a store, out of its ghost field
pub good : (s : Store) → Good 32 (nodes s)
good s = ∥∥₁_elim s.good (good_prop 32 (nodes s)) (λ x. x)
