-- How nodes are built: what the steps on the way to a code know.
use Rattle.std.specs.Prelude.{◌≡◌, ℕ, ◌+◌, ◌<◌, ◌≤◌, List, length, Ok, Err, Result}
use Rattle.probing.specs.declared.node.Node.{Node}
use Rattle.diagram.specs.Tree.{Tree, Neat, low, high}
use Rattle.diagram.specs.Tree.Tree.{terminal, branch}
use Rattle.diagram.specs.Nodes.{trees, meant, Good, Begins}
use Rattle.diagram.specs.declared.store.Full.{Full}
use Rattle.diagram.specs.declared.store.Sides.{Sides}
use Rattle.diagram.specs.declared.store.Split.{Split}

-- the fact that a tree tests first, or n where it is a terminal
abbrev pub Top : ℕ → Tree → ℕ → Type 0
Top n (terminal v) r = r ≡ n
Top n (branch f l h) r = r ≡ f

-- what is left of a code c where fact f is absent, and where it is present
pub record Sided (xs : List Node) (f c : ℕ) (r : Sides) : Type 0 where
  pub low_within : r.low < 16 + length xs
  pub high_within : r.high < 16 + length xs
  pub low_means : meant xs r.low ≡ low f (meant xs c)
  pub high_means : meant xs r.high ≡ high f (meant xs c)

-- the first fact from k on that one of two codes tests, and what is left of each
pub record Parted (n k : ℕ) (xs : List Node) (a b : ℕ) (r : Split) : Type 0 where
  pub from : k ≤ r.fact
  pub below : r.fact < n
  pub first_neat : Neat n r.fact (meant xs a)
  pub second_neat : Neat n r.fact (meant xs b)
  pub first : Sided xs r.fact a r.first
  pub second : Sided xs r.fact b r.second

-- c is a code of t among ys, which begin with xs and have the trees S
pub record Made (n : ℕ) (xs ys : List Node) (S : List Tree) (t : Tree) (c : ℕ) : Type 0 where
  pub good : Good n ys
  pub held : trees ys ≡ S
  pub within : c < 16 + length ys
  pub means : meant ys c ≡ t
  pub begins : Begins xs ys

-- the trees S are more than there are slots; ys still begin with xs
pub record Refused (slots : ℕ) (xs ys : List Node) (S : List Tree) : Type 0 where
  pub full : slots < length S
  pub begins : Begins xs ys

-- a code of t was made, with the trees S held then, or there are too few slots for S
abbrev pub Answer : ℕ → ℕ → List Node → List Node → List Tree → Tree → Result ℕ Full → Type 0
Answer n slots xs ys S t (Ok c) = Made n xs ys S t c
Answer n slots xs ys S t (Err e) = Refused slots xs ys S
