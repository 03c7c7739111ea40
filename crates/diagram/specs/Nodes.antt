-- What a row of nodes means: a list of trees, each once, in the order in which they came.
use Rattle.std.specs.Prelude.{◌≡◌, ℕ, ◌+◌, ◌-◌, ◌<◌, Bool, false, cond, ◌||◌, List, [], ◌∷◌, ◌++◌, map, length, take, None, Option, nat_lt, slice_index_or}
use Rattle.probing.specs.declared.node.Node.{Node}
use Rattle.probing.specs.Table.{nth}
use Rattle.diagram.specs.Counted.{Exists}
use Rattle.diagram.specs.Tree.{Tree, Neat, same, says}
use Rattle.diagram.specs.Tree.Tree.{terminal, branch}

-- the tree of a code over the trees held; a code that names none is the constant 0
abbrev pub tree : List Tree → ℕ → Tree
tree S c = cond (nat_lt c 16) (terminal c) (slice_index_or S (c - 16) (terminal 0))

-- the tree of a node
abbrev pub branch_of : List Tree → Node → Tree
branch_of S x = branch x.fact (tree S x.low) (tree S x.high)

-- the trees of a row of nodes that stand behind the trees S
abbrev pub grow : List Tree → List Node → List Tree
grow S [] = S
grow S (x ∷ xs) = grow (S ++ (branch_of S x ∷ [])) xs

-- the trees of a row of nodes
abbrev pub trees : List Node → List Tree
trees xs = grow [] xs

-- the tree that a code stands for
abbrev pub meant : List Node → ℕ → Tree
meant xs c = tree (trees xs) c

-- the functions that the nodes of a row mean
abbrev pub functions : List Node → List (ℕ → ℕ)
functions xs = map says (trees xs)

-- a tree is one of a row
abbrev pub In : Tree → List Tree → Type 0
In t S = Exists (λ x. x ≡ t) S

-- the same as a test
abbrev pub holds : List Tree → Tree → Bool
holds [] t = false
holds (x ∷ xs) t = same x t || holds xs t

-- S with t, once
abbrev pub once : List Tree → Tree → List Tree
once S t = cond (holds S t) S (S ++ (t ∷ []))

-- S with each test of a tree: what follows a test stands before it
abbrev pub inserted : List Tree → Tree → List Tree
inserted S (terminal v) = S
inserted S (branch f l h) = once (inserted (inserted S l) h) (branch f l h)

-- S with a test of f, where it is not idle
abbrev pub tested : List Tree → ℕ → Tree → Tree → List Tree
tested S f l h = cond (same l h) S (once S (branch f l h))

-- a node for places that have none
abbrev pub no_node : Node
no_node = record { fact = 0; low = 0; high = 0 }

-- nodes whose children are older, and whose trees are ordered, reduced and apart
pub record Good (n : ℕ) (xs : List Node) : Type 0 where
  pub older : (i : ℕ) → i < length xs → ((slice_index_or xs i no_node).low < 16 + i) × ((slice_index_or xs i no_node).high < 16 + i)
  pub neat : (i : ℕ) → i < length xs → Neat n 0 (slice_index_or (trees xs) i (terminal 0))
  pub apart : (i j : ℕ) → i < length xs → j < length xs → slice_index_or (trees xs) i (terminal 0) ≡ slice_index_or (trees xs) j (terminal 0) → i ≡ j

-- the row ys begins with the row xs
abbrev pub Begins : List Node → List Node → Type 0
Begins xs ys = take (length xs) ys ≡ xs

-- the node that a code names, if it names one
abbrev pub node_of : List Node → ℕ → Option Node
node_of xs c = cond (nat_lt c 16) None (nth xs (c - 16))
