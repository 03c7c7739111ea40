-- The first request at which two functions break a question.
use Rattle.std.specs.Prelude.{◌≡◌, ℕ, ◌+◌, ◌*◌, ◌^◌, ◌<◌, ◌≤◌, Bool, true, false, ◌⊎◌, List, Some, None, Option, slice_index_or}
use Rattle.probing.specs.declared.node.Node.{Node}
use Rattle.probing.specs.declared.pair.Pair.{Pair}
use Rattle.diagram.specs.Counted.{Each}
use Rattle.diagram.specs.Requests.{present}
use Rattle.diagram.specs.Tree.{says}
use Rattle.diagram.specs.Nodes.{meant}

-- whether a question's table says that a pair of codes breaks it
abbrev pub asks : List Bool → ℕ → ℕ → Bool
asks q a b = slice_index_or q (a * 16 + b) false

-- the values of two functions at a request break the question
abbrev pub Breaks : List Bool → (ℕ → ℕ) → (ℕ → ℕ) → ℕ → Type 0
Breaks q F G r = asks q (F r) (G r) ≡ true

-- no request over n facts breaks it
abbrev pub Kept : ℕ → List Bool → (ℕ → ℕ) → (ℕ → ℕ) → Type 0
Kept n q F G = (s : ℕ) → s < 2 ^ n → Breaks q F G s → ⊥

-- r comes before s, where only the facts from k on count
pub record BeforeFrom (k r s : ℕ) : Type 0 where
  pub fact : ℕ
  pub from : k ≤ fact
  pub lacks : present r fact ≡ false
  pub has : present s fact ≡ true
  pub agree : (f : ℕ) → k ≤ f → f < fact → present r f ≡ present s f

-- so, or they have the same of those facts
abbrev pub Leads : ℕ → ℕ → ℕ → ℕ → Type 0
Leads n k r s = ((f : ℕ) → k ≤ f → f < n → present r f ≡ present s f) ⊎ BeforeFrom k r s

-- r has no fact before k, and is the first of which Q holds where only the facts from k on count
pub record FirstFrom (n k : ℕ) (Q : ℕ → Type 0) (r : ℕ) : Type 0 where
  pub within : r < 2 ^ n
  pub bare : (f : ℕ) → f < k → present r f ≡ false
  pub breaks : Q r
  pub leads : (s : ℕ) → s < 2 ^ n → Q s → Leads n k r s

-- such a request, or none where Q holds of none at all
abbrev pub WitnessFrom : ℕ → ℕ → (ℕ → Type 0) → Option ℕ → Type 0
WitnessFrom n k Q (Some r) = FirstFrom n k Q r
WitnessFrom n k Q None = (s : ℕ) → s < 2 ^ n → Q s → ⊥

-- each of a row of pairs of codes was searched without a break
abbrev pub Searched : ℕ → List Bool → List Node → List Pair → Type 0
Searched n q xs ps = Each (λ p. Kept n q (says (meant xs p.first)) (says (meant xs p.second))) ps
