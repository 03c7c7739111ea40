-- A decision tree over facts: what a code stands for, with no sharing and no numbers of nodes.
use Rattle.std.specs.Prelude.{ℕ, zero, suc, ◌<◌, ◌≤◌, Bool, true, false, cond, ◌&&◌, ◌==◌, ◌≢◌}
use Rattle.diagram.specs.Requests.{present, pack}

-- a terminal with its code, or a test of a fact with what follows where it is absent and where it is present
pub data Tree : Type 0 where
  terminal : ℕ → Tree
  branch : ℕ → Tree → Tree → Tree

-- what a tree says where fact f is present just if p says so
abbrev pub at : Tree → (ℕ → Bool) → ℕ
at (terminal v) p = v
at (branch f l h) p = cond (p f) (at h p) (at l p)

-- the function of requests that a tree is
abbrev pub says : Tree → ℕ → ℕ
says t r = at t (present r)

-- ordered and reduced: every test is of a fact from k on and below n, later facts stand below, and no test is idle
abbrev pub Neat : ℕ → ℕ → Tree → Type 0
Neat n k (terminal v) = Unit {0}
Neat n k (branch f l h) = (k ≤ f) × (f < n) × Neat n (suc f) l × Neat n (suc f) h × (l ≢ h)

-- two trees are the same
abbrev pub same : Tree → Tree → Bool
same (terminal v) (terminal w) = v == w
same (terminal v) (branch g m i) = false
same (branch f l h) (terminal w) = false
same (branch f l h) (branch g m i) = f == g && (same l m && same h i)

-- a test of f, left out where it is idle
abbrev pub mk : ℕ → Tree → Tree → Tree
mk f l h = cond (same l h) l (branch f l h)

-- what is left of a tree, with no test before k, where fact k is absent
abbrev pub low : ℕ → Tree → Tree
low k (terminal v) = terminal v
low k (branch f l h) = cond (f == k) l (branch f l h)

-- and where it is present
abbrev pub high : ℕ → Tree → Tree
high k (terminal v) = terminal v
high k (branch f l h) = cond (f == k) h (branch f l h)

-- p, but with fact k as b says
abbrev pub put : (ℕ → Bool) → ℕ → Bool → ℕ → Bool
put p k b f = cond (f == k) b (p f)

-- the tree of a function of facts, over the m facts from k on
unfoldable pub shape : ℕ → ℕ → ((ℕ → Bool) → ℕ) → Tree
shape zero k F = terminal (F (λ _. false))
shape (suc m) k F = mk k (shape m (suc k) (λ p. F (put p k false))) (shape m (suc k) (λ p. F (put p k true)))

-- the tree of a function of requests over n facts
unfoldable pub tree_of : ℕ → (ℕ → ℕ) → Tree
tree_of n F = shape n 0 (λ p. F (pack n p))

-- the tree of an operation on two trees, over the m facts from k on
unfoldable pub applied : (ℕ → ℕ → ℕ) → ℕ → ℕ → Tree → Tree → Tree
applied op zero k t u = terminal (op (at t (λ _. false)) (at u (λ _. false)))
applied op (suc m) k t u = mk k (applied op m (suc k) (low k t) (low k u)) (applied op m (suc k) (high k t) (high k u))

-- a test of k over the tree of the later facts: every fact counts, or any
abbrev pub rung : Bool → ℕ → Tree → Tree
rung true k t = mk k (terminal 0) t
rung false k t = mk k t (terminal 1)

-- the tree that says 1 where every, or any, fact of the mask is present, over the m facts from k on
unfoldable pub ladder : Bool → ℕ → ℕ → ℕ → Tree
ladder every mask zero k = terminal (cond every 1 0)
ladder every mask (suc m) k = cond (present mask k) (rung every k (ladder every mask m (suc k))) (ladder every mask m (suc k))
