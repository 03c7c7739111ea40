-- What an effect algebra means: a finite set of effects, with functions of their arguments alone.
use Rattle.std.specs.Prelude.{◌≡◌, ℕ, ◌<◌, ◌≤◌, Bool}

-- effects, their codes and what can be made of them
pub record Effects (E : Type 0) : Type 0 where
  -- how many effects there are
  pub count : ℕ
  -- the code of an effect, and the effect of a code below the count
  pub code : E → ℕ
  pub effect : ℕ → E
  -- the effect of a policy that has nothing to say of a request
  pub not_applicable : E
  -- which effects a policy may state
  pub statable : E → Bool
  -- what becomes of an effect where its policy is marked as failed
  pub failed : E → E
  -- how many combiners there are, and the effect that one gives for a first and a second
  pub combiners : ℕ
  pub combined : ℕ → E → E → E

-- what two policies can be asked: how many questions there are, and whether a pair (first, second) breaks one
pub record Questions (E : Type 0) : Type 0 where
  pub questions : ℕ
  pub breaks : ℕ → E → E → Bool

-- what every algebra owes: 1 to 16 effects, at most 4 combiners, and code and effect undo each other on both sides
pub record Lawful {E : Type 0} (M : Effects E) : Type 0 where
  pub some : 0 < M.count
  pub few : M.count ≤ 16
  pub few_combiners : M.combiners ≤ 4
  pub code_below : (e : E) → M.code e < M.count
  pub effect_code : (e : E) → M.effect (M.code e) ≡ e
  pub code_effect : (n : ℕ) → n < M.count → M.code (M.effect n) ≡ n

-- at most 8 questions
abbrev pub Few : {E : Type 0} → Questions E → Type 0
Few Q = Q.questions ≤ 8
