-- An effect algebra over codes: all that is known of it where tapes are run.
use Rattle.std.specs.Prelude.{ℕ, ◌<◌, ◌≤◌, Bool}
use Rattle.effects.specs.Effects.{Effects, Questions}

-- effects by their codes
pub record Codes : Type 0 where
  pub count : ℕ
  pub not_applicable : ℕ
  pub statable : ℕ → Bool
  pub failed : ℕ → ℕ
  pub combiners : ℕ
  pub combined : ℕ → ℕ → ℕ → ℕ

-- the questions, asked of codes
pub record QuestionCodes : Type 0 where
  pub questions : ℕ
  pub breaks : ℕ → ℕ → ℕ → Bool

-- at most 16 codes and 4 combiners, and codes below the count lead to codes below it
pub record Closed (K : Codes) : Type 0 where
  pub few : K.count ≤ 16
  pub few_combiners : K.combiners ≤ 4
  pub not_applicable_below : K.not_applicable < K.count
  pub failed_below : (e : ℕ) → e < K.count → K.failed e < K.count
  pub combined_below : (k a b : ℕ) → a < K.count → b < K.count → K.combined k a b < K.count

-- the codes of an algebra's effects
abbrev pub codes : {E : Type 0} → Effects E → Codes
codes M = record {
  count = M.count;
  not_applicable = M.code M.not_applicable;
  statable = λ e. M.statable (M.effect e);
  failed = λ e. M.code (M.failed (M.effect e));
  combiners = M.combiners;
  combined = λ k a b. M.code (M.combined k (M.effect a) (M.effect b));
}

-- an algebra's questions, asked of the codes of its effects
abbrev pub question_codes : {E : Type 0} → Effects E → Questions E → QuestionCodes
question_codes M Q = record {
  questions = Q.questions;
  breaks = λ q a b. Q.breaks q (M.effect a) (M.effect b);
}
