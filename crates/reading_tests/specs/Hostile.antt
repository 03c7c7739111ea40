-- What the hostile algebra means.
use Rattle.std.specs.Prelude.{ℕ, true, cond, ◌==◌}
use Rattle.effects.specs.Effects.{Effects, Questions}
use Rattle.reading_tests.specs.declared.hostile.Odd.{Odd}
use Rattle.reading_tests.specs.declared.hostile.Odd.TheVariants.{Low, High, Silent}

-- the code of an effect
abbrev pub odd_code : Odd → ℕ
odd_code Low = 0
odd_code High = 1
odd_code Silent = 2

-- the next effect, round the end
abbrev pub next : Odd → Odd
next Low = High
next High = Silent
next Silent = Low

-- three effects, of which the last is not applicable; the one combiner gives the next effect after the first
abbrev pub odd : Effects Odd
odd = record {
  count = 3;
  code = odd_code;
  effect = λ n. cond (n == 0) Low (cond (n == 1) High Silent);
  not_applicable = Silent;
  statable = λ e. true;
  failed = λ e. Low;
  combiners = 1;
  combined = λ k a b. next a;
}

-- one question, broken by every pair
abbrev pub odd_questions : Questions Odd
odd_questions = record { questions = 1; breaks = λ q a b. true }
