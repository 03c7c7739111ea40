-- What the hostile algebra means.
use Rattle.std.specs.Prelude.{ℕ, true, false, cond, ◌==◌}
use Rattle.effects.specs.Effects.{Effects, Questions}
use Rattle.shelf_tests.specs.declared.hostile.Odd.{Odd}
use Rattle.shelf_tests.specs.declared.hostile.Odd.TheVariants.{Low, Middle, High, Silent}

-- the code of an effect
abbrev pub odd_code : Odd → ℕ
odd_code Low = 0
odd_code Middle = 1
odd_code High = 2
odd_code Silent = 3

-- the next effect, round the end
abbrev pub next : Odd → Odd
next Low = Middle
next Middle = High
next High = Silent
next Silent = Low

-- four effects, of which the last is not applicable; the one combiner gives the next effect after the first
abbrev pub odd : Effects Odd
odd = record {
  count = 4;
  code = odd_code;
  effect = λ n. cond (n == 0) Low (cond (n == 1) Middle (cond (n == 2) High Silent));
  not_applicable = Silent;
  statable = λ e. true;
  failed = λ e. Low;
  combiners = 1;
  combined = λ k a b. next a;
}

-- one question, broken by two equal effects and by no others
abbrev pub odd_questions : Questions Odd
odd_questions = record { questions = 1; breaks = λ q a b. (odd_code a == odd_code b) }
