-- Four effects, in the manner of Hughes and Bultan: an error anywhere is an error of the whole.
use Rattle.std.specs.Prelude.{ℕ, Bool, cond, ◌||◌, ◌==◌}
use Rattle.effects.specs.Effects.{Effects, Questions}
use Rattle.effects.specs.Decisions.{effects_break, either, first_but}
use Rattle.effects.specs.declared.decision.Decision.{Decision}
use Rattle.effects.specs.declared.decision.Decision.TheVariants.{Permit as permits, Deny as denies, Neither as neither}
use Rattle.effects.specs.declared.four.FourEffect.{FourEffect}
use Rattle.effects.specs.declared.four.FourEffect.TheVariants.{NotApplicable, Permit, Deny, Error}

-- the code of an effect
abbrev pub code_of : FourEffect → ℕ
code_of NotApplicable = 0
code_of Permit = 1
code_of Deny = 2
code_of Error = 3

-- the effect of a code
abbrev pub effect_of : ℕ → FourEffect
effect_of n = cond (n == 1) Permit (cond (n == 2) Deny (cond (n == 3) Error NotApplicable))

-- two effects are one
abbrev pub same : FourEffect → FourEffect → Bool
same a b = code_of a == code_of b

-- Error if either is, else the strong effect if either is, else the weak one if either is, else not applicable
abbrev pub overrides : FourEffect → FourEffect → FourEffect → FourEffect → FourEffect
overrides strong weak a b =
    cond (either same Error a b) Error (cond (either same strong a b) strong (cond (either same weak a b) weak NotApplicable))

-- the first unless it is not applicable, then the second
abbrev pub first_applicable : FourEffect → FourEffect → FourEffect
first_applicable a b = first_but same NotApplicable a b

-- if one is not applicable, the other; else an error
abbrev pub only_one : FourEffect → FourEffect → FourEffect
only_one a b = cond (same a NotApplicable) b (cond (same b NotApplicable) a Error)

-- combiner 0 is deny-overrides, 1 permit-overrides, 2 first-applicable, 3 only-one
abbrev pub combined : ℕ → FourEffect → FourEffect → FourEffect
combined k a b =
    cond (k == 0) (overrides Deny Permit a b)
    (cond (k == 1) (overrides Permit Deny a b)
    (cond (k == 2) (first_applicable a b) (only_one a b)))

-- what an effect decides
abbrev pub decision_of : FourEffect → Decision
decision_of NotApplicable = neither
decision_of Permit = permits
decision_of Deny = denies
decision_of Error = neither

-- the four effects: only Permit and Deny may be stated, and the failed form of anything is Error
abbrev pub four : Effects FourEffect
four = record {
  count = 4;
  code = code_of;
  effect = effect_of;
  not_applicable = NotApplicable;
  statable = λ e. same e Permit || same e Deny;
  failed = λ e. Error;
  combiners = 4;
  combined = combined;
}

-- the six questions of effects that decide
abbrev pub four_questions : Questions FourEffect
four_questions = record {
  questions = 6;
  breaks = effects_break same decision_of;
}
