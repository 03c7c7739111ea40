-- Six effects, those of XACML 3.0: an error tells which decisions it could have hidden.
use Rattle.std.specs.Prelude.{ℕ, Bool, cond, ◌&&◌, ◌||◌, ◌==◌}
use Rattle.effects.specs.Effects.{Effects, Questions}
use Rattle.effects.specs.Decisions.{effects_break, either, first_but}
use Rattle.effects.specs.declared.decision.Decision.{Decision}
use Rattle.effects.specs.declared.decision.Decision.TheVariants.{Permit as permits, Deny as denies, Neither as neither}
use Rattle.effects.specs.declared.six.SixEffect.{SixEffect}
use Rattle.effects.specs.declared.six.SixEffect.TheVariants.{NotApplicable, Permit, Deny, IndeterminateD, IndeterminateP, IndeterminateDP}
use Rattle.effects.specs.declared.six.Side.{Side}

-- the code of an effect
abbrev pub code_of : SixEffect → ℕ
code_of NotApplicable = 0
code_of Permit = 1
code_of Deny = 2
code_of IndeterminateD = 3
code_of IndeterminateP = 4
code_of IndeterminateDP = 5

-- the effect of a code
abbrev pub effect_of : ℕ → SixEffect
effect_of n =
    cond (n == 1) Permit (cond (n == 2) Deny (cond (n == 3) IndeterminateD (cond (n == 4) IndeterminateP (cond (n == 5) IndeterminateDP NotApplicable))))

-- two effects are one
abbrev pub same : SixEffect → SixEffect → Bool
same a b = code_of a == code_of b

-- the denying side is Deny and Indeterminate{D}, the permitting one Permit and Indeterminate{P}
abbrev pub denying : Side
denying = record { sure = Deny; unsure = IndeterminateD }

abbrev pub permitting : Side
permitting = record { sure = Permit; unsure = IndeterminateP }

-- an effect is of the side s
abbrev pub has : Side → SixEffect → Bool
has s a = same a s.sure || same a s.unsure

-- one of the two is x, and the other is of the side s
abbrev pub meets : SixEffect → Side → SixEffect → SixEffect → Bool
meets x s a b = (same a x && has s b) || (same b x && has s a)

-- the first that fits: the strong decision if either is it; {DP} if either is; {DP} if one is the strong side's error
-- and the other of the weak side; the strong side's error if either is; the weak decision if either is; the weak
-- side's error if either is; not applicable
abbrev pub overrides : Side → Side → SixEffect → SixEffect → SixEffect
overrides strong weak a b =
    cond (either same strong.sure a b) strong.sure
    (cond (either same IndeterminateDP a b) IndeterminateDP
    (cond (meets strong.unsure weak a b) IndeterminateDP
    (cond (either same strong.unsure a b) strong.unsure
    (cond (either same weak.sure a b) weak.sure
    (cond (either same weak.unsure a b) weak.unsure
    NotApplicable)))))

-- the first unless it is not applicable, then the second
abbrev pub first_applicable : SixEffect → SixEffect → SixEffect
first_applicable a b = first_but same NotApplicable a b

-- combiner 0 is deny-overrides, 1 permit-overrides, 2 first-applicable
abbrev pub combined : ℕ → SixEffect → SixEffect → SixEffect
combined k a b =
    cond (k == 0) (overrides denying permitting a b) (cond (k == 1) (overrides permitting denying a b) (first_applicable a b))

-- Permit becomes {P}, Deny becomes {D}, and the rest remain
abbrev pub failed_form : SixEffect → SixEffect
failed_form NotApplicable = NotApplicable
failed_form Permit = IndeterminateP
failed_form Deny = IndeterminateD
failed_form IndeterminateD = IndeterminateD
failed_form IndeterminateP = IndeterminateP
failed_form IndeterminateDP = IndeterminateDP

-- what an effect decides
abbrev pub decision_of : SixEffect → Decision
decision_of NotApplicable = neither
decision_of Permit = permits
decision_of Deny = denies
decision_of IndeterminateD = neither
decision_of IndeterminateP = neither
decision_of IndeterminateDP = neither

-- the six effects: only Permit and Deny may be stated
abbrev pub six : Effects SixEffect
six = record {
  count = 6;
  code = code_of;
  effect = effect_of;
  not_applicable = NotApplicable;
  statable = λ e. same e Permit || same e Deny;
  failed = failed_form;
  combiners = 3;
  combined = combined;
}

-- the six questions of effects that decide
abbrev pub six_questions : Questions SixEffect
six_questions = record {
  questions = 6;
  breaks = effects_break same decision_of;
}
