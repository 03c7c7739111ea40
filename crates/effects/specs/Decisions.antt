-- What an effect decides, and the questions that look at that alone.
use Rattle.std.specs.Prelude.{ℕ, Bool, true, false, cond, not, ◌&&◌, ◌||◌, ◌==◌}
use Rattle.effects.specs.declared.decision.Decision.{Decision}
use Rattle.effects.specs.declared.decision.Decision.TheVariants.{Permit, Deny, Neither}

-- the decision is to permit
abbrev pub permits : Decision → Bool
permits Permit = true
permits Deny = false
permits Neither = false

-- the decision is to deny
abbrev pub denies : Decision → Bool
denies Permit = false
denies Deny = true
denies Neither = false

-- question 1 is broken when the first permits and the second does not; 2 the same for denying;
-- 3 when the second permits and the first does not; 4 when the first permits or denies and the second does not do so too;
-- 5 when one permits and the other denies
abbrev pub decisions_break : ℕ → Decision → Decision → Bool
decisions_break q a b =
    cond (q == 1) (permits a && not (permits b))
    (cond (q == 2) (denies a && not (denies b))
    (cond (q == 3) (permits b && not (permits a))
    (cond (q == 4) ((permits a && not (permits b)) || (denies a && not (denies b)))
    (cond (q == 5) ((permits a && denies b) || (denies a && permits b))
    false))))

-- question 0 is broken when two effects differ; 1 to 5 look at what they decide
abbrev pub effects_break : {E : Type 0} → (E → E → Bool) → (E → Decision) → ℕ → E → E → Bool
effects_break same decision q a b = cond (q == 0) (not (same a b)) (decisions_break q (decision a) (decision b))

-- one of the two is this effect
abbrev pub either : {E : Type 0} → (E → E → Bool) → E → E → E → Bool
either same effect a b = same a effect || same b effect

-- the first unless it is this effect, then the second
abbrev pub first_but : {E : Type 0} → (E → E → Bool) → E → E → E → E
first_but same absent a b = cond (same a absent) b a
