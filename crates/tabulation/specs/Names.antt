-- How effects are written.
use Rattle.std.specs.Prelude.{ℕ, cond, List, codes, nat_lt}
use Rattle.effects.specs.Four.{four}
use Rattle.effects.specs.Six.{six}
use Rattle.effects.specs.declared.four.FourEffect.{FourEffect}
use Rattle.effects.specs.declared.four.FourEffect.TheVariants.{NotApplicable, Permit, Deny, Error}
use Rattle.effects.specs.declared.six.SixEffect.{SixEffect}
use Rattle.effects.specs.declared.six.SixEffect.TheVariants.{NotApplicable as NotApplicable6, Permit as Permit6, Deny as Deny6, IndeterminateD, IndeterminateP, IndeterminateDP}
use Rattle.tabulation.specs.declared.input.EffectSet.{EffectSet}
use Rattle.tabulation.specs.declared.input.EffectSet.TheVariants.{Four, Six}

-- how many effects a set has
abbrev pub count_of : EffectSet → ℕ
count_of Four = four.count
count_of Six = six.count

-- the names of the four effects
abbrev pub four_name : FourEffect → List ℕ
four_name NotApplicable = codes "NA"
four_name Permit = codes "Permit"
four_name Deny = codes "Deny"
four_name Error = codes "Error"

-- the names of the six effects
abbrev pub six_name : SixEffect → List ℕ
six_name NotApplicable6 = codes "NA"
six_name Permit6 = codes "Permit"
six_name Deny6 = codes "Deny"
six_name IndeterminateD = codes "Indeterminate{D}"
six_name IndeterminateP = codes "Indeterminate{P}"
six_name IndeterminateDP = codes "Indeterminate{DP}"

-- the name of the effect of a code; a question mark where the set has none
abbrev pub name_of : EffectSet → ℕ → List ℕ
name_of Four e = cond (nat_lt e four.count) (four_name (four.effect e)) (codes "?")
name_of Six e = cond (nat_lt e six.count) (six_name (six.effect e)) (codes "?")
