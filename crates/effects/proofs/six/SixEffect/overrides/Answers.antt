use Rattle.std.proofs.Common.{rules, ◌≡◌, false}
use Rattle.effects.specs.Decisions.{either}
use Rattle.effects.specs.Six.{same}
use Rattle.effects.specs.declared.six.SixEffect.TheVariants.{IndeterminateDP}
use Rattle.effects.proofs.six.SixEffect.overrides.Goals as goal

-- at the last two ends the tests before have to be named one by one: the search stops at a limit else
pub returns-then-either-5 : goal.returns-then-either-5
returns-then-either-5 c =
    let a = c.args in
    let strong : either same a.strong.sure a.first a.second ≡ false = search rules in
    let both : either same IndeterminateDP a.first a.second ≡ false = search rules in
    let unsure : either same a.strong.unsure a.first a.second ≡ false = search rules in
    let weak : either same a.weak.sure a.first a.second ≡ false = search rules in
    search rules

pub returns-else-either-5 : goal.returns-else-either-5
returns-else-either-5 c =
    let a = c.args in
    let strong : either same a.strong.sure a.first a.second ≡ false = search rules in
    let both : either same IndeterminateDP a.first a.second ≡ false = search rules in
    let unsure : either same a.strong.unsure a.first a.second ≡ false = search rules in
    let weak : either same a.weak.sure a.first a.second ≡ false = search rules in
    let weak_unsure : either same a.weak.unsure a.first a.second ≡ false = search rules in
    search rules
