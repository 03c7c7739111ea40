use Rattle.std.proofs.Common.{◌≤◌, ◌∙◌, arith}
use Rattle.tabulation.specs.declared.input.EffectSet.TheVariants.{Four, Six}
use Rattle.tabulation.proofs.Filling.{becomes}
use Rattle.tabulation.proofs.tables.tabulate.Goals as goal

pub returns-in-Four : goal.returns-in-Four
returns-in-Four c =
    let i = c.in_ok-input.input in
    let few : i.facts ≤ 32 = omega (arith, c.in_ok-input.ensures.few) in
    rw c.in_ok-input.ensures.parsed (becomes i Four c.deref.result.now c.in-Four.is few (c.deref.ensures.value ∙ c.in_ok-masks.ensures) c.fill.result c.fill.ensures)

pub returns : goal.returns
returns c =
    let i = c.in_ok-input.input in
    let few : i.facts ≤ 32 = omega (arith, c.in_ok-input.ensures.few) in
    rw c.in_ok-input.ensures.parsed (becomes i Six c.deref-in-Six.result.now c.in-Six.is few (c.deref-in-Six.ensures.value ∙ c.in_ok-masks.ensures) c.fill-in-Six.result c.fill-in-Six.ensures)
