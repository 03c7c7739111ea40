use Rattle.std.proofs.Common.{◌≡◌, ℕ, List, map, ap, ◌∙◌}
use Rattle.probing.specs.Mixing.{mixed, gathered}
use Rattle.probing.specs.Kinds.{fold_byte}
use Rattle.probing.proofs.Texts.{gathered_more, gathered_all}
use Rattle.probing.proofs.name.NameKey.hash.Goals as goal

pub loop-b-preserved : goal.loop-b-preserved
loop-b-preserved c =
    gathered_more fold_byte c.loop-b.h c.text-b-items.result.now c.loop-b.b-index c.fold_byte.result c.loop-b-test.true c.fold_byte.ensures
    ∙ c.loop-b.invariant

pub returns : goal.returns
returns c =
    let all : c.loop-b.h ≡ gathered 0xCBF29CE484222325 (map fold_byte c.text-b-items.result.now) = gathered_all fold_byte c.loop-b.h c.text-b-items.result.now c.loop-b.b-index c.loop-b-test.false ∙ c.loop-b.invariant in
    c.mix.ensures ∙ ap mixed all ∙ ap (λ (t : List ℕ). mixed (gathered 0xCBF29CE484222325 (map fold_byte t))) c.text-b-items.ensures
