use Rattle.std.proofs.Common.{◌≡◌, map, take, vec_items}
use Rattle.effects.specs.Codes.{codes}
use Rattle.tape.specs.Tape.{read_answer}
use Rattle.tabulation.specs.Tables.{masks, answers}
use Rattle.tabulation.proofs.tables.fill.Given as goal

abbrev pub invariant-loop-mask : goal.invariant-loop-mask
invariant-loop-mask g l =
    (masks (vec_items l.rows) ≡ take l.mask-index l.masks)
    × (answers (vec_items l.rows) ≡ map (read_answer (codes g.A.EffectAlgebra.effects) l.input.facts l.input.tape.now) (take l.mask-index l.masks))
