use Rattle.std.proofs.Common.{◌≡◌, ◌≤◌, length, take, drop}
use Rattle.effects.specs.Codes.{codes, question_codes}
use Rattle.shelf.specs.Catalogue.{Catalogue}
use Rattle.shelf.specs.Stands.{Stands}
use Rattle.shelf.specs.Law.{Runs}
use Rattle.shelf.proofs.runner.run_on.Given as goal

abbrev pub invariant-loop-i : goal.invariant-loop-i
invariant-loop-i g l =
    let M = g.A.EffectAlgebra.effects in
    let Q = g.A.EffectAlgebra.questions in
    (l.n ≤ length l.calls) × (l.n ≤ length l.log) × (drop l.i l.log ≡ drop l.i l.initial.log)
    × ((c : Catalogue) → Stands (codes M) (question_codes M Q) l.initial.shelf c → ((d : Catalogue) × (Stands (codes M) (question_codes M Q) l.shelf d × Runs M Q l.initial.shelf c (take l.i l.calls) (take l.i l.log) l.shelf d)))
