use Rattle.std.proofs.Common.{◌-◌, ◌≤◌, length}
use Rattle.effects.specs.Codes.{Codes, Closed}
use Rattle.effects.specs.Tables.{Tables}
use Rattle.tape.specs.Tape.{Row}
use Rattle.tape.specs.Entries.{Holds}
use Rattle.tape.proofs.Reading.{Reached}
use Rattle.tape.proofs.rules.Rules.read_all.Given as goal

abbrev pub invariant-loop-place : goal.invariant-loop-place
invariant-loop-place g l =
    let M = g.E.Entries.model in
    record {
      within : l.place ≤ length l.tape;
      kept : M.later l.initial.on l.on;
      reached : (K : Codes) (row : Row) → Closed K → Tables K l.self.tables.now → Holds M K l.initial.on l.initial.stack row → Reached M K l.self.facts row l.tape l.initial.on l.on l.stack l.place;
    }

abbrev pub decreases-loop-place : goal.decreases-loop-place
decreases-loop-place g l = length l.tape - l.place
