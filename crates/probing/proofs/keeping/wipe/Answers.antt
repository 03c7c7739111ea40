use Rattle.std.proofs.Common.{map, ◌∙◌, append-nil}
use Rattle.std.proofs.lemmas.List.Edits.{map_over_more}
use Rattle.std.proofs.lemmas.List.{take_all, drop_all}
use Rattle.probing.specs.Table.{free}
use Rattle.probing.proofs.Places.{map_const}
use Rattle.probing.proofs.keeping.wipe.Goals as goal

pub loop-slot-preserved : goal.loop-slot-preserved
loop-slot-preserved g c = map_over_more (λ _. free c.args.blank) c.args.slots.now c.loop-slot.slots c.loop-slot.slot-index c.slot-item.result c.loop-slot-test.true c.loop-slot.invariant c.slot-item.is

pub returns : goal.returns
returns g c =
    let all = take_all c.loop-slot.slot-index c.args.slots.now c.loop-slot-test.false in
    let none = drop_all c.loop-slot.slot-index c.args.slots.now c.loop-slot-test.false in
    c.loop-slot.invariant ∙ rw (all, none) (append-nil (map (λ _. free c.args.blank) c.args.slots.now)) ∙ map_const (free c.args.blank) c.args.slots.now
