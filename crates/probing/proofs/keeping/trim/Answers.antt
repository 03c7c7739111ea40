use Rattle.std.proofs.Common.{map, set, ap, ◌∙◌, append-nil}
use Rattle.std.proofs.lemmas.List.Edits.{map_over_more}
use Rattle.std.proofs.lemmas.List.{take_all, drop_all}
use Rattle.probing.specs.Table.{trimmed}
use Rattle.probing.proofs.Slots.{trim_off, trim_on}
use Rattle.probing.proofs.keeping.trim.Goals as goal
use Rattle.probing.proofs.keeping.trim.Goals.{then-slot-n, else-slot-n}

pub loop-slot-preserved : goal.loop-slot-preserved
loop-slot-preserved g c =
    let i = c.loop-slot.slot-index in
    let x = c.slot-item.result in
    let more = map_over_more (trimmed c.args.n) c.args.slots.now c.loop-slot.slots i x c.loop-slot-test.true c.loop-slot.invariant c.slot-item.is in
    elim c.if-slot-n.branch [
      | then-slot-n w ↦ w.slots-is ∙ ap (set c.loop-slot.slots i) (trim_off c.args.n x _ c.slot-item.is w.if-slot-n.true) ∙ more
      | else-slot-n w ↦ w.slots-is ∙ ap (set c.loop-slot.slots i) (trim_on c.args.n x _ c.slot-item.is w.if-slot-n.false) ∙ more
    ]

pub returns : goal.returns
returns g c =
    let all = take_all c.loop-slot.slot-index c.args.slots.now c.loop-slot-test.false in
    let none = drop_all c.loop-slot.slot-index c.args.slots.now c.loop-slot-test.false in
    c.loop-slot.invariant ∙ rw (all, none) (append-nil (map (trimmed c.args.n) c.args.slots.now))
