use Rattle.std.proofs.Common.{take, sym, arith}
use Rattle.probing.specs.Table.{stored}
use Rattle.probing.proofs.Places.{holds_taken, holds_read}
use Rattle.probing.proofs.Slots.{many, within, nth_at, nth_past, key_read}
use Rattle.probing.proofs.table.Table.key.Goals as goal

pub offset_bounds-slots-number : goal.offset_bounds-slots-number
offset_bounds-slots-number g c = omega (arith, within g.K.Key.same g.K.Key.hashed c.args.self.now.slots.now c.args.self.now.count c.args.self.now.whole)

pub bounds-slots-number : goal.bounds-slots-number
bounds-slots-number g c = omega (arith, within g.K.Key.same g.K.Key.hashed c.args.self.now.slots.now c.args.self.now.count c.args.self.now.whole)

pub bounds-slots-number-then-number-self : goal.bounds-slots-number-then-number-self
bounds-slots-number-then-number-self g c = omega (arith, within g.K.Key.same g.K.Key.hashed c.args.self.now.slots.now c.args.self.now.count c.args.self.now.whole)

pub returns-then-number-self : goal.returns-then-number-self
returns-then-number-self g c =
    let ss = c.args.self.now.slots.now in
    let n = c.args.self.now.count in
    let read = holds_read ss c.args.number c.index-slots-number.result (omega (arith, within g.K.Key.same g.K.Key.hashed ss n c.args.self.now.whole)) in
    sym (nth_at (take n (stored ss)) c.args.number _ (holds_taken (stored ss) n c.args.number _ c.if-number-self.true (key_read ss c.args.number _ read)))

pub returns-else-number-self : goal.returns-else-number-self
returns-else-number-self g c =
    let ss = c.args.self.now.slots.now in
    let n = c.args.self.now.count in
    sym (nth_past (take n (stored ss)) c.args.number (omega (arith, many g.K.Key.same g.K.Key.hashed ss n c.args.self.now.whole)))
