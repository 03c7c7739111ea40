use Rattle.std.proofs.Common.{get_or, sym, arith}
use Rattle.probing.proofs.Places.{holds_read}
use Rattle.probing.proofs.Slots.{serial_read, long_serials}
use Rattle.probing.proofs.Seeking.{as_ring, passed_more, passed_all, led, other_here, there_here}
use Rattle.probing.proofs.keeping.seek.Goals.{then-serial-eq0-via-then-serial-eq0, then-serial-eq0-via-else-serial-eq0+then-same_as}
use Rattle.probing.proofs.keeping.seek.Goals as goal

pub loop-i-init : goal.loop-i-init
loop-i-init g c = (omega arith, λ p l q. absurd (omega arith))

pub offset_bounds-slots-serial : goal.offset_bounds-slots-serial
offset_bounds-slots-serial g c = omega (arith, led c.args.slots.now g.K.Key.same c.args.key.now c.round-i.result c.round-i.ensures.within c.index-slots-i.result c.index-slots-i.result c.requires.led c.if-serial-eq0.false)

pub bounds-slots-serial : goal.bounds-slots-serial
bounds-slots-serial g c = led c.args.slots.now g.K.Key.same c.args.key.now c.round-i.result c.round-i.ensures.within c.index-slots-i.result c.index-slots-i.result c.requires.led c.if-serial-eq0.false

-- on past another key
pub loop-i-preserved : goal.loop-i-preserved
loop-i-preserved g c =
    let same = g.K.Key.same in
    let hashed = g.K.Key.hashed in
    let key = c.args.key.now in
    let ss = c.args.slots.now in
    let i = c.round-i.result in
    let within = c.round-i.ensures.within in
    let at = as_ring ss (hashed key) c.hash.result i c.loop-i.probed c.hash.ensures c.round-i.ensures.there in
    let further =
    passed_more ss (hashed key) i c.loop-i.probed within at same key c.loop-i.invariant.1
    (other_here ss same key i within c.index-slots-i.result c.index-slots-serial.result c.requires.led c.if-serial-eq0.false (sym c.if-same_as.ensures)) in
    (let ne = c.if-probed-n.false in omega (arith, c.loop-i.invariant.0), further)

-- at a free bucket, or at the key
pub returns-then-serial-eq0-clause-sought : goal.returns-then-serial-eq0-clause-sought
returns-then-serial-eq0-clause-sought g c =
    let ss = c.args.slots.now in
    let key = c.args.key.now in
    let i = c.round-i.result in
    let within = c.round-i.ensures.within in
    let d = c.index-slots-i.result in
    let at = as_ring ss (g.K.Key.hashed key) c.hash.result i c.loop-i.probed c.hash.ensures c.round-i.ensures.there in
    record {
      within = omega (arith, within, long_serials ss);
      passed = λ p l q. c.loop-i.invariant.1 p l (omega (arith, at));
      there = elim c.then-serial-eq0.branch [
        | then-serial-eq0-via-then-serial-eq0 w ↦ λ l p q. absurd (omega (arith, p, w.if-serial-eq0.true, serial_read ss i (get_or ss i d) (holds_read ss i d within)))
        | then-serial-eq0-via-else-serial-eq0+then-same_as w ↦ there_here ss g.K.Key.same key i within d w.index-slots-serial.result c.requires.led w.if-serial-eq0.false (sym w.if-same_as.ensures)
      ];
    }

-- after all buckets
pub returns-then-probed-n-clause-sought : goal.returns-then-probed-n-clause-sought
returns-then-probed-n-clause-sought g c =
    let same = g.K.Key.same in
    let hashed = g.K.Key.hashed in
    let key = c.args.key.now in
    let ss = c.args.slots.now in
    let i = c.round-i.result in
    let within = c.round-i.ensures.within in
    let at = as_ring ss (hashed key) c.hash.result i c.loop-i.probed c.hash.ensures c.round-i.ensures.there in
    let further =
    passed_more ss (hashed key) i c.loop-i.probed within at same key c.loop-i.invariant.1
    (other_here ss same key i within c.index-slots-i.result c.index-slots-serial.result c.requires.led c.if-serial-eq0.false (sym c.if-same_as.ensures)) in
    passed_all ss (hashed key) same key (omega (arith, within)) (λ p l q. further p l (omega (arith, q, c.if-probed-n.true)))
