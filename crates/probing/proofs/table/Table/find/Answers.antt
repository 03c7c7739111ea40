use Rattle.std.proofs.Common.{sym, ◌∙◌}
use Rattle.probing.proofs.Tables.{partial}
use Rattle.probing.proofs.Slots.{gone_round, at_free, at_taken}
use Rattle.probing.proofs.table.Table.find.Goals as goal

pub returns-in_err-bucket : goal.returns-in_err-bucket
returns-in_err-bucket g c =
    let same = g.K.Key.same in
    let hashed = g.K.Key.hashed in
    let self = c.args.self.now in
    c.from_residual.ensures ∙ sym (gone_round same hashed self.slots.now self.count c.args.self.now.whole c.args.key.now c.in_err-bucket.ensures.sought).0

pub returns-then-serial-eq0 : goal.returns-then-serial-eq0
returns-then-serial-eq0 g c =
    let same = g.K.Key.same in
    let hashed = g.K.Key.hashed in
    let self = c.args.self.now in
    let place = c.in_ok-bucket.ensures in
    sym (at_free same hashed self.slots.now self.count c.args.self.now.whole c.args.key.now c.in_ok-bucket.bucket place.sought place.near c.index-slots-bucket.result g.met.K.Key.even c.if-serial-eq0.true)

pub returns-else-serial-eq0 : goal.returns-else-serial-eq0
returns-else-serial-eq0 g c =
    let same = g.K.Key.same in
    let hashed = g.K.Key.hashed in
    let self = c.args.self.now in
    let place = c.in_ok-bucket.ensures in
    sym (at_taken same hashed self.slots.now self.count c.args.self.now.whole c.args.key.now c.in_ok-bucket.bucket place.sought place.near c.index-slots-bucket.result (partial same g.met.K.Key.symmetric g.met.K.Key.transitive) c.if-serial-eq0.false)
