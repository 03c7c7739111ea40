use Rattle.std.proofs.Common.{sym}
use Rattle.probing.proofs.Slots.{sound, many, within}
use Rattle.probing.proofs.table.Table.count.Goals as goal

pub returns : goal.returns
returns g c =
    let same = g.K.Key.same in
    let hashed = g.K.Key.hashed in
    let self = c.args.self.now in
    record {
      number = sym (many same hashed self.slots.now self.count c.args.self.now.whole);
      within = within same hashed self.slots.now self.count c.args.self.now.whole;
      apart = (sound same hashed self.slots.now self.count c.args.self.now.whole).apart;
    }
