use Rattle.std.proofs.Common.{arith}
use Rattle.probing.proofs.Slots.{sound, within, narrow}
use Rattle.probing.proofs.table.Table.place.Goals as goal

pub seek-requires : goal.seek-requires
seek-requires g c =
    let same = g.K.Key.same in
    let hashed = g.K.Key.hashed in
    let self = c.args.self.now in
    record {
      narrow = narrow same hashed self.slots.now self.count self.whole;
      led = λ h. omega (arith, (sound same hashed self.slots.now self.count self.whole).counted h, within same hashed self.slots.now self.count self.whole);
    }
