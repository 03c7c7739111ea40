use Rattle.std.proofs.Common.{◌+◌}
use Rattle.probing.proofs.Slots.{twice_serials, twice_stored}
use Rattle.probing.proofs.keeping.put.Goals as goal

pub returns : goal.returns
returns g c =
    let ss = c.args.slots.now in
    let n = c.args.number in
    let i = c.args.bucket in
    let q = c.index-slots-number.result in
    let u = c.index-slots-bucket.result in
    record {
      leads = twice_serials ss n i c.args.key (n + 1) q u c.requires.keyed;
      keeps = twice_stored ss n i c.args.key (n + 1) q u c.requires.led;
    }
