use Rattle.std.proofs.Common.{◌-◌, take, sym, ap, ◌∙◌}
use Rattle.probing.specs.Table.{stored}
use Rattle.probing.proofs.Slots.{many}
use Rattle.probing.proofs.table.Table.give_up.Goals as goal

pub returns-then-self-gt0 : goal.returns-then-self-gt0
returns-then-self-gt0 g c =
    let same = g.K.Key.same in
    let hashed = g.K.Key.hashed in
    let ss = c.args.self.now.slots.now in
    let n = c.args.self.now.count in
    let post = c.roll_back.ensures in
    record {
      listed = post.listed ∙ ap (λ m. take (m - 1) (take n (stored ss))) (sym (many same hashed ss n c.args.self.now.whole));
      stay = post.stay;
      width = post.width;
    }
