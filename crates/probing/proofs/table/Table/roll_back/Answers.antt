use Rattle.std.proofs.Common.{◌≤◌, map, length, take, sym, refl, ap, ◌∙◌, arith}
use Rattle.probing.specs.Table.{serials, stored, cut}
use Rattle.std.proofs.lemmas.List.{take_all, take-take, length-map}
use Rattle.probing.proofs.Tables.{trim_sound}
use Rattle.probing.proofs.Slots.{sound, many, sound_as, trim_serials, trim_stored}
use Rattle.probing.proofs.table.Table.roll_back.Goals as goal

pub invariant_of-self : goal.invariant_of-self
invariant_of-self g c =
    let same = g.K.Key.same in
    let hashed = g.K.Key.hashed in
    let self = c.args.self.now in
    let ss = self.slots.now in
    let n = c.args.n in
    let le : n ≤ self.count = omega arith in
    record {
      whole = ∣ sound_as same hashed c.trim.new.slots (map (cut n) (serials ss)) (stored ss) n (ap serials c.trim.ensures ∙ trim_serials n ss) (ap stored c.trim.ensures ∙ trim_stored n ss) (trim_sound same hashed (serials ss) (stored ss) self.count (sound same hashed ss self.count self.whole) n le) ∣₁;
    }

pub returns-then-n-self : goal.returns-then-n-self
returns-then-n-self g c =
    let same = g.K.Key.same in
    let hashed = g.K.Key.hashed in
    let ss = c.args.self.now.slots.now in
    let count = c.args.self.now.count in
    let n = c.args.n in
    let le : n ≤ count = omega arith in
    let m = ap serials c.trim.ensures ∙ trim_serials n ss in
    let s = ap stored c.trim.ensures ∙ trim_stored n ss in
    record {
      listed = ap (take n) s ∙ sym (take-take n count (stored ss) le);
      stay = s;
      width = ap length c.trim.ensures ∙ length-map ss _;
    }

pub returns-else-n-self : goal.returns-else-n-self
returns-else-n-self g c =
    let same = g.K.Key.same in
    let hashed = g.K.Key.hashed in
    let ss = c.args.self.now.slots.now in
    let count = c.args.self.now.count in
    record { listed = sym (take_all c.args.n (take count (stored ss)) (omega (arith, many same hashed ss count c.args.self.now.whole))); stay = refl; width = refl }
