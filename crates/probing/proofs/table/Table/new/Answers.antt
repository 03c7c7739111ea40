use Rattle.std.proofs.Common.{◌≡◌, length, sym, refl, ap, ◌∙◌, arith}
use Rattle.std.proofs.lemmas.List.{length-replicate}
use Rattle.probing.proofs.Tables.{sound_none}
use Rattle.probing.proofs.Slots.{long_serials, long_stored, wiped_free}
use Rattle.probing.proofs.table.Table.new.Goals as goal

pub invariant_of-result : goal.invariant_of-result
invariant_of-result g c =
    let wide : length c.wipe.new.slots ≡ length c.args.slots.now = ap length c.wipe.ensures ∙ length-replicate (length c.args.slots.now) _ in
    record {
      whole = ∣ sound_none g.K.Key.same g.K.Key.hashed _ _ (long_serials _ ∙ sym (long_stored _)) (omega (arith, c.requires, long_serials c.wipe.new.slots)) (rw c.wipe.ensures (wiped_free (length c.args.slots.now) c.args.blank)) ∣₁;
    }

pub returns : goal.returns
returns g c =
    let same = g.K.Key.same in
    let hashed = g.K.Key.hashed in
    let wide : length c.wipe.new.slots ≡ length c.args.slots.now = ap length c.wipe.ensures ∙ length-replicate (length c.args.slots.now) _ in
    record {
      listed = refl;
      blank = c.wipe.ensures;
      width = ap length c.wipe.ensures ∙ length-replicate (length c.args.slots.now) _;
    }
