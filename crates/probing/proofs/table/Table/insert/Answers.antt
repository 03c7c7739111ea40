use Rattle.std.proofs.Common.{◌≡◌, ◌+◌, ◌<◌, [], ◌∷◌, ◌++◌, length, take, drop, set, Some, sym, refl, ap, ◌∙◌, arith, rules}
use Rattle.std.proofs.lemmas.List.{length-set, length_push, take_all, take-append-le}
use Rattle.probing.specs.Table.{serials, stored}
use Rattle.probing.proofs.Places.{drop_set_past}
use Rattle.probing.proofs.Tables.{partial, at_known, at_new, at_refused, put_sound, put_keys}
use Rattle.probing.proofs.Slots.{sound, many, narrow, gone_round, at_free, at_taken, room_left, bucket_read, long_serials, sound_as}
use Rattle.probing.proofs.table.Table.insert.Goals as goal

-- all slots taken: refused
pub returns-in_err-bucket : goal.returns-in_err-bucket
returns-in_err-bucket g c =
    let same = g.K.Key.same in
    let hashed = g.K.Key.hashed in
    let ss = c.args.self.now.slots.now in
    let n = c.args.self.now.count in
    let ks = take n (stored ss) in
    let round = gone_round same hashed ss n c.args.self.now.whole c.args.key c.in_err-bucket.ensures.sought in
    let len = many same hashed ss n c.args.self.now.whole in
    let r = at_refused same c.args.key (length ss) ks round.0 (omega (arith, round.1)) in
    record { answer = c.from_residual.ensures ∙ sym r.0; listed = sym r.1; older = take_all (length ks) ks (omega arith); beyond = refl; quiet = λ _. refl; width = refl }

-- a known key
pub returns-then-serial-ne0 : goal.returns-then-serial-ne0
returns-then-serial-ne0 g c =
    let same = g.K.Key.same in
    let hashed = g.K.Key.hashed in
    let ss = c.args.self.now.slots.now in
    let n = c.args.self.now.count in
    let ks = take n (stored ss) in
    let place = c.in_ok-bucket.ensures in
    let known = at_taken same hashed ss n c.args.self.now.whole c.args.key c.in_ok-bucket.bucket place.sought place.near c.index-self-bucket.result (partial same g.met.K.Key.symmetric g.met.K.Key.transitive) c.if-serial-ne0.true in
    let r = at_known same c.args.key (length ss) ks _ known in
    record { answer = sym r.0; listed = sym r.1; older = take_all (length ks) ks (omega arith); beyond = refl; quiet = λ _. refl; width = refl }

-- a new key
pub put-requires : goal.put-requires
put-requires g c =
    let same = g.K.Key.same in
    let hashed = g.K.Key.hashed in
    let self = c.args.self.now in
    let place = c.in_ok-bucket.ensures in
    record {
      keyed = room_left same hashed self.slots.now self.count c.args.self.now.whole c.args.key c.in_ok-bucket.bucket place.sought place.near c.index-self-bucket.result c.if-serial-ne0.false;
      led = place.near;
      narrow = narrow same hashed self.slots.now self.count c.args.self.now.whole;
    }

pub overflow_add-self : goal.overflow_add-self
overflow_add-self g c =
    let same = g.K.Key.same in
    let hashed = g.K.Key.hashed in
    let self = c.args.self.now in
    let place = c.in_ok-bucket.ensures in
    let below : self.count < length self.slots.now = room_left same hashed self.slots.now self.count c.args.self.now.whole c.args.key c.in_ok-bucket.bucket place.sought place.near c.index-self-bucket.result c.if-serial-ne0.false in
    let thin = narrow same hashed self.slots.now self.count c.args.self.now.whole in
    search rules

pub invariant_of-self : goal.invariant_of-self
invariant_of-self g c =
    let same = g.K.Key.same in
    let hashed = g.K.Key.hashed in
    let x = c.args.key in
    let ss = c.args.self.now.slots.now in
    let n = c.args.self.now.count in
    let whole = c.args.self.now.whole in
    let i = c.in_ok-bucket.bucket in
    let place = c.in_ok-bucket.ensures in
    let free = bucket_read same hashed ss n whole x i place.sought place.near c.index-self-bucket.result ∙ c.if-serial-ne0.false in
    record {
      whole = ∣ sound_as same hashed c.put.new.slots (set (serials ss) i (n + 1)) (set (stored ss) n x) (n + 1) c.put.ensures.leads c.put.ensures.keeps (put_sound same hashed (serials ss) (stored ss) n (sound same hashed ss n whole) (partial same g.met.K.Key.symmetric g.met.K.Key.transitive) g.met.K.Key.even x i place.sought free) ∣₁;
    }

pub returns : goal.returns
returns g c =
    let same = g.K.Key.same in
    let hashed = g.K.Key.hashed in
    let x = c.args.key in
    let ss = c.args.self.now.slots.now in
    let n = c.args.self.now.count in
    let ks = take n (stored ss) in
    let i = c.in_ok-bucket.bucket in
    let place = c.in_ok-bucket.ensures in
    let pre = sound same hashed ss n c.args.self.now.whole in
    let len = many same hashed ss n c.args.self.now.whole in
    let below : n < length ss = room_left same hashed ss n c.args.self.now.whole x i place.sought place.near c.index-self-bucket.result c.if-serial-ne0.false in
    let free = bucket_read same hashed ss n c.args.self.now.whole x i place.sought place.near c.index-self-bucket.result ∙ c.if-serial-ne0.false in
    let none = at_free same hashed ss n c.args.self.now.whole x i place.sought place.near c.index-self-bucket.result g.met.K.Key.even c.if-serial-ne0.false in
    let r = at_new same x (length ss) ks none (omega arith) in
    let ts = c.put.new.slots in
    let m = c.put.ensures.leads in
    let s = c.put.ensures.keeps in
    let now_keys : take (n + 1) (stored ts) ≡ ks ++ x ∷ [] = ap (take (n + 1)) s ∙ put_keys same hashed (serials ss) (stored ss) n pre (partial same g.met.K.Key.symmetric g.met.K.Key.transitive) g.met.K.Key.even x i place.sought free in
    let long : length (take (n + 1) (stored ts)) ≡ n + 1 = ap length now_keys ∙ length_push ks x ∙ ap (λ z. z + 1) len in
    record {
      answer = sym (r.0 ∙ ap Some len);
      listed = now_keys ∙ sym r.1;
      older = ap (take (length ks)) now_keys ∙ take-append-le (length ks) ks (x ∷ []) (omega arith) ∙ take_all (length ks) ks (omega arith);
      beyond = ap (drop (length (take (n + 1) (stored ts)))) s ∙ drop_set_past (stored ss) n (length (take (n + 1) (stored ts))) x (omega arith);
      quiet = λ e. absurd (omega arith);
      width = sym (long_serials ts) ∙ ap length m ∙ length-set (serials ss) i (n + 1) ∙ long_serials ss;
    }
