-- Reading a whole tape, command by command.
use Rattle.std.proofs.Common.{◌≡◌, ℕ, zero, suc, ◌+◌, ◌-◌, ◌^◌, ◌<◌, ◌≤◌, Bool, true, false, cond, not, ◌&&◌, ltb, leb, List, [], ◌∷◌, ◌++◌, length, drop, Ok, Err, Result, sym, refl, ap, ◌∙◌, subst, arith, length-drop, drop-drop}
use mathlib.Core.Path.{fun_ext}
use Rattle.std.proofs.lemmas.Bool.{cond-false}
use Rattle.effects.specs.Codes.{Codes}
use Rattle.tape.specs.Refusals.{at_place}
use Rattle.tape.specs.Tape.{Row, values, kinds, is_end, ended, result, Tests, first_of, bind, checked, next_command, after, bytes_taken, tape_from, told, no_tests, read_answer}
use Rattle.tape.specs.Entries.{Model, top_first, Meant, Holds, own_tests, own_command, Moves, Moved, Stepped, Reads}
use Rattle.tape.specs.declared.command.Command.{Command}
use Rattle.tape.specs.declared.refusal.Refusal.{Refusal}
use Rattle.tape.specs.declared.refusal.RefusedAt.{RefusedAt}
use Rattle.tape.specs.declared.refusal.Refusal.TheVariants.{NoSlot, NoEnd}
use Rattle.tape.specs.declared.stack.Stack.{Stack}

-- a command of a whole tape that is accepted, refused, or not there
reads_ok : {S E : Type 0} (M : Model S E) (fuel : ℕ) (K : Codes) (n : ℕ) (row : Row) (place : ℕ) (bs : List ℕ) (s u t : S) (sv st : Stack E) (r : Result (Unit {0}) RefusedAt) (d : Command × ℕ) → 0 < length bs → length bs ≤ fuel → own_command M K n s row bs ≡ Ok d → Moved M K row s u (Ok d) → Holds M K u sv (row ++ d.0 ∷ []) → Reads M K n (fuel - 1) (row ++ d.0 ∷ []) (place + d.1) (drop d.1 bs) u t st r → Reads M K n fuel row place bs s t st r
reads_ok M fuel K n row place [] s u t sv st r d h l p m w x = absurd (omega arith)
reads_ok M zero K n row place (b ∷ bs) s u t sv st r d h l p m w x = absurd (omega arith)
reads_ok M (suc fuel) K n row place (b ∷ bs) s u t sv st r d h l p m w x =
    let e : suc fuel - 1 ≡ fuel = omega arith in
    rw (p, Reads) (u, sv, m, w, subst (λ (k : ℕ). Reads M K n k (row ++ d.0 ∷ []) (place + d.1) (drop d.1 (b ∷ bs)) u t st r) e x)

reads_err : {S E : Type 0} (M : Model S E) (fuel : ℕ) (K : Codes) (n : ℕ) (row : Row) (place : ℕ) (bs : List ℕ) (s t : S) (st : Stack E) (e : Refusal) → 0 < length bs → length bs ≤ fuel → own_command M K n s row bs ≡ Err e → M.stays s t → Holds M K t st row → Reads M K n fuel row place bs s t st (Err (at_place e place))
reads_err M fuel K n row place [] s t st e h l p m w = absurd (omega arith)
reads_err M zero K n row place (b ∷ bs) s t st e h l p m w = absurd (omega arith)
reads_err M (suc fuel) K n row place (b ∷ bs) s t st e h l p m w = rw (p, Reads) (m, w, refl)

reads_end : {S E : Type 0} (M : Model S E) (fuel : ℕ) (K : Codes) (n : ℕ) (row : Row) (place : ℕ) (bs : List ℕ) (s : S) (st : Stack E) (r : Result (Unit {0}) RefusedAt) → length bs ≤ 0 → Holds M K s st row → r ≡ cond (ended row) (Ok tt) (Err (at_place NoEnd place)) → Reads M K n fuel row place bs s s st r
reads_end M fuel K n row place [] s st r l w e = (refl, w, e)
reads_end M fuel K n row place (b ∷ bs) s st r l w e = absurd (omega arith)

-- what an answer says of the command
came_ok : (P : Row → Type 0) (row : Row) (v : Result (Command × ℕ) Refusal) (c : ℕ) → ◌≡◌ {A = Result ℕ Refusal} (Ok c) (bytes_taken v) → P (after row v) → (d : Command × ℕ) × ((v ≡ Ok d) × (d.1 ≡ c) × P (row ++ d.0 ∷ []))
came_ok P row (Ok d) c p h = (d, (refl, cc, h))
came_ok P row (Err e) c p h = absurd cc

came_err : (v : Result (Command × ℕ) Refusal) (e : Refusal) → ◌≡◌ {A = Result ℕ Refusal} (Err e) (bytes_taken v) → v ≡ Err e
came_err (Ok d) e p = absurd cc
came_err (Err f) e p = cc

-- the tape is read up to a place: reading it from there on is reading it from the start on
pub record Reached {S E : Type 0} (M : Model S E) (K : Codes) (n : ℕ) (first : Row) (tape : List ℕ) (start s : S) (st : Stack E) (place : ℕ) : Type 0 where
  pub row : Row
  pub fuel : ℕ
  pub holds : Holds M K s st row
  pub enough : length (drop place tape) ≤ fuel
  pub rest : (t : S) (su : Stack E) (r : Result (Unit {0}) RefusedAt) → Reads M K n fuel row place (drop place tape) s t su r → Reads M K n (length tape) first 0 tape start t su r

module _ {S E : Type 0} (M : Model S E) (K : Codes) (n : ℕ) (first : Row) (tape : List ℕ) (start : S) where
  pub reached_none : (st : Stack E) → Holds M K start st first → Reached M K n first tape start start st 0
  reached_none st h = record { row = first; fuel = length tape; holds = h; enough = omega arith; rest = λ t su r x. x }

  pub reached_more : (s t : S) (st su : Stack E) (place c : ℕ) (rd : Reached M K n first tape start s st place) → place < length tape → 0 < c → c ≤ length (drop place tape) → Stepped M K n rd.row (drop place tape) s t su (Ok c) → Reached M K n first tape start t su (place + c)
  reached_more s t st su place c rd lt pos le sd =
      let bs = drop place tape in
      let w = came_ok (Holds M K t su) rd.row (own_command M K n s rd.row bs) c sd.answer sd.holds in
      let l = length-drop place tape in
      let k = length-drop c bs in
      let enough = rd.enough in
      let some : 0 < length bs = omega arith in
      let fewer : length (drop c bs) ≤ rd.fuel - 1 = omega arith in
      let m = subst (Moved M K rd.row s t) w.1.0 sd.moved in
      record {
        row = rd.row ++ w.0.0 ∷ [];
        fuel = rd.fuel - 1;
        holds = w.1.2;
        enough = subst (λ (bs : List ℕ). length bs ≤ rd.fuel - 1) (drop-drop c place tape) fewer;
        rest = λ v sv r x. rd.rest v sv r (reads_ok M rd.fuel K n rd.row place bs s t v su sv r w.0 some enough w.1.0 m w.1.2
            (subst (λ (m : ℕ). Reads M K n (rd.fuel - 1) (rd.row ++ w.0.0 ∷ []) (place + m) (drop m bs) t v sv r) (sym w.1.1)
            (subst (λ (bs : List ℕ). Reads M K n (rd.fuel - 1) (rd.row ++ w.0.0 ∷ []) (place + c) bs t v sv r) (sym (drop-drop c place tape)) x)));
      }

  pub reached_refused : (s t : S) (st su : Stack E) (place : ℕ) (e : Refusal) (rd : Reached M K n first tape start s st place) → place < length tape → Stepped M K n rd.row (drop place tape) s t su (Err e) → Reads M K n (length tape) first 0 tape start t su (Err (at_place e place))
  reached_refused s t st su place e rd lt sd =
      let bs = drop place tape in
      let l = length-drop place tape in
      let some : 0 < length bs = omega arith in
      let p = came_err (own_command M K n s rd.row bs) e sd.answer in
      rd.rest t su _ (reads_err M rd.fuel K n rd.row place bs s t su e some rd.enough p (subst (Moved M K rd.row s t) p sd.moved) (subst (λ v. Holds M K t su (after rd.row v)) p sd.holds))

  pub reached_end : (s : S) (st : Stack E) (place : ℕ) (r : Result (Unit {0}) RefusedAt) → Reached M K n first tape start s st place → length tape ≤ place → r ≡ cond st.outline.ended (Ok tt) (Err (at_place NoEnd place)) → Reads M K n (length tape) first 0 tape start s st r
  reached_end s st place r rd le e =
      let l = length-drop place tape in
      let none : length (drop place tape) ≤ 0 = omega arith in
      rd.rest s st r (reads_end M rd.fuel K n rd.row place (drop place tape) s st r none rd.holds (e ∙ ap (λ (b : Bool). cond b (Ok tt) (Err (at_place NoEnd place))) rd.holds.over))

-- what has been read where a tape makes a row, and the refusal where it makes none
abbrev pub Reading : {S E : Type 0} → Model S E → (Row → S → Type 0) → Codes → S → Stack E → Result Row RefusedAt → Result (Unit {0}) RefusedAt → Type 0
Reading M Also K s st (Ok row) (Ok _) = Holds M K s st row × Also row s × (ended row ≡ true)
Reading M Also K s st (Ok row) (Err e) = ⊥
Reading M Also K s st (Err e) (Ok _) = ⊥
Reading M Also K s st (Err e) (Err f) = e ≡ f

pub reading_ok : {S E : Type 0} (M : Model S E) (Also : Row → S → Type 0) (K : Codes) (s : S) (st : Stack E) (v : Result Row RefusedAt) (u : Unit {0}) → Reading M Also K s st v (Ok u) → (row : Row) × ((v ≡ Ok row) × Holds M K s st row × Also row s × (ended row ≡ true))
reading_ok M Also K s st (Ok row) u x = (row, (refl, x.0, x.1, x.2))
reading_ok M Also K s st (Err e) u x = absurd x

pub reading_err : {S E : Type 0} (M : Model S E) (Also : Row → S → Type 0) (K : Codes) (s : S) (st : Stack E) (v : Result Row RefusedAt) (e : RefusedAt) → Reading M Also K s st v (Err e) → v ≡ Err e
reading_err M Also K s st (Ok row) e x = absurd x
reading_err M Also K s st (Err f) e x = ap (λ (r : RefusedAt). Err r) x

-- the rest of a tape after a command
abbrev after_command : Codes → ℕ → (Row → Command → Tests) → ℕ → Row → ℕ → List ℕ → Result (Command × ℕ) Refusal → Result Row RefusedAt
after_command K n more fuel row place bs (Err e) = Err (at_place e place)
after_command K n more fuel row place bs (Ok d) = tape_from fuel K n more (row ++ d.0 ∷ []) (place + d.1) (drop d.1 bs)

abbrev reads_on : {S E : Type 0} → Model S E → Codes → ℕ → ℕ → Row → ℕ → List ℕ → S → S → Stack E → Result (Unit {0}) RefusedAt → Result (Command × ℕ) Refusal → Type 0
reads_on M K n fuel row place bs s t st r (Err e) = M.stays s t × Holds M K t st row × (r ≡ Err (at_place e place))
reads_on {S} {E} M K n fuel row place bs s t st r (Ok d) =
    (u : S) × (su : Stack E) × Moves M (is_end d.0) s (λ q. result K (row ++ d.0 ∷ []) q) u × Holds M K u su (row ++ d.0 ∷ [])
    × Reads M K n fuel (row ++ d.0 ∷ []) (place + d.1) (drop d.1 bs) u t st r

-- a reader whose own tests are these, as long as something holds of what it has read and of its state
module _ {S E : Type 0} (M : Model S E) (Also : Row → S → Type 0) (more : Row → Command → Tests) (K : Codes) (n : ℕ)
    (same : (row : Row) (bs : List ℕ) (s : S) → Also row s → own_command M K n s row bs ≡ next_command K n (more row) row bs)
    (goes : (row : Row) (bs : List ℕ) (s u : S) (su : Stack E) (d : Command × ℕ) → Also row s → own_command M K n s row bs ≡ Ok d → Moved M K row s u (Ok d) → Holds M K u su (row ++ d.0 ∷ []) → Also (row ++ d.0 ∷ []) u) where
  -- a tape as this reader reads it is a tape by these tests
  pub reading : (fuel : ℕ) (row : Row) (place : ℕ) (bs : List ℕ) (s t : S) (st : Stack E) (r : Result (Unit {0}) RefusedAt) → Also row s → Reads M K n fuel row place bs s t st r → Reading M Also K t st (tape_from fuel K n more row place bs) r
  unfolding tape_from
  reading fuel row place [] s t st r also x = at_end (ended row) refl r x.2
    where
      at_end : (b : Bool) → ended row ≡ b → (r : Result (Unit {0}) RefusedAt) → r ≡ cond b (Ok tt) (Err (at_place NoEnd place)) → Reading M Also K t st (cond b (Ok row) (Err (at_place NoEnd place))) r
      at_end true e r p = subst (Reading M Also K t st (Ok row)) (sym p) (x.1, subst (Also row) x.0 also, e)
      at_end false e r p = subst (Reading M Also K t st (Err (at_place NoEnd place))) (sym p) refl
  reading zero row place (b ∷ bs) s t st r also x = absurd x
  reading (suc fuel) row place (b ∷ bs) s t st r also x =
      subst (λ (v : Result (Command × ℕ) Refusal). Reading M Also K t st (after_command K n more fuel row place (b ∷ bs) v) r) (same row (b ∷ bs) s also)
      (by (λ (d : Command × ℕ) (u : S) a y. reading fuel (row ++ d.0 ∷ []) (place + d.1) (drop d.1 (b ∷ bs)) u t st r a y) (own_command M K n s row (b ∷ bs)) refl x)
    where
      by : ((d : Command × ℕ) (u : S) → Also (row ++ d.0 ∷ []) u → Reads M K n fuel (row ++ d.0 ∷ []) (place + d.1) (drop d.1 (b ∷ bs)) u t st r → Reading M Also K t st (tape_from fuel K n more (row ++ d.0 ∷ []) (place + d.1) (drop d.1 (b ∷ bs))) r)
          → (v : Result (Command × ℕ) Refusal) → own_command M K n s row (b ∷ bs) ≡ v → reads_on M K n fuel row place (b ∷ bs) s t st r v → Reading M Also K t st (after_command K n more fuel row place (b ∷ bs) v) r
      by rest (Err e) p x = subst (Reading M Also K t st (Err (at_place e place))) (sym x.2) refl
      by rest (Ok d) p x = rest d x.0 (goes row (b ∷ bs) s x.0 x.1 d also p x.2 x.3) x.4

pub holds_empty : {S E : Type 0} (M : Model S E) (K : Codes) (s : S) (st : Stack E) → st.outline.depth ≡ 0 → st.outline.ended ≡ false → Holds M K s st []
unfolding kinds values ended
holds_empty {E = E} M K s st d e = record {
  standing = ap (top_first st.outline.kinds) d;
  over = e;
  meant = subst (λ (es : List E). Meant M s es (values K [])) (sym (ap (top_first st.entries) d)) (λ q. refl);
  sound = λ q. tt;
}

-- a reader that is never full
never_full : (b : Bool) (d : Command × ℕ) → first_of ((b && false, NoSlot) ∷ []) d ≡ first_of [] d
never_full true d = refl
never_full false d = refl

pub unlimited : (K : Codes) (n : ℕ) (row : Row) (bs : List ℕ) → next_command K n (own_tests (λ _. false) K row) row bs ≡ next_command K n (no_tests row) row bs
unfolding next_command
unlimited K n row bs = ap (λ (k : Command × ℕ → Result (Command × ℕ) Refusal). bind (checked K n (ended row) (kinds row) bs) k) (fun_ext (λ d. never_full (not (is_end d.0)) d))

-- the tests before the first command
pub past_tests : (K : Codes) (n : ℕ) (tape : List ℕ) (r : ℕ) (v : Result Row RefusedAt) → ltb 32 n ≡ false → leb (2 ^ n) r ≡ false → ltb 65535 (length tape) ≡ false → tape_from (length tape) K n no_tests [] 0 tape ≡ v → read_answer K n tape r ≡ told K r v
unfolding read_answer
past_tests K n tape r v a b c p = cond-false _ _ _ a ∙ cond-false _ _ _ b ∙ cond-false _ _ _ c ∙ ap (told K r) p
