-- What the calls on drafts answer, and where they lead, at the catalogue that a shelf stands at.
use Rattle.std.proofs.Common.{◌≡◌, ℕ, ◌+◌, ◌%◌, ◌^◌, ◌<◌, ◌≤◌, Bool, true, false, cond, not, leb, List, [], ◌∷◌, ◌++◌, length, is_some, eqb, ◌&&◌, ◌-◌, Some, None, Option, get_or, Ok, Err, Result, sym, refl, ap, ◌∙◌, subst, arith}
use Rattle.std.proofs.lemmas.Bool.{false≢true, cond-true, cond-false, and_parts, lt-leb, leb-false, le-ltb, lt-ltb}
use Rattle.std.proofs.lemmas.List.{length_push, get_or_append_left}
use Rattle.arrayvec.specs.ArrayVec.{ArrayVec}
use Rattle.effects.specs.Codes.{Codes, QuestionCodes}
use Rattle.effects.specs.declared.tables.EffectTables.{EffectTables}
use Rattle.effects.specs.declared.tables.QuestionTables.{QuestionTables}
use Rattle.probing.specs.Model.{NameTable}
use Rattle.tape.specs.Refusals.{at_place}
use Rattle.tape.specs.Tape.{Row, Tests, first_of, opening as at_opening, next_command, bytes_taken, ended}
use Rattle.tape.specs.declared.command.Command.{Command}
use Rattle.tape.specs.declared.refusal.Refusal.{Refusal}
use Rattle.tape.specs.declared.refusal.Refusal.TheVariants.{DraftOpen, AllFiled, NotOpenDraft, NotEnded, NoPolicy, TapeTooLong}
use Rattle.tape.specs.declared.refusal.RefusedAt.{RefusedAt}
use Rattle.tape.specs.declared.stack.Stack.{Stack}
use Rattle.diagram.specs.declared.store.Store.{Store}
use Rattle.shelf.specs.Catalogue.{Catalogue, facts, policies, is_open, open_row, own_open, all_results, opening, feeding, filing, abandoning}
use Rattle.shelf.specs.Calls.{opening_tests, open_answer, slot_tests, fed, feed_answer, file_answer, abandon_answer, loaded, load_told, load_answer, after_open, after_feed, after_file, after_abandon, after_load}
use Rattle.shelf.specs.Loading.{read_row}
use Rattle.shelf.specs.States.{filed_state}
use Rattle.shelf.specs.Stands.{shaping}
use Rattle.shelf.specs.Upholds.{Upholds}
use Rattle.shelf.specs.declared.shelf.Shelf.{Shelf}
use Rattle.shelf.specs.declared.draft.DraftId.{DraftId}
use Rattle.shelf.specs.declared.state.State.{State}

-- tests, whatever the answer after them
pub first_err : {A : Type 0} (ts : Tests) (a : A) (e : Refusal) → first_of ts (tt {0}) ≡ Err e → first_of ts a ≡ Err e
first_err [] a e h = let z : ◌≡◌ {A = ℕ} 0 1 = cc in absurd (omega arith)
first_err (t ∷ ts) a e h = by t.0 h (first_err ts a e)
  where
    by : (b : Bool) → cond b (Err t.1) (first_of ts (tt {0})) ≡ Err e → (first_of ts (tt {0}) ≡ Err e → first_of ts a ≡ Err e) → cond b (Err t.1) (first_of ts a) ≡ Err e
    by true h f = let z : t.1 ≡ e = cc in ap (λ x. Err x) z
    by false h f = f h

pub first_ok : {A : Type 0} (ts : Tests) (a : A) → first_of ts (tt {0}) ≡ Ok tt → first_of ts a ≡ Ok a
first_ok [] a h = refl
first_ok (t ∷ ts) a h = by t.0 h (first_ok ts a)
  where
    by : (b : Bool) → cond b (Err t.1) (first_of ts (tt {0})) ≡ Ok tt → (first_of ts (tt {0}) ≡ Ok tt → first_of ts a ≡ Ok a) → cond b (Err t.1) (first_of ts a) ≡ Ok a
    by true h f = let z : ◌≡◌ {A = ℕ} 0 1 = cc in absurd (omega arith)
    by false h f = f h

-- the same with the place 0
pub opening_err : {A : Type 0} (ts : Tests) (a : Result A RefusedAt) (e : Refusal) → first_of ts (tt {0}) ≡ Err e → at_opening ts a ≡ Err (at_place e 0)
opening_err [] a e h = let z : ◌≡◌ {A = ℕ} 0 1 = cc in absurd (omega arith)
opening_err (t ∷ ts) a e h = by t.0 h (opening_err ts a e)
  where
    by : (b : Bool) → cond b (Err t.1) (first_of ts (tt {0})) ≡ Err e → (first_of ts (tt {0}) ≡ Err e → at_opening ts a ≡ Err (at_place e 0)) → cond b (Err (at_place t.1 0)) (at_opening ts a) ≡ Err (at_place e 0)
    by true h f = let z : t.1 ≡ e = cc in ap (λ x. Err (at_place x 0)) z
    by false h f = f h

pub opening_ok : {A : Type 0} (ts : Tests) (a : Result A RefusedAt) → first_of ts (tt {0}) ≡ Ok tt → at_opening ts a ≡ a
opening_ok [] a h = refl
opening_ok (t ∷ ts) a h = by t.0 h (opening_ok ts a)
  where
    by : (b : Bool) → cond b (Err t.1) (first_of ts (tt {0})) ≡ Ok tt → (first_of ts (tt {0}) ≡ Ok tt → at_opening ts a ≡ a) → cond b (Err (at_place t.1 0)) (at_opening ts a) ≡ a
    by true h f = let z : ◌≡◌ {A = ℕ} 0 1 = cc in absurd (omega arith)
    by false h f = f h

-- what no refusal at opening says
two_false : (a b : Bool) (e f : Refusal) → first_of ((a, e) ∷ (b, f) ∷ []) (tt {0}) ≡ Ok tt → (a ≡ false) × (b ≡ false)
two_false true b e f h = let z : ◌≡◌ {A = ℕ} 0 1 = cc in absurd (omega arith)
two_false false true e f h = let z : ◌≡◌ {A = ℕ} 0 1 = cc in absurd (omega arith)
two_false false false e f h = (refl, refl)

-- shape numbers that stand
pub same_shapes : (s t : Shelf) (p : ℕ) → t.state ≡ s.state → shaping t p ≡ shaping s p
unfolding shaping
same_shapes s t p e = ap (λ (x : State). first_of ((leb (length x.roots.items) p, NoPolicy) ∷ []) (get_or x.roots.items p 0)) e

pub kept_shapes : (s t : Shelf) (p : ℕ) → t.state.roots ≡ s.state.roots → shaping t p ≡ shaping s p
unfolding shaping
kept_shapes s t p e = ap (λ (x : ArrayVec ℕ). first_of ((leb (length x.items) p, NoPolicy) ∷ []) (get_or x.items p 0)) e

pub older_shapes : (s t : Shelf) (root p : ℕ) → t.state ≡ filed_state s.state root → p < length s.state.roots.items → shaping t p ≡ shaping s p
unfolding shaping
older_shapes s t root p e h =
    let roots : List ℕ = s.state.roots.items in
    ap (λ (x : State). first_of ((leb (length x.roots.items) p, NoPolicy) ∷ []) (get_or x.roots.items p 0)) e
    ∙ cond-false _ _ _ (lt-leb (length (roots ++ root ∷ [])) p (omega (arith, length_push roots root)))
    ∙ ap (λ n. Ok n) (get_or_append_left roots (root ∷ []) 0 p h)
    ∙ sym (cond-false _ _ _ (lt-leb (length roots) p h))

-- the catalogue after a call, by its answer
abbrev pub on_ok : {A E : Type 0} → Catalogue → (A → Catalogue) → Result A E → Catalogue
on_ok c f (Ok a) = f a
on_ok c f (Err e) = c

module _ {K : Codes} {Q : QuestionCodes} {names : NameTable} {store : Store} {tables : EffectTables} {questions : QuestionTables} {stack : Stack ℕ} {state : State} {c : Catalogue} (u : Upholds K Q names store tables questions stack state c) where
  -- opening
  pub may_open : first_of (opening_tests c) (tt {0}) ≡ Ok tt → (is_some state.before ≡ false) × (length state.roots.items < 64)
  may_open h = let t = two_false (is_open c) (leb 64 (policies c)) DraftOpen AllFiled h in (sym u.drafting_is ∙ t.0, subst (λ n. n < 64) u.filing.are (leb-false 64 (policies c) t.1))

  pub open_refused : (e : Refusal) → first_of (opening_tests c) (tt {0}) ≡ Err e → (open_answer c ≡ Err e) × (after_open c ≡ c)
  unfolding open_answer after_open
  open_refused e h =
      let a : open_answer c ≡ Err e = first_err (opening_tests c) (record { shelf = c.making.number; count = c.given % 2 ^ 32 }) e h in
      (a, after a)
    where
      after : open_answer c ≡ Err e → after_open c ≡ c
      after a = ap (λ (v : Result DraftId Refusal). elim v as (λ _. Catalogue) [ Err _ ↦ c | Ok _ ↦ opening c ]) a

  pub open_ok : first_of (opening_tests c) (tt {0}) ≡ Ok tt → (open_answer c ≡ Ok (record { shelf = state.number; count = state.given })) × (after_open c ≡ opening c)
  unfolding open_answer after_open
  open_ok h =
      let a : open_answer c ≡ Ok (record { shelf = c.making.number; count = c.given % 2 ^ 32 }) = first_ok (opening_tests c) (record { shelf = c.making.number; count = c.given % 2 ^ 32 }) h in
      (a ∙ (λ i. Ok (record { shelf = u.number_is i; count = sym u.given_is i })), ap (λ (v : Result DraftId Refusal). elim v as (λ _. Catalogue) [ Err _ ↦ c | Ok _ ↦ opening c ]) a)

  module _ (d : DraftId) where
    -- whose draft it is, by the newest draft's two numbers
    pub own_is : (b : Bool) → (eqb d.shelf state.number && eqb d.count ((state.given + 4294967295) % 2 ^ 32)) ≡ b → own_open c d ≡ cond b (is_some state.before) false
    own_is b e = by state.before refl
      where
        same_none : (b : Bool) → false ≡ cond b false false
        same_none true = refl
        same_none false = refl

        same_some : (b : Bool) → b ≡ cond b true false
        same_some true = refl
        same_some false = refl

        back : (n : ℕ) → 0 < n → (n - 1) % 2 ^ 32 ≡ (n % 2 ^ 32 + 4294967295) % 2 ^ 32
        back n h = omega arith

        numbers : (b : ℕ) → state.before ≡ Some b → (eqb d.shelf c.making.number && eqb d.count ((c.given - 1) % 2 ^ 32)) ≡ (eqb d.shelf state.number && eqb d.count ((state.given + 4294967295) % 2 ^ 32))
        numbers b o =
            ap (λ n. eqb d.shelf n && eqb d.count ((c.given - 1) % 2 ^ 32)) u.number_is
            ∙ ap (λ n. eqb d.shelf state.number && eqb d.count n) (back c.given (u.drafting b o).given ∙ ap (λ g. (g + 4294967295) % 2 ^ 32) (sym u.given_is))

        by : (o : Option ℕ) → state.before ≡ o → own_open c d ≡ cond b (is_some state.before) false
        by None o = ap (λ x. x && (eqb d.shelf c.making.number && eqb d.count ((c.given - 1) % 2 ^ 32))) (u.drafting_is ∙ ap is_some o) ∙ same_none b ∙ ap (λ x. cond b (is_some x) false) (sym o)
        by (Some n) o = ap (λ x. x && (eqb d.shelf c.making.number && eqb d.count ((c.given - 1) % 2 ^ 32))) (u.drafting_is ∙ ap is_some o) ∙ numbers n o ∙ e ∙ same_some b ∙ ap (λ x. cond b (is_some x) false) (sym o)

    pub owned : own_open c d ≡ true → (before : ℕ) × (state.before ≡ Some before)
    owned h = there state.before (sym u.drafting_is ∙ (and_parts _ _ h).0)
      where
        there : (o : Option ℕ) → is_some o ≡ true → (before : ℕ) × (o ≡ Some before)
        there (Some n) e = (n, refl)
        there None e = absurd (false≢true e)

    -- feeding
    pub feed_foreign : (bs : List ℕ) → own_open c d ≡ false → (feed_answer K c d bs ≡ Err NotOpenDraft) × (after_feed K c d bs ≡ c)
    unfolding feed_answer after_feed fed
    feed_foreign bs h =
        let a : fed K c d bs ≡ Err NotOpenDraft = cond-false _ _ _ h in
        (ap bytes_taken a, ap (λ (v : Result (Command × ℕ) Refusal). elim v as (λ _. Catalogue) [ Err _ ↦ c | Ok x ↦ feeding c x.0 ]) a)

    pub feed_by : (bs : List ℕ) (v : Result (Command × ℕ) Refusal) → own_open c d ≡ true → next_command K (facts c) (slot_tests K c.making.slots (facts c) (all_results K c) (open_row c)) (open_row c) bs ≡ v → (feed_answer K c d bs ≡ bytes_taken v) × (after_feed K c d bs ≡ on_ok c (λ x. feeding c x.0) v)
    unfolding feed_answer after_feed fed
    feed_by bs v h e =
        let a : fed K c d bs ≡ v = cond-true _ _ _ h ∙ e in
        (ap bytes_taken a, ap (λ (v : Result (Command × ℕ) Refusal). elim v as (λ _. Catalogue) [ Err _ ↦ c | Ok x ↦ feeding c x.0 ]) a ∙ same v)
      where
        same : (v : Result (Command × ℕ) Refusal) → ◌≡◌ {A = Catalogue} (elim v as (λ _. Catalogue) [ Err _ ↦ c | Ok x ↦ feeding c x.0 ]) (on_ok c (λ x. feeding c x.0) v)
        same (Ok d) = refl
        same (Err e) = refl

    -- filing
    file_by : (own over : Bool) → own_open c d ≡ own → ended (open_row c) ≡ over → file_answer c d ≡ first_of ((not own, NotOpenDraft) ∷ (not over, NotEnded) ∷ []) (policies c)
    unfolding file_answer
    file_by own over h k = ap (λ x. first_of ((not x, NotOpenDraft) ∷ (not (ended (open_row c)), NotEnded) ∷ []) (policies c)) h ∙ ap (λ x. first_of ((not own, NotOpenDraft) ∷ (not x, NotEnded) ∷ []) (policies c)) k

    after_file_by : (v : Result ℕ Refusal) → file_answer c d ≡ v → after_file c d ≡ on_ok c (λ _. filing c (open_row c)) v
    unfolding after_file
    after_file_by v e = ap (λ (v : Result ℕ Refusal). elim v as (λ _. Catalogue) [ Err _ ↦ c | Ok _ ↦ filing c (open_row c) ]) e ∙ same v
      where
        same : (v : Result ℕ Refusal) → ◌≡◌ {A = Catalogue} (elim v as (λ _. Catalogue) [ Err _ ↦ c | Ok _ ↦ filing c (open_row c) ]) (on_ok c (λ _. filing c (open_row c)) v)
        same (Ok d) = refl
        same (Err e) = refl

    pub file_foreign : own_open c d ≡ false → (file_answer c d ≡ Err NotOpenDraft) × (after_file c d ≡ c)
    file_foreign h = let a = file_by false _ h refl in (a, after_file_by (Err NotOpenDraft) a)

    pub file_early : own_open c d ≡ true → ended (open_row c) ≡ false → (file_answer c d ≡ Err NotEnded) × (after_file c d ≡ c)
    file_early h k = let a = file_by true false h k in (a, after_file_by (Err NotEnded) a)

    pub file_ok : own_open c d ≡ true → ended (open_row c) ≡ true → (file_answer c d ≡ Ok (length state.roots.items)) × (after_file c d ≡ filing c (open_row c))
    file_ok h k = let a = file_by true true h k in (a ∙ ap (λ n. Ok n) u.filing.are, after_file_by (Ok (policies c)) a)

    -- abandoning
    pub abandon_foreign : own_open c d ≡ false → (abandon_answer c d ≡ Err NotOpenDraft) × (after_abandon c d ≡ c)
    unfolding abandon_answer after_abandon
    abandon_foreign h =
        let a : abandon_answer c d ≡ Err NotOpenDraft = ap (λ x. first_of ((not x, NotOpenDraft) ∷ []) (tt {0})) h in
        (a, ap (λ (v : Result (Unit {0}) Refusal). elim v as (λ _. Catalogue) [ Err _ ↦ c | Ok _ ↦ abandoning c ]) a)

    pub abandon_ok : own_open c d ≡ true → (abandon_answer c d ≡ Ok tt) × (after_abandon c d ≡ abandoning c)
    unfolding abandon_answer after_abandon
    abandon_ok h =
        let a : abandon_answer c d ≡ Ok tt = ap (λ x. first_of ((not x, NotOpenDraft) ∷ []) (tt {0})) h in
        (a, ap (λ (v : Result (Unit {0}) Refusal). elim v as (λ _. Catalogue) [ Err _ ↦ c | Ok _ ↦ abandoning c ]) a)

  -- loading
  module _ (tape : List ℕ) where
    load_by : (v : Result Row RefusedAt) → loaded K c tape ≡ v → (load_answer K c tape ≡ load_told K c v) × (after_load K c tape ≡ on_ok c (filing c) v)
    unfolding load_answer after_load
    load_by v e = (ap (load_told K c) e, ap (λ (v : Result Row RefusedAt). elim v as (λ _. Catalogue) [ Err _ ↦ c | Ok row ↦ filing c row ]) e ∙ same v)
      where
        same : (v : Result Row RefusedAt) → ◌≡◌ {A = Catalogue} (elim v as (λ _. Catalogue) [ Err _ ↦ c | Ok row ↦ filing c row ]) (on_ok c (filing c) v)
        same (Ok d) = refl
        same (Err e) = refl

    pub load_long : 65535 < length tape → (load_answer K c tape ≡ Err (at_place TapeTooLong 0)) × (after_load K c tape ≡ c)
    unfolding loaded
    load_long h = load_by (Err (at_place TapeTooLong 0)) (cond-true _ _ _ (lt-ltb 65535 (length tape) h))

    pub load_refused : (e : Refusal) → length tape ≤ 65535 → first_of (opening_tests c) (tt {0}) ≡ Err e → (load_answer K c tape ≡ Err (at_place e 0)) × (after_load K c tape ≡ c)
    unfolding loaded
    load_refused e h r = load_by (Err (at_place e 0)) (cond-false _ _ _ (le-ltb 65535 (length tape) h) ∙ opening_err (opening_tests c) _ e r)

    pub load_read : (v : Result Row RefusedAt) → length tape ≤ 65535 → first_of (opening_tests c) (tt {0}) ≡ Ok tt → read_row K (facts c) c.making.slots (all_results K c) tape ≡ v → (load_answer K c tape ≡ load_told K c v) × (after_load K c tape ≡ on_ok c (filing c) v)
    unfolding loaded
    load_read v h r e = load_by v (cond-false _ _ _ (le-ltb 65535 (length tape) h) ∙ opening_ok (opening_tests c) _ r ∙ e)
