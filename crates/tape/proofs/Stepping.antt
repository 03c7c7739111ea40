-- One command: what the tests say under the algebra, and what the stack means after it.
use Rattle.std.proofs.Common.{◌≡◌, ℕ, zero, suc, ◌<◌, ◌≤◌, Bool, true, false, cond, not, ◌&&◌, ◌||◌, eqb, leb, List, [], ◌∷◌, ◌++◌, length, get_or, drop, Ok, Err, Result, sym, refl, ap, ◌∙◌, subst, ⊎_elim, arith}
use mathlib.Core.Path.{fun_ext}
use Rattle.std.proofs.lemmas.Bool.{cond_both, eqb-true, and_parts, or_parts, leb-false, le-leb, false≢true, cond-true, cond-false, cases_lt}
use Rattle.effects.specs.Codes.{Codes, Closed}
use Rattle.tape.specs.Requests.{has, any, all}
use Rattle.tape.specs.Tape.{Row, same_kind, takes, leaves, Reader, stack, of_kinds, means, at_request, values, result, kinds, is_end, ended, decoded, fits, undeclared, unstatable, no_combiner, Tests, first_of, operand_tests, stack_tests, bind, then, checked, next_command, after, bytes_taken}
use Rattle.effects.specs.Tables.{Tables, bit}
use Rattle.tape.specs.Entries.{Model, Gives, of_tables, tabled, kinds_on, entries_on, Meant, Put, Fit, Sound, Holds, own_tests, own_command, Moved, Stepped}
use Rattle.tape.specs.declared.command.Command.{Command}
use Rattle.tape.specs.declared.command.Command.TheVariants.{Has, Any, All, Not, And, Or, State, Scope, Fail, Join, End}
use Rattle.tape.specs.declared.command.Kind.{Kind}
use Rattle.tape.specs.declared.command.Kind.TheVariants.{Condition, Policy}
use Rattle.tape.specs.declared.refusal.Refusal.{Refusal}
use Rattle.tape.specs.declared.refusal.Refusal.TheVariants.{UndeclaredFact, NotStatable, NoCombiner, AfterEnd, NoSlot}
use Rattle.effects.specs.declared.tables.EffectTables.{EffectTables}
use Rattle.tape.specs.declared.stack.Stack.{Stack}

-- the tests under the rules are those under the algebra
stated_same : (K : Codes) (R : EffectTables) → Tables K R → (x : Command) → unstatable (of_tables R) x ≡ unstatable K x
stated_same K R T (State e) =
    ap (λ (n : ℕ). leb n e || not (get_or R.statable e false)) T.counted
    ∙ ⊎_elim
    (λ l. ap (λ (b : Bool). leb K.count e || not b) (T.stated e l))
    (λ g. let t : leb K.count e ≡ true = le-leb K.count e g in ap (λ (b : Bool). b || not (get_or R.statable e false)) t ∙ sym (ap (λ (b : Bool). b || not (K.statable e)) t))
    (cases_lt e K.count)
stated_same K R T x = refl

combined_same : (K : Codes) (R : EffectTables) → Tables K R → (x : Command) → no_combiner (of_tables R) x ≡ no_combiner K x
combined_same K R T (Join k) = ap (λ (n : ℕ). leb n k) T.combiners
combined_same K R T x = refl

abbrev tests : Codes → ℕ → List Kind → Command × ℕ → Result (Command × ℕ) Refusal
tests K n ks d = then (first_of (operand_tests K n d.0) (tt {0})) (then (first_of (stack_tests ks d.0) (tt {0})) (Ok d))

abbrev by_tests : ℕ → List Kind → Command × ℕ → Bool → Bool → Result (Command × ℕ) Refusal
by_tests n ks d a b = then (first_of ((undeclared n d.0, UndeclaredFact) ∷ (a, NotStatable) ∷ (b, NoCombiner) ∷ []) (tt {0})) (then (first_of (stack_tests ks d.0) (tt {0})) (Ok d))

tests_same : (K : Codes) (R : EffectTables) → Tables K R → (n : ℕ) (ks : List Kind) (d : Command × ℕ) → tests (of_tables R) n ks d ≡ tests K n ks d
tests_same K R T n ks d =
    ap (λ (a : Bool). by_tests n ks d a (no_combiner (of_tables R) d.0)) (stated_same K R T d.0)
    ∙ ap (λ (b : Bool). by_tests n ks d (unstatable K d.0) b) (combined_same K R T d.0)

pub checked_same : (K : Codes) (R : EffectTables) → Tables K R → (n : ℕ) (over : Bool) (ks : List Kind) (bs : List ℕ) → checked (of_tables R) n over ks bs ≡ checked K n over ks bs
unfolding checked
checked_same K R T n over ks bs =
    ap (λ (k : Command × ℕ → Result (Command × ℕ) Refusal). cond over (Err AfterEnd) (bind (decoded bs) k)) (fun_ext (λ d. tests_same K R T n ks d))

-- what an accepted command has passed
pub record Passed (K : Codes) (ks : List Kind) (x : Command) : Type 0 where
  pub stated : unstatable K x ≡ false
  pub combiner : no_combiner K x ≡ false
  pub fitted : fits (takes x) ks ≡ true
  -- END finds one entry
  pub alone : is_end x ≡ true → length ks ≡ 1

-- no test holds
abbrev Clear : Tests → Type 0
Clear [] = Unit {0}
Clear (t ∷ ts) = (t.0 ≡ false) × Clear ts

clear : {A : Type 0} (ts : Tests) (a b : A) → first_of ts a ≡ Ok b → Clear ts × (a ≡ b)
clear [] a b p = (tt, cc)
clear ((true, e) ∷ ts) a b p = absurd cc
clear ((false, e) ∷ ts) a b p = let r = clear ts a b p in ((refl, r.0), r.1)

inv_then : {A : Type 0} (v : Result (Unit {0}) Refusal) (w : Result A Refusal) (d : A) → then v w ≡ Ok d → (v ≡ Ok tt) × (w ≡ Ok d)
inv_then (Ok u) w d p = (refl, p)
inv_then (Err e) w d p = absurd cc

inv_bind : {A B : Type 0} (v : Result A Refusal) (k : A → Result B Refusal) (d : B) → bind v k ≡ Ok d → (a : A) × (k a ≡ Ok d)
inv_bind (Ok a) k d p = (a, p)
inv_bind (Err e) k d p = absurd cc

fitted_of : (end fit one : Bool) → (not end && not fit) ≡ false → (end && not (one && fit)) ≡ false → fit ≡ true
fitted_of end true one p q = refl
fitted_of false false one p q = absurd cc
fitted_of true false true p q = absurd cc
fitted_of true false false p q = absurd cc

alone_of : (end fit one : Bool) → (end && not (one && fit)) ≡ false → end ≡ true → one ≡ true
alone_of true fit true q e = refl
alone_of true fit false q e = absurd cc
alone_of false fit one q e = absurd cc

-- it has also no undeclared fact, and stands before END
pub passed : (K : Codes) (n : ℕ) (over : Bool) (ks : List Kind) (bs : List ℕ) (d : Command × ℕ) → checked K n over ks bs ≡ Ok d → Passed K ks d.0 × (undeclared n d.0 ≡ false) × (over ≡ false)
unfolding checked
passed K n true ks bs d p = absurd cc
passed K n false ks bs d p =
    let b = inv_bind (decoded bs) (tests K n ks) d p in
    let x = b.0.0 in
    let c = inv_then (first_of (operand_tests K n x) (tt {0})) (then (first_of (stack_tests ks x) (tt {0})) (Ok b.0)) d b.1 in
    let e = inv_then (first_of (stack_tests ks x) (tt {0})) (Ok b.0) d c.1 in
    let o = (clear (operand_tests K n x) tt tt c.0).0 in
    let s = (clear (stack_tests ks x) tt tt e.0).0 in
    let same : b.0 ≡ d = cc in
    (subst (λ (y : Command × ℕ). Passed K ks y.0) same (record { stated = o.1.0; combiner = o.1.1.0; fitted = fitted_of _ _ _ s.0 s.1.1.0; alone = λ q. eqb-true (length ks) 1 (alone_of _ _ _ s.1.1.0 q) }), subst (λ (y : Command × ℕ). undeclared n y.0 ≡ false) same o.0, refl)

-- the entries that a command takes mean what they should
abbrev Tops : Codes → List Kind → List ℕ → ℕ → Type 0
Tops K [] vs i = Unit {0}
Tops K (w ∷ ws) vs i = Fit K w (get_or vs i 0) × Tops K ws vs (suc i)

tops_under : (K : Codes) (ws : List Kind) (v : ℕ) (vs : List ℕ) (i : ℕ) → Tops K ws vs i → Tops K ws (v ∷ vs) (suc i)
tops_under K [] v vs i t = tt
tops_under K (w ∷ ws) v vs i t = (t.0, tops_under K ws v vs (suc i) t.1)

same : (K : Codes) (w k : Kind) (v : ℕ) → same_kind w k ≡ true → Fit K k v → Fit K w v
same K Condition Condition v e h = h
same K Policy Policy v e h = h
same K _ _ v e h = absurd (false≢true e)

taken : (K : Codes) (ws ks : List Kind) (vs : List ℕ) → fits ws ks ≡ true → Sound K ks vs → Tops K ws vs 0 × Sound K (drop (length ws) ks) (drop (length ws) vs)
taken K [] ks vs e s = (tt, s)
taken K (w ∷ ws) [] vs e s = absurd (false≢true e)
taken K (w ∷ ws) (k ∷ ks) [] e s = absurd s
taken K (w ∷ ws) (k ∷ ks) (v ∷ vs) e s =
    let b = and_parts (same_kind w k) (fits ws ks) e in
    let t = taken K ws ks vs b.1 s.1 in
    ((same K w k v b.0 s.0, tops_under K ws v vs 0 t.0), t.1)

small_bit : (b : Bool) → bit b ≤ 1
small_bit true = omega arith
small_bit false = omega arith

makes_sound : (K : Codes) → Closed K → (r : ℕ) (x : Command) (vs : List ℕ) → unstatable K x ≡ false → Tops K (takes x) vs 0 → Fit K (leaves x) (means K r x (get_or vs 0 0) (get_or vs 1 0))
makes_sound K C r (Has f) vs u t = small_bit (has f r)
makes_sound K C r (Any m) vs u t = small_bit (any m r)
makes_sound K C r (All m) vs u t = small_bit (all m r)
makes_sound K C r Not vs u t = omega arith
makes_sound K C r And vs u t = small_bit _
makes_sound K C r Or vs u t = small_bit _
makes_sound K C r (State e) vs u t = leb-false K.count e (or_parts _ _ u).0
makes_sound K C r Scope vs u t = cond_both (eqb (get_or vs 0 0) 1) _ _ (λ n. n < K.count) (λ _. t.1.0) (λ _. C.not_applicable_below)
makes_sound K C r Fail vs u t = cond_both (eqb (get_or vs 0 0) 1) _ _ (λ n. n < K.count) (λ _. C.failed_below _ t.1.0) (λ _. t.1.0)
makes_sound K C r (Join k) vs u t = C.combined_below k _ _ t.1.0 t.0
makes_sound K C r End vs u t = t.0

-- and what the rules make of them is what the algebra makes of them
tabled_means : (K : Codes) (R : EffectTables) → Tables K R → (r : ℕ) (x : Command) (vs : List ℕ) → no_combiner K x ≡ false → Tops K (takes x) vs 0 → tabled R r x (get_or vs 0 0) (get_or vs 1 0) ≡ means K r x (get_or vs 0 0) (get_or vs 1 0)
tabled_means K R T r Not vs u t = T.negated _ t.0
tabled_means K R T r And vs u t = T.both _ _ t.1.0 t.0
tabled_means K R T r Or vs u t = T.either _ _ t.1.0 t.0
tabled_means K R T r Scope vs u t = T.scope _ _ t.1.0 t.0
tabled_means K R T r Fail vs u t = T.fail _ _ t.1.0 t.0
tabled_means K R T r (Join k) vs u t = T.combine k _ _ (leb-false K.combiners k u) t.1.0 t.0
tabled_means K R T r x vs u t = refl

stack_more : {V : Type 0} (R : Reader V) (vs : List V) (row : Row) (x : Command) → stack R vs (row ++ x ∷ []) ≡ R.makes x (get_or (stack R vs row) 0 R.none) (get_or (stack R vs row) 1 R.none) ∷ drop (length (takes x)) (stack R vs row)
stack_more R vs [] x = refl
stack_more R vs (y ∷ row) x = stack_more R (R.makes y (get_or vs 0 R.none) (get_or vs 1 R.none) ∷ drop (length (takes y)) vs) row x

pub values_more : (K : Codes) (row : Row) (x : Command) (q : ℕ) → values K (row ++ x ∷ []) q ≡ means K q x (get_or (values K row q) 0 0) (get_or (values K row q) 1 0) ∷ drop (length (takes x)) (values K row q)
unfolding values
values_more K row x q = stack_more (at_request K q) [] row x

pub kinds_more : (row : Row) (x : Command) → kinds (row ++ x ∷ []) ≡ leaves x ∷ drop (length (takes x)) (kinds row)
unfolding kinds
kinds_more row x = stack_more of_kinds [] row x

or_swap : (a b c : Bool) → (a || (b || c)) ≡ (b || (a || c))
or_swap true true c = refl
or_swap true false c = refl
or_swap false true c = refl
or_swap false false c = refl

pub ended_more : (row : Row) (x : Command) → ended (row ++ x ∷ []) ≡ (is_end x || ended row)
unfolding ended
ended_more [] x = refl
ended_more (y ∷ row) x = ap (λ (b : Bool). is_end y || b) (ended_more row x) ∙ or_swap (is_end y) (is_end x) (ended row)

sound_more : (K : Codes) → Closed K → (q : ℕ) (row : Row) (x : Command) → Sound K (kinds row) (values K row q) → fits (takes x) (kinds row) ≡ true → unstatable K x ≡ false → Sound K (kinds (row ++ x ∷ [])) (values K (row ++ x ∷ []) q)
sound_more K C q row x s f u =
    let t = taken K (takes x) (kinds row) (values K row q) f s in
    subst (λ (ks : List Kind). Sound K ks (values K (row ++ x ∷ []) q)) (sym (kinds_more row x))
    (subst (Sound K (leaves x ∷ drop (length (takes x)) (kinds row))) (sym (values_more K row x q)) (makes_sound K C q x (values K row q) u t.0, t.1))

-- entries and their meanings
abbrev Kept : {S E : Type 0} → Model S E → S → S → Type 0
Kept {S = S} {E = E} M s t = (e : E) (f : ℕ → ℕ) → M.sense s e f → M.sense t e f

meant_later : {S E : Type 0} (M : Model S E) (s t : S) → Kept M s t → (es : List E) (F : ℕ → List ℕ) → Meant M s es F → Meant M t es F
meant_later M s t k [] F m = m
meant_later M s t k (e ∷ es) F m = (k e _ m.0, meant_later M s t k es (λ q. drop 1 (F q)) m.1)

drop_one : (n : ℕ) (vs : List ℕ) → drop n (drop 1 vs) ≡ drop (suc n) vs
drop_one zero [] = refl
drop_one (suc n) [] = refl
drop_one n (v ∷ vs) = refl

get_or_one : (i : ℕ) (vs : List ℕ) → get_or (drop 1 vs) i 0 ≡ get_or vs (suc i) 0
get_or_one i [] = refl
get_or_one i (v ∷ vs) = refl

meant_drop : {S E : Type 0} (M : Model S E) (s : S) (n : ℕ) (es : List E) (F : ℕ → List ℕ) → Meant M s es F → Meant M s (drop n es) (λ q. drop n (F q))
meant_drop M s zero es F m = m
meant_drop M s (suc n) [] F m = λ q. ap (λ (vs : List ℕ). drop (suc n) vs) (m q)
meant_drop M s (suc n) (e ∷ es) F m = subst (Meant M s (drop n es)) (fun_ext (λ q. drop_one n (F q))) (meant_drop M s n es (λ q. drop 1 (F q)) m.1)

pub meant_at : {S E : Type 0} (M : Model S E) (s : S) (z : E) → M.sense s z (λ _. 0) → (es : List E) (F : ℕ → List ℕ) (i : ℕ) → Meant M s es F → M.sense s (get_or es i z) (λ q. get_or (F q) i 0)
meant_at M s z b [] F i m = subst (M.sense s z) (fun_ext (λ q. sym (ap (λ (vs : List ℕ). get_or vs i 0) (m q)))) b
meant_at M s z b (e ∷ es) F zero m = m.0
meant_at M s z b (e ∷ es) F (suc i) m = subst (M.sense s (get_or es i z)) (fun_ext (λ q. get_or_one i (F q))) (meant_at M s z b es (λ q. drop 1 (F q)) i m.1)

-- an entry that a stack holds, by its place under the top
pub held_at : {S E : Type 0} (M : Model S E) (K : Codes) (s : S) (st : Stack E) (row : Row) (z e : E) (i : ℕ) → M.sense s z (λ _. 0) → Holds M K s st row → e ≡ get_or (entries_on st) i z → M.sense s e (λ q. get_or (values K row q) i 0)
held_at {E = E} M K s st row z e i b h p =
    subst (λ (x : E). M.sense s x (λ q. get_or (values K row q) i 0)) (sym p) (meant_at M s z b (entries_on st) (values K row) i h.meant)

-- what the tables make of a command after a row
abbrev by_tables : Codes → EffectTables → Row → Command → ℕ → ℕ
by_tables K R row x q = tabled R q x (get_or (values K row q) 0 0) (get_or (values K row q) 1 0)

-- the command's own result, under the tables and under the algebra
made_same : (K : Codes) (R : EffectTables) → Tables K R → (row : Row) (x : Command) → Passed K (kinds row) x → ((q : ℕ) → Sound K (kinds row) (values K row q)) → by_tables K R row x ≡ (λ q. result K (row ++ x ∷ []) q)
made_same K R T row x p s = fun_ext (λ q.
    let t = taken K (takes x) (kinds row) (values K row q) p.fitted (s q) in
    tabled_means K R T q x (values K row q) p.combiner t.0 ∙ sym (ap (λ (vs : List ℕ). get_or vs 0 0) (values_more K row x q)))

tail_more : (K : Codes) (row : Row) (x : Command) → ◌≡◌ {A = ℕ → List ℕ} (λ q. drop (length (takes x)) (values K row q)) (λ q. drop 1 (values K (row ++ x ∷ []) q))
tail_more K row x = fun_ext (λ q. sym (ap (λ (vs : List ℕ). drop 1 vs) (values_more K row x q)))

pub next_ok : (K : Codes) (n : ℕ) (more : Command → Tests) (row : Row) (bs : List ℕ) (d : Command × ℕ) → checked K n (ended row) (kinds row) bs ≡ Ok d → next_command K n more row bs ≡ first_of (more d.0) d
unfolding next_command
next_ok K n more row bs d p = ap (λ (v : Result (Command × ℕ) Refusal). bind v (λ d. first_of (more d.0) d)) p

pub next_err : (K : Codes) (n : ℕ) (more : Command → Tests) (row : Row) (bs : List ℕ) (e : Refusal) → checked K n (ended row) (kinds row) bs ≡ Err e → next_command K n more row bs ≡ Err e
unfolding next_command
next_err K n more row bs e p = ap (λ (v : Result (Command × ℕ) Refusal). bind v (λ d. first_of (more d.0) d)) p

-- the check at the stack is the check at the row
abbrev At : {E : Type 0} → EffectTables → ℕ → Stack E → List ℕ → Result (Command × ℕ) Refusal
At R n st bs = checked (of_tables R) n st.outline.ended (kinds_on st) bs

at_row : {S E : Type 0} (M : Model S E) (K : Codes) (R : EffectTables) → Tables K R → (n : ℕ) (s : S) (st : Stack E) (row : Row) (bs : List ℕ) → Holds M K s st row → At R n st bs ≡ checked K n (ended row) (kinds row) bs
at_row M K R T n s st row bs h =
    checked_same K R T n _ _ bs
    ∙ ap (λ (b : Bool). checked K n b (kinds_on st) bs) h.over
    ∙ ap (λ (ks : List Kind). checked K n (ended row) ks bs) h.standing

-- a step, from what the next command is
stepped : {S E : Type 0} (M : Model S E) (K : Codes) (n : ℕ) (row : Row) (bs : List ℕ) (s t : S) (st : Stack E) (r : Result ℕ Refusal) (v : Result (Command × ℕ) Refusal) → own_command M K n s row bs ≡ v → Moved M K row s t v → r ≡ bytes_taken v → Holds M K t st (after row v) → Stepped M K n row bs s t st r
stepped M K n row bs s t st r v c m a h = record {
  moved = subst (Moved M K row s t) (sym c) m;
  answer = a ∙ sym (ap bytes_taken c);
  holds = subst (λ (v : Result (Command × ℕ) Refusal). Holds M K t st (after row v)) (sym c) h;
}

-- refused by the tests
pub step_refused : {S E : Type 0} (M : Model S E) (K : Codes) (R : EffectTables) → Tables K R → (n : ℕ) (s : S) (st : Stack E) (row : Row) (bs : List ℕ) (e : Refusal) → M.stays s s → Err e ≡ At R n st bs → Holds M K s st row → Stepped M K n row bs s s st (Err e)
step_refused M K R T n s st row bs e i p h =
    stepped M K n row bs s s st (Err e) (Err e) (next_err K n (own_tests (M.full s) K row) row bs e (sym (at_row M K R T n s st row bs h) ∙ sym p)) i refl h

-- the same of the row's result
given : {S E : Type 0} (M : Model S E) (K : Codes) (R : EffectTables) → Tables K R → (s t : S) (row : Row) (x : Command) (r : Result E Refusal) → Passed K (kinds row) x → ((q : ℕ) → Sound K (kinds row) (values K row q)) → Gives M (is_end x) s t (by_tables K R row x) r → Gives M (is_end x) s t (λ q. result K (row ++ x ∷ []) q) r
given M K R T s t row x r p so g = subst (λ (f : ℕ → ℕ). Gives M (is_end x) s t f r) (made_same K R T row x p so) g

holds_later : {S E : Type 0} (M : Model S E) (K : Codes) (s t : S) (st : Stack E) (row : Row) → Kept M s t → Holds M K s st row → Holds M K t st row
holds_later M K s t st row k h = record { standing = h.standing; over = h.over; meant = meant_later M s t k (entries_on st) (values K row) h.meant; sound = h.sound }

holds_put : {S E : Type 0} (M : Model S E) (K : Codes) → Closed K → (s t : S) (st su : Stack E) (row : Row) (x : Command) (e : E) → Kept M s t → Passed K (kinds row) x → M.sense t e (λ q. result K (row ++ x ∷ []) q) → Put x e st su → Holds M K s st row → Holds M K t su (row ++ x ∷ [])
holds_put {E = E} M K C s t st su row x e k p m u h = record {
  standing = u.kinds ∙ ap (λ (ks : List Kind). leaves x ∷ drop (length (takes x)) ks) h.standing ∙ sym (kinds_more row x);
  over = u.ended ∙ ap (λ (b : Bool). is_end x || b) h.over ∙ sym (ended_more row x);
  meant = subst (λ (es : List E). Meant M t es (values K (row ++ x ∷ []))) (sym u.entries) (
    m,
    subst (Meant M t (drop (length (takes x)) (entries_on st))) (tail_more K row x)
        (meant_drop M t (length (takes x)) (entries_on st) (values K row) (meant_later M s t k (entries_on st) (values K row) h.meant)),
  );
  sound = λ q. sound_more K C q row x (h.sound q) p.fitted p.stated;
}

-- accepted
pub step_ok : {S E : Type 0} (M : Model S E) (K : Codes) (R : EffectTables) → Closed K → Tables K R → (n : ℕ) (s t : S) (st su : Stack E) (row : Row) (bs : List ℕ) (x : Command) (count : ℕ) (e : E) → Kept M s t → Ok (x, count) ≡ At R n st bs → Holds M K s st row → Gives M (is_end x) s t (by_tables K R row x) (Ok e) → Put x e st su → Stepped M K n row bs s t su (Ok count)
step_ok M K R C T n s t st su row bs x count e k p h g u =
    let a = sym (at_row M K R T n s st row bs h) ∙ sym p in
    let w = (passed K n (ended row) (kinds row) bs (x, count) a).0 in
    let v = given M K R T s t row x (Ok e) w h.sound g in
    stepped M K n row bs s t su (Ok count) (Ok (x, count)) (next_ok K n (own_tests (M.full s) K row) row bs (x, count) a ∙ cond-false _ _ _ v.0) v.2 refl (holds_put M K C s t st su row x e k w v.1 u h)

-- refused for want of a slot
pub step_full : {S E : Type 0} (M : Model S E) (K : Codes) (R : EffectTables) → Tables K R → (n : ℕ) (s t : S) (st : Stack E) (row : Row) (bs : List ℕ) (x : Command) (count : ℕ) (e : Refusal) → Kept M s t → Ok (x, count) ≡ At R n st bs → Holds M K s st row → Gives M (is_end x) s t (by_tables K R row x) (Err e) → Stepped M K n row bs s t st (Err e)
step_full M K R T n s t st row bs x count e k p h g =
    let a = sym (at_row M K R T n s st row bs h) ∙ sym p in
    let w = (passed K n (ended row) (kinds row) bs (x, count) a).0 in
    let v = given M K R T s t row x (Err e) w h.sound g in
    stepped M K n row bs s t st (Err e) (Err NoSlot) (next_ok K n (own_tests (M.full s) K row) row bs (x, count) a ∙ cond-true _ _ _ v.0) v.2 (ap (λ (r : Refusal). Err r) v.1) (holds_later M K s t st row k h)
