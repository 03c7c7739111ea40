-- A draft stays its shelf's open one until it is filed or given up.
use Rattle.std.proofs.Common.{◌≡◌, ℕ, ◌+◌, ◌-◌, ◌%◌, ◌^◌, Bool, true, false, cond, ◌&&◌, eqb, leb, List, is_ok, IfOk, Ok, Err, Result, sym, refl, ap, ◌∙◌, subst, arith}
use mathlib.Core.Logic.{∥∥₁_elim, ∥∥₁_map, ∥∥₁_prop}
use mathlib.Core.Bool.{Bool-set}
use store.Seg.{eqb_same}
use Rattle.std.proofs.lemmas.Bool.{and_parts}
use Rattle.effects.specs.Codes.{Codes, QuestionCodes}
use Rattle.tape.specs.declared.command.Command.{Command}
use Rattle.tape.specs.declared.refusal.Refusal.{Refusal}
use Rattle.tape.specs.declared.refusal.Refusal.TheVariants.{DraftOpen, AllFiled}
use Rattle.shelf.specs.Catalogue.{Catalogue, policies, is_open, open_row, own_open, opening, feeding, filing}
use Rattle.shelf.specs.Calls.{open_answer, fed, feed_answer, file_answer, abandon_answer, after_open, after_feed, after_file, after_abandon}
use Rattle.shelf.specs.Drafts.{given_out, handed_on, handed_back}
use Rattle.shelf.specs.Stands.{Stands, Moved}
use Rattle.shelf.specs.declared.draft.Draft.{Draft}
use Rattle.shelf.specs.declared.draft.DraftId.{DraftId}
use Rattle.shelf.specs.declared.shelf.Shelf.{Shelf}
use Rattle.shelf.proofs.Replies.{abandon_ok}
use Rattle.draft_client.specs.Owning.{Owns}

-- opening
own_new : (c : Catalogue) → own_open (opening c) (record { shelf = c.making.number; count = c.given % 2 ^ 32 }) ≡ true
own_new c =
    let e : c.given + 1 - 1 ≡ c.given = omega arith in
    ap (λ x. x && eqb (c.given % 2 ^ 32) ((c.given + 1 - 1) % 2 ^ 32)) (eqb_same c.making.number) ∙ ap (λ k. eqb (c.given % 2 ^ 32) (k % 2 ^ 32)) e ∙ eqb_same (c.given % 2 ^ 32)

opened_owns : (c : Catalogue) (d : Draft) → ◌≡◌ {A = Result Draft Refusal} (Ok d) (given_out (open_answer c)) → own_open (after_open c) d.id ≡ true
unfolding open_answer after_open
opened_owns c d h = by (is_open c) (leb 64 (policies c)) h
  where
    by : (a b : Bool) → ◌≡◌ {A = Result Draft Refusal} (Ok d) (given_out (cond a (Err DraftOpen) (cond b (Err AllFiled) (Ok (record { shelf = c.making.number; count = c.given % 2 ^ 32 }))))) → own_open (elim (cond {A = Result DraftId Refusal} a (Err DraftOpen) (cond b (Err AllFiled) (Ok (record { shelf = c.making.number; count = c.given % 2 ^ 32 })))) as (λ _. Catalogue) [ Err _ ↦ c | Ok _ ↦ opening c ]) d.id ≡ true
    by true b h = let z : ◌≡◌ {A = ℕ} 0 1 = cc in absurd (omega arith)
    by false true h = let z : ◌≡◌ {A = ℕ} 0 1 = cc in absurd (omega arith)
    by false false h =
        let e : d ≡ record { id = record { shelf = c.making.number; count = c.given % 2 ^ 32 } } = cc in
        ap (λ (x : Draft). own_open (opening c) x.id) e ∙ own_new c

pub begun : (s t : Shelf) (a : Result Draft Refusal) → ((K : Codes) (Q : QuestionCodes) (c : Catalogue) → Stands K Q s c → (a ≡ given_out (open_answer c)) × Moved K Q s t c (after_open c)) → IfOk a (λ d. Owns t d)
begun s t (Err e) moves = tt
begun s t (Ok d) moves = ∥∥₁_map s.stands (λ k.
    let m = moves k.0 k.1.0 k.1.1.0 k.1.1.1 in
    (k.0, (k.1.0, (after_open k.1.1.0, (m.1.stands, opened_owns k.1.1.0 d m.0)))))

-- feeding
fed_owns : (K : Codes) (c : Catalogue) (id : DraftId) (bs : List ℕ) → own_open c id ≡ true → own_open (after_feed K c id bs) id ≡ true
unfolding after_feed
fed_owns K c id bs h = by (fed K c id bs)
  where
    by : (v : Result (Command × ℕ) Refusal) → own_open (elim v as (λ _. Catalogue) [ Err _ ↦ c | Ok x ↦ feeding c x.0 ]) id ≡ true
    by (Err e) = h
    by (Ok d) = (and_parts _ _ h).1

-- the draft that a feeding hands on
abbrev pub in_answer : Result (ℕ × Draft) (Refusal × Draft) → Draft
in_answer (Ok a) = a.1
in_answer (Err e) = e.1

same_draft : (d : Draft) (v : Result ℕ Refusal) → in_answer (handed_on d v) ≡ d
same_draft d (Ok n) = refl
same_draft d (Err e) = refl

pub fed_kept : (s t : Shelf) (d : Draft) (bs : List ℕ) (a : Result (ℕ × Draft) (Refusal × Draft)) → Owns s d → ((K : Codes) (Q : QuestionCodes) (c : Catalogue) → Stands K Q s c → (a ≡ handed_on d (feed_answer K c d.id bs)) × Moved K Q s t c (after_feed K c d.id bs)) → Owns t (in_answer a)
fed_kept s t d bs a o moves = ∥∥₁_map o (λ k.
    let c = k.1.1.0 in
    let m = moves k.0 k.1.0 c k.1.1.1.0 in
    let e : in_answer a ≡ d = ap in_answer m.0 ∙ same_draft d (feed_answer k.0 c d.id bs) in
    (k.0, (k.1.0, (after_feed k.0 c d.id bs, (m.1.stands, ap (λ (x : Draft). own_open (after_feed k.0 c d.id bs) x.id) e ∙ fed_owns k.0 c d.id bs k.1.1.1.1)))))

-- feeding it to another shelf
pub fed_elsewhere : (home s t : Shelf) (d : Draft) (bs : List ℕ) (a : Result (ℕ × Draft) (Refusal × Draft)) → Owns home d → ((K : Codes) (Q : QuestionCodes) (c : Catalogue) → Stands K Q s c → (a ≡ handed_on d (feed_answer K c d.id bs)) × Moved K Q s t c (after_feed K c d.id bs)) → Owns home (in_answer a)
fed_elsewhere home s t d bs a o moves = ∥∥₁_elim s.stands ∥∥₁_prop (λ k.
    let m = moves k.0 k.1.0 k.1.1.0 k.1.1.1 in
    subst (λ (x : Draft). Owns home x) (sym (ap in_answer m.0 ∙ same_draft d (feed_answer k.0 k.1.1.0 d.id bs))) o)

-- filing, where it is refused
abbrev in_refusal : Draft → Result ℕ (Refusal × Draft) → Draft
in_refusal d (Ok n) = d
in_refusal d (Err e) = e.1

file_owns : (c : Catalogue) (d f : Draft) (e : Refusal) → ◌≡◌ {A = Result ℕ (Refusal × Draft)} (Err (e, f)) (handed_back d (file_answer c d.id)) → own_open c d.id ≡ true → own_open (after_file c d.id) f.id ≡ true
unfolding after_file
file_owns c d f e h own = by (file_answer c d.id) h
  where
    by : (v : Result ℕ Refusal) → ◌≡◌ {A = Result ℕ (Refusal × Draft)} (Err (e, f)) (handed_back d v) → own_open (elim v as (λ _. Catalogue) [ Err _ ↦ c | Ok _ ↦ filing c (open_row c) ]) f.id ≡ true
    by (Ok n) h = let z : ◌≡◌ {A = ℕ} 0 1 = cc in absurd (omega arith)
    by (Err r) h = let z : f ≡ d = ap (in_refusal d) h in ap (λ (x : Draft). own_open c x.id) z ∙ own

pub file_kept : (s t : Shelf) (d f : Draft) (e : Refusal) → Owns s d → ((K : Codes) (Q : QuestionCodes) (c : Catalogue) → Stands K Q s c → (◌≡◌ {A = Result ℕ (Refusal × Draft)} (Err (e, f)) (handed_back d (file_answer c d.id))) × Moved K Q s t c (after_file c d.id)) → Owns t f
file_kept s t d f e o moves = ∥∥₁_map o (λ k.
    let c = k.1.1.0 in
    let m = moves k.0 k.1.0 c k.1.1.1.0 in
    (k.0, (k.1.0, (after_file c d.id, (m.1.stands, file_owns c d f e m.0 k.1.1.1.1)))))

-- giving up
pub given_up : (s t : Shelf) (d : Draft) (a : Result (Unit {0}) (Refusal × Draft)) → Owns s d → ((K : Codes) (Q : QuestionCodes) (c : Catalogue) → Stands K Q s c → (a ≡ handed_back d (abandon_answer c d.id)) × Moved K Q s t c (after_abandon c d.id)) → is_ok a ≡ true
given_up s t d a o moves = ∥∥₁_elim o (Bool-set (is_ok a) true) (λ k.
    let c = k.1.1.0 in
    let u = k.1.1.1.0 in
    let m = moves k.0 k.1.0 c u in
    ap is_ok (m.0 ∙ ap (handed_back d) (abandon_ok u d.id k.1.1.1.1).0))
