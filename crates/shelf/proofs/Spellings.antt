-- Names: the check of their bytes, and what declare and find answer at a catalogue.
use Rattle.std.proofs.Common.{◌≡◌, ℕ, ◌<◌, ◌≤◌, Bool, true, false, cond, not, ◌&&◌, leb, [], ◌∷◌, length, is_some, Some, None, Ok, Err, Option, Result, sym, refl, ap, ◌∙◌, ⊎_elim, arith}
use Rattle.std.proofs.lemmas.Bool.{cond-true, cond-false, le-leb, lt-leb, cases_lt}
use Rattle.effects.specs.Codes.{Codes, QuestionCodes}
use Rattle.effects.specs.declared.tables.EffectTables.{EffectTables}
use Rattle.effects.specs.declared.tables.QuestionTables.{QuestionTables}
use Rattle.probing.specs.Kinds.{text, name_same}
use Rattle.probing.specs.Model.{NameTable, keys, room}
use Rattle.probing.specs.Table.{number_of, numbered, grown}
use Rattle.probing.specs.declared.name.Name.{Name}
use Rattle.tape.specs.Tape.{first_of}
use Rattle.tape.specs.declared.refusal.Refusal.{Refusal}
use Rattle.tape.specs.declared.refusal.Refusal.TheVariants.{BadName, NamesFull}
use Rattle.tape.specs.declared.stack.Stack.{Stack}
use Rattle.diagram.specs.declared.store.Store.{Store}
use Rattle.shelf.specs.Names.{good_name, same_name}
use Rattle.shelf.specs.Catalogue.{Catalogue, facts, naming}
use Rattle.shelf.specs.Calls.{number_of_name, fact_of, declare_answer, find_answer, after_declare}
use Rattle.shelf.specs.Upholds.{Upholds}
use Rattle.shelf.specs.declared.state.State.{State}
use Rattle.probing.proofs.Tables.{at_new, at_refused}
use Rattle.shelf.proofs.Upholding.{number_is, facts_are, declared, renamed}

-- find
pub find_bad : (c : Catalogue) (n : Name) → good_name n ≡ false → find_answer c n ≡ None
unfolding find_answer
find_bad c n g = cond-false _ _ _ g

pub find_good : (c : Catalogue) (n : Name) → good_name n ≡ true → find_answer c n ≡ number_of_name c n
unfolding find_answer
find_good c n g = cond-true _ _ _ g

-- declare, by its answer
abbrev by_answer : Catalogue → Name → Result ℕ Refusal → Catalogue
by_answer c n (Err _) = c
by_answer c n (Ok _) = cond (is_some (number_of_name c n)) c (naming c (text n))

after_is : (c : Catalogue) (n : Name) (v : Result ℕ Refusal) → declare_answer c n ≡ v → after_declare c n ≡ by_answer c n v
unfolding after_declare
after_is c n v e = by (declare_answer c n) ∙ ap (by_answer c n) e
  where
    by : (w : Result ℕ Refusal) → ◌≡◌ {A = Catalogue} (elim w [ Err _ ↦ c | Ok _ ↦ cond (is_some (number_of_name c n)) c (naming c (text n)) ]) (by_answer c n w)
    by (Ok f) = refl
    by (Err e) = refl

abbrev tested : Bool → Bool → Option ℕ → ℕ → Result ℕ Refusal
tested good full o next = first_of ((not good, BadName) ∷ (not (is_some o) && full, NamesFull) ∷ []) (fact_of o next)

declare_by : (c : Catalogue) (n : Name) (g full : Bool) (o : Option ℕ) → good_name n ≡ g → leb c.making.name_slots (facts c) ≡ full → number_of_name c n ≡ o → declare_answer c n ≡ tested g full o (facts c)
unfolding declare_answer
declare_by c n g full o a b e =
    ap (λ x. tested x (leb c.making.name_slots (facts c)) (number_of_name c n) (facts c)) a
    ∙ ap (λ x. tested g x (number_of_name c n) (facts c)) b
    ∙ ap (λ x. tested g full x (facts c)) e

some_none : (i : ℕ) → ◌≡◌ {A = Option ℕ} (Some i) None → ⊥
some_none i e = let z : ◌≡◌ {A = ℕ} 0 1 = cc in omega arith

some_same : (i j : ℕ) → ◌≡◌ {A = Option ℕ} (Some i) (Some j) → i ≡ j
some_same i j e = cc

module _ {K : Codes} {Q : QuestionCodes} {names : NameTable} {store : Store} {tables : EffectTables} {questions : QuestionTables} {stack : Stack ℕ} {state : State} {c : Catalogue} (u : Upholds K Q names store tables questions stack state c) (n : Name) where
  pub number_agrees : number_of_name c n ≡ number_of name_same n (keys names)
  number_agrees = ap (number_of same_name (text n)) u.naming.are ∙ number_is n 0 (keys names)

  -- a new name, inserted
  pub fits : (names' : NameTable) → number_of name_same n (keys names) ≡ None → length (keys names) < room names → room names' ≡ room names → keys names' ≡ grown name_same n (room names) (keys names) → Upholds K Q names' store tables questions stack state (naming c (text n))
  fits names' o h r k = declared u names' n r (k ∙ (at_new name_same n (room names) (keys names) o h).1)

  pub refused : (names' : NameTable) → number_of name_same n (keys names) ≡ None → room names ≤ length (keys names) → room names' ≡ room names → keys names' ≡ grown name_same n (room names) (keys names) → Upholds K Q names' store tables questions stack state c
  refused names' o h r k = renamed u names' r (k ∙ (at_refused name_same n (room names) (keys names) o h).1)

  -- or not
  pub inserted : (names' : NameTable) → number_of name_same n (keys names) ≡ None → room names' ≡ room names → keys names' ≡ grown name_same n (room names) (keys names) → (d : Catalogue) × Upholds K Q names' store tables questions stack state d
  inserted names' o r k = ⊎_elim (λ h. (naming c (text n), fits names' o h r k)) (λ h. (c, refused names' o h r k)) (cases_lt (length (keys names)) (room names))

  pub took : (i : ℕ) → number_of name_same n (keys names) ≡ None → Some i ≡ numbered name_same n (room names) (keys names) → (length (keys names) < room names) × (i ≡ length (keys names))
  took i o e = ⊎_elim (λ h. (h, some_same i (length (keys names)) (e ∙ (at_new name_same n (room names) (keys names) o h).0))) (λ h. absurd (some_none i (e ∙ (at_refused name_same n (room names) (keys names) o h).0))) (cases_lt (length (keys names)) (room names))

  pub gone : number_of name_same n (keys names) ≡ None → None ≡ numbered name_same n (room names) (keys names) → room names ≤ length (keys names)
  gone o e = ⊎_elim (λ h. absurd (some_none (length (keys names)) (sym (at_new name_same n (room names) (keys names) o h).0 ∙ sym e))) (λ h. h) (cases_lt (length (keys names)) (room names))

  pub declare_bad : good_name n ≡ false → (Err BadName ≡ declare_answer c n) × (after_declare c n ≡ c)
  declare_bad g = let e : declare_answer c n ≡ Err BadName = declare_by c n false _ _ g refl refl in (sym e, after_is c n (Err BadName) e)

  pub declare_known : (f : ℕ) → good_name n ≡ true → number_of_name c n ≡ Some f → (Ok f ≡ declare_answer c n) × (after_declare c n ≡ c)
  declare_known f g o =
      let e : declare_answer c n ≡ Ok f = declare_by c n true _ (Some f) g refl o in
      (sym e, after_is c n (Ok f) e ∙ ap (λ x. cond (is_some x) c (naming c (text n))) o)

  pub declare_new : good_name n ≡ true → number_of_name c n ≡ None → length (keys names) < room names → (Ok (length (keys names)) ≡ declare_answer c n) × (after_declare c n ≡ naming c (text n))
  declare_new g o h =
      let free : leb c.making.name_slots (facts c) ≡ false = lt-leb c.making.name_slots (facts c) (omega (arith, u.naming.slots_are, facts_are u)) in
      let e : declare_answer c n ≡ Ok (facts c) = declare_by c n true false None g free o in
      (ap Ok (sym (facts_are u)) ∙ sym e, after_is c n (Ok (facts c)) e ∙ ap (λ x. cond (is_some x) c (naming c (text n))) o)

  pub declare_full : good_name n ≡ true → number_of_name c n ≡ None → room names ≤ length (keys names) → (Err NamesFull ≡ declare_answer c n) × (after_declare c n ≡ c)
  declare_full g o h =
      let full : leb c.making.name_slots (facts c) ≡ true = le-leb c.making.name_slots (facts c) (omega (arith, u.naming.slots_are, facts_are u)) in
      let e : declare_answer c n ≡ Err NamesFull = declare_by c n true true None g full o in
      (sym e, after_is c n (Err NamesFull) e)
