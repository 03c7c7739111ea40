-- A command read into the open draft.
use Rattle.std.proofs.Common.{◌≡◌, ℕ, ◌≤◌, List, ◌++◌, Ok, Err, Result, sym, ap, ◌∙◌, subst, Some, is_some}
use Rattle.effects.specs.Codes.{Codes, QuestionCodes}
use Rattle.effects.specs.declared.tables.EffectTables.{EffectTables}
use Rattle.effects.specs.declared.tables.QuestionTables.{QuestionTables}
use Rattle.probing.specs.Model.{NameTable}
use Rattle.tape.specs.Entries.{Holds, Moved, Stepped, own_command}
use Rattle.tape.specs.Tape.{next_command, after, bytes_taken}
use Rattle.tape.specs.declared.command.Command.{Command}
use Rattle.tape.specs.declared.refusal.Refusal.{Refusal}
use Rattle.tape.specs.declared.stack.Stack.{Stack}
use Rattle.diagram.specs.Entries.{store_model}
use Rattle.diagram.specs.Stores.{Later}
use Rattle.diagram.specs.declared.store.Store.{Store}
use Rattle.shelf.specs.Catalogue.{Catalogue, facts, open_row, results, filed_results, all_results, feeding}
use Rattle.shelf.specs.Calls.{slot_tests}
use Rattle.shelf.specs.Upholds.{Storing, Upholds}
use Rattle.shelf.specs.declared.state.State.{State}
use Rattle.shelf.proofs.Feeding.{own_is, storing_more, fed_next}
use Rattle.shelf.proofs.Replies.{on_ok}
use Rattle.shelf.proofs.Upholding.{all_are, unmoved, fed}

module _ {K : Codes} {Q : QuestionCodes} {names : NameTable} {store : Store} {tables : EffectTables} {questions : QuestionTables} {stack : Stack ℕ} {state : State} {c : Catalogue} (u : Upholds K Q names store tables questions stack state c) (before : ℕ) (opened : state.before ≡ Some before) (n : ℕ) (facts-n : n ≡ facts c) (few : n ≤ 32) (bs : List ℕ) (store' : Store) (stack' : Stack ℕ) (later : Later store store') (r : Result ℕ Refusal) (sd : Stepped store_model K n (open_row c) bs store store' stack' r) where
  -- the command as the catalogue says
  abbrev pub next : Result (Command × ℕ) Refusal
  next = next_command K (facts c) (slot_tests K c.making.slots (facts c) (all_results K c) (open_row c)) (open_row c) bs

  st : Storing store c.making.slots (facts c) (filed_results K c ++ results K (open_row c))
  st = subst (Storing store c.making.slots (facts c)) (all_are K c) u.storing

  at_facts : Stepped store_model K (facts c) (open_row c) bs store store' stack' r
  at_facts = subst (λ m. Stepped store_model K m (open_row c) bs store store' stack' r) facts-n sd

  own : own_command store_model K (facts c) store (open_row c) bs ≡ next_command K (facts c) (slot_tests K c.making.slots (facts c) (filed_results K c ++ results K (open_row c)) (open_row c)) (open_row c) bs
  own = own_is K (facts c) (subst (λ m. m ≤ 32) facts-n few) (filed_results K c) (open_row c) bs store c.making.slots st (u.drafting before opened).fed

  pub next_is : own_command store_model K (facts c) store (open_row c) bs ≡ next
  next_is = own ∙ ap (λ Fs. next_command K (facts c) (slot_tests K c.making.slots (facts c) Fs (open_row c)) (open_row c) bs) (sym (all_are K c))

  pub answer_is : r ≡ bytes_taken next
  answer_is = at_facts.answer ∙ ap bytes_taken next_is

  pub step_upholds : Upholds K Q names store' tables questions stack' state (on_ok c (λ d. feeding c d.0) next)
  step_upholds = by next (sym own ∙ next_is) (subst (Moved store_model K (open_row c) store store') next_is at_facts.moved) (subst (λ v. Holds store_model K store' stack' (after (open_row c) v)) next_is at_facts.holds)
    where
      by : (v : Result (Command × ℕ) Refusal) → next_command K (facts c) (slot_tests K c.making.slots (facts c) (filed_results K c ++ results K (open_row c)) (open_row c)) (open_row c) bs ≡ v → Moved store_model K (open_row c) store store' v → Holds store_model K store' stack' (after (open_row c) v) → Upholds K Q names store' tables questions stack' state (on_ok c (λ d. feeding c d.0) v)
      by (Err e) q m h = unmoved u store' stack' m (λ _ _. h)
      by (Ok d) q m h =
          fed u store' stack' d.0 later (ap is_some opened) h
          (fed_next K (facts c) (subst (λ k. k ≤ 32) facts-n few) (filed_results K c) (open_row c) bs store c.making.slots st (u.drafting before opened).fed d store' stack' q h)
          (storing_more K (facts c) (subst (λ k. k ≤ 32) facts-n few) (filed_results K c) (open_row c) bs store c.making.slots st (u.drafting before opened).fed store' d q m)
