-- A whole tape read into a store.
use Rattle.std.proofs.Common.{◌≡◌, ℕ, ◌<◌, ◌≤◌, true, false, List, [], ◌∷◌, ◌++◌, length, get_or, Ok, Err, Result, sym, refl, ap, ◌∙◌, subst, append-nil, is_some}
use Rattle.std.proofs.lemmas.Bool.{false≢true}
use Rattle.effects.specs.Codes.{Codes, QuestionCodes}
use Rattle.effects.specs.declared.tables.EffectTables.{EffectTables}
use Rattle.effects.specs.declared.tables.QuestionTables.{QuestionTables}
use Rattle.probing.specs.Model.{NameTable}
use Rattle.tape.specs.Entries.{Holds, Moved, Reads, entries_on, own_command}
use Rattle.tape.specs.Tape.{Row, Tests, next_command, ended}
use Rattle.tape.specs.declared.command.Command.{Command}
use Rattle.tape.specs.declared.refusal.RefusedAt.{RefusedAt}
use Rattle.tape.specs.declared.stack.Stack.{Stack}
use Rattle.tape.proofs.Reading.{Reading, holds_empty, reading, reading_ok, reading_err}
use Rattle.diagram.specs.Counted.{Each, Ignores}
use Rattle.diagram.specs.Entries.{store_model}
use Rattle.diagram.specs.Stores.{slots, Later, Unchanged}
use Rattle.diagram.specs.declared.store.Store.{Store}
use Rattle.shelf.specs.Catalogue.{Catalogue, facts, results, all_results, filing}
use Rattle.shelf.specs.Calls.{slot_tests}
use Rattle.shelf.specs.Loading.{read_row}
use Rattle.shelf.specs.States.{filed_state}
use Rattle.shelf.specs.Upholds.{Storing, Fed, Upholds}
use Rattle.shelf.specs.declared.state.State.{State}
use Rattle.shelf.proofs.Feeding.{own_is, storing_more, fed_next}
use Rattle.shelf.proofs.Rows.{results_none, fed_none}
use Rattle.shelf.proofs.Upholding.{closed_row, filed_only, unmoved, loaded}

-- what a store has recorded once a row is read, after the results Fs
pub record Also (K : Codes) (n many : ℕ) (Fs : List (ℕ → ℕ)) (row : Row) (s : Store) : Type 0 where
  pub storing : Storing s many n (Fs ++ results K row)
  pub fed : Fed K n row

-- what the store and the stack hold once the row is read, after the results Fs
pub record Loaded (K : Codes) (n many : ℕ) (Fs : List (ℕ → ℕ)) (store : Store) (stack : Stack ℕ) (row : Row) : Type 0 where
  pub also : Also K n many Fs row store
  pub holds : Holds store_model K store stack row
  pub ends : ended row ≡ true

-- a tape read from a store that records Fs and from an empty stack
module _ (K : Codes) (n : ℕ) (few : n ≤ 32) (Fs : List (ℕ → ℕ)) (tape : List ℕ) (s : Store) (st : Stack ℕ) (w : Storing s (slots s) n Fs) (bare : st.outline.depth ≡ 0) (unended : st.outline.ended ≡ false) where
  -- the last test of each command
  abbrev pub tests : Row → Command → Tests
  tests row x = slot_tests K (slots s) n (Fs ++ results K row) row x

  -- the reader has read nothing yet
  pub from_empty : Holds store_model K s st []
  from_empty = holds_empty store_model K s st bare unended

  pub read_so : (t : Store) (su : Stack ℕ) (r : Result (Unit {0}) RefusedAt) → Reads store_model K n (length tape) [] 0 tape s t su r → Reading store_model (Also K n (slots s) Fs) K t su (read_row K n (slots s) Fs tape) r
  read_so t su r x =
      reading store_model (Also K n (slots s) Fs) tests K n same goes (length tape) [] 0 tape s t su r (record {
        storing = subst (Storing s (slots s) n) (sym (ap (λ Gs. Fs ++ Gs) (results_none K) ∙ append-nil Fs)) w;
        fed = fed_none K n;
      }) x
    where
      same : (row : Row) (bs : List ℕ) (v : Store) → Also K n (slots s) Fs row v → own_command store_model K n v row bs ≡ next_command K n (tests row) row bs
      same row bs v a = own_is K n few Fs row bs v (slots s) a.storing a.fed

      goes : (row : Row) (bs : List ℕ) (v u : Store) (su : Stack ℕ) (d : Command × ℕ) → Also K n (slots s) Fs row v → own_command store_model K n v row bs ≡ Ok d → Moved store_model K row v u (Ok d) → Holds store_model K u su (row ++ d.0 ∷ []) → Also K n (slots s) Fs (row ++ d.0 ∷ []) u
      goes row bs v u su d a e m h = record {
        storing = storing_more K n few Fs row bs v (slots s) a.storing a.fed u d (sym (same row bs v a) ∙ e) m;
        fed = fed_next K n few Fs row bs v (slots s) a.storing a.fed d u su (sym (same row bs v a) ∙ e) h;
      }

  -- it is refused
  pub read_refused : (t : Store) (su : Stack ℕ) (e : RefusedAt) → Reads store_model K n (length tape) [] 0 tape s t su (Err e) → read_row K n (slots s) Fs tape ≡ Err e
  read_refused t su e x = reading_err store_model (Also K n (slots s) Fs) K t su (read_row K n (slots s) Fs tape) e (read_so t su (Err e) x)

  -- or read to its end
  pub read_whole : (t : Store) (su : Stack ℕ) (a : Unit {0}) → Reads store_model K n (length tape) [] 0 tape s t su (Ok a) → (row : Row) × ((read_row K n (slots s) Fs tape ≡ Ok row) × Loaded K n (slots s) Fs t su row)
  read_whole t su a x =
      let w = reading_ok store_model (Also K n (slots s) Fs) K t su (read_row K n (slots s) Fs tape) a (read_so t su (Ok a) x) in
      (w.0, (w.1.0, record { also = w.1.2; holds = w.1.1; ends = w.1.3 }))

-- the store of a shelf, before a load
module _ {K : Codes} {Q : QuestionCodes} {names : NameTable} {store : Store} {tables : EffectTables} {questions : QuestionTables} {stack : Stack ℕ} {state : State} {c : Catalogue} (u : Upholds K Q names store tables questions stack state c) (n : ℕ) (facts-n : n ≡ facts c) where
  pub storing_all : Storing store (slots store) n (all_results K c)
  storing_all = record { slots_are = refl; recorded = u.storing.recorded; keeps = subst (λ m. Each (Ignores m) (all_results K c)) (sym facts-n) u.storing.keeps }

  pub row_is : (tape : List ℕ) (v : Result Row RefusedAt) → read_row K n (slots store) (all_results K c) tape ≡ v → read_row K (facts c) c.making.slots (all_results K c) tape ≡ v
  row_is tape v e = ap (λ m. read_row K (facts c) m (all_results K c) tape) u.storing.slots_are ∙ ap (λ m. read_row K m (slots store) (all_results K c) tape) (sym facts-n) ∙ e

  -- a load that is undone
  pub undone : (store' : Store) → is_some state.before ≡ false → Unchanged store store' → Upholds K Q names store' tables questions stack state c
  undone store' none w = unmoved u store' stack w (λ b e. absurd (false≢true (sym none ∙ ap is_some e)))

  -- a load that is filed
  pub filed_row : (store' : Store) (stack' : Stack ℕ) (row : Row) (root : ℕ) → Later store store' → is_some state.before ≡ false → length state.roots.items < 64 → Loaded K n (slots store) (all_results K c) store' stack' row → root ≡ get_or (entries_on stack') 0 0 → Upholds K Q names store' tables questions stack (filed_state state root) (filing c row)
  filed_row store' stack' row root l none room ld top =
      loaded u store' stack' row root l none room ld.holds (subst (λ m. Fed K m row) facts-n ld.also.fed) ld.ends
      (subst (Storing store' c.making.slots (facts c)) (ap (λ Fs. Fs ++ results K row) (filed_only K c (closed_row c (u.drafting_is ∙ none))))
      (subst (λ m. Storing store' c.making.slots m (all_results K c ++ results K row)) facts-n (subst (λ m. Storing store' m n (all_results K c ++ results K row)) (sym u.storing.slots_are) ld.also.storing)))
      top
