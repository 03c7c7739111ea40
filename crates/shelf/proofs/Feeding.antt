-- One command more: what the store records then, and that 39 is what the catalogue says.
use Rattle.std.proofs.Common.{◌≡◌, ℕ, ◌≤◌, Bool, true, false, not, ◌&&◌, ltb, List, [], ◌∷◌, ◌++◌, length, Ok, Err, Result, sym, refl, ap, ◌∙◌, subst, append_assoc, arith}
use mathlib.Core.Path.{fun_ext}
use Rattle.effects.specs.Codes.{Codes}
use Rattle.tape.specs.Entries.{Holds, Moves, Moved, own_tests, own_command}
use Rattle.tape.specs.Tape.{Row, result, kinds, is_end, ended, undeclared, first_of, checked, next_command}
use Rattle.tape.specs.declared.command.Command.{Command}
use Rattle.tape.specs.declared.refusal.Refusal.{Refusal}
use Rattle.tape.specs.declared.refusal.Refusal.TheVariants.{NoSlot}
use Rattle.tape.specs.declared.stack.Stack.{Stack}
use Rattle.tape.proofs.Stepping.{Passed, passed, next_ok, next_err}
use Rattle.diagram.specs.Cofactors.{count}
use Rattle.diagram.specs.Counted.{Same, Ignores, Exists, Each}
use Rattle.diagram.specs.Entries.{store_model}
use Rattle.diagram.specs.Stores.{held, full, Recorded}
use Rattle.diagram.specs.declared.store.Store.{Store}
use Rattle.diagram.proofs.CountLaws.{within_in}
use Rattle.diagram.proofs.Elements.{each_append, some_left, some_right}
use Rattle.diagram.proofs.Recording.{full_count, later_unchanged, recorded_same}
use Rattle.shelf.specs.Catalogue.{results}
use Rattle.shelf.specs.Calls.{slot_tests}
use Rattle.shelf.specs.Upholds.{Storing, Fed}
use Rattle.shelf.proofs.Rows.{settled_more, settled_result, results_more, last_result, end_result, fed_more}

-- a function that is there already changes nothing in what is recorded
recorded_again : (s : Store) (k : ℕ) (Gs : List (ℕ → ℕ)) (F : ℕ → ℕ) → Exists (λ G. Same 32 F G) Gs → Recorded s k Gs → Recorded s k (Gs ++ F ∷ [])
recorded_again s k Gs F e R =
    recorded_same s k Gs (Gs ++ F ∷ []) (within_in 32 Gs (Gs ++ F ∷ []) (λ G i. some_left (λ H. H ≡ G) Gs (F ∷ []) i)) (each_append (λ H. Exists (λ G. Same 32 H G) Gs) Gs (F ∷ []) (within_in 32 Gs Gs (λ G i. i)) (e, tt)) R

same_test : (end a b : Bool) (d : Command × ℕ) → a ≡ b → first_of ((not end && a, NoSlot) ∷ []) d ≡ first_of ((not end && b, NoSlot) ∷ []) d
same_test end a b d e = ap (λ v. first_of ((not end && v, NoSlot) ∷ []) d) e

module _ (K : Codes) (n : ℕ) (few : n ≤ 32) (Fs : List (ℕ → ℕ)) (row : Row) (bs : List ℕ) (s : Store) (many : ℕ) (st : Storing s many n (Fs ++ results K row)) (f : Fed K n row) where
  abbrev Gs : List (ℕ → ℕ)
  Gs = Fs ++ results K row

  -- the result of a command that has passed its tests is one of n facts
  keeps_more : (x : Command) → undeclared n x ≡ false → Each (Ignores n) ((Fs ++ results K row) ++ (λ q. result K (row ++ x ∷ []) q) ∷ [])
  keeps_more x u =
      each_append (Ignores n) (Fs ++ results K row) ((λ q. result K (row ++ x ∷ []) q) ∷ []) st.keeps (settled_result K n (row ++ x ∷ []) (settled_more K n row x u f.settled), tt)

  -- so there is no slot for it exactly when the count says so
  full_is : (x : Command) → undeclared n x ≡ false → full s (λ q. result K (row ++ x ∷ []) q) ≡ ltb many (count n ((Fs ++ results K row) ++ (λ q. result K (row ++ x ∷ []) q) ∷ []))
  full_is x u =
      full_count s n (Fs ++ results K row) (λ q. result K (row ++ x ∷ []) q) st.recorded few (keeps_more x u)
      ∙ ap (λ k. ltb k (count n ((Fs ++ results K row) ++ (λ q. result K (row ++ x ∷ []) q) ∷ []))) (sym st.slots_are)

  -- the next command as the store reads it is the next command as the catalogue says
  pub own_is : own_command store_model K n s row bs ≡ next_command K n (slot_tests K many n (Fs ++ results K row) row) row bs
  own_is = by (checked K n (ended row) (kinds row) bs) refl
    where
      by : (v : Result (Command × ℕ) Refusal) → checked K n (ended row) (kinds row) bs ≡ v → own_command store_model K n s row bs ≡ next_command K n (slot_tests K many n (Fs ++ results K row) row) row bs
      by (Err e) p = next_err K n (own_tests (full s) K row) row bs e p ∙ sym (next_err K n (slot_tests K many n (Fs ++ results K row) row) row bs e p)
      by (Ok d) p =
          next_ok K n (own_tests (full s) K row) row bs d p
          ∙ same_test (is_end d.0) _ _ d (full_is d.0 (passed K n (ended row) (kinds row) bs d p).1)
          ∙ sym (next_ok K n (slot_tests K many n (Fs ++ results K row) row) row bs d p)

  -- an accepted command has passed its tests
  pub accepted : (d : Command × ℕ) → next_command K n (slot_tests K many n (Fs ++ results K row) row) row bs ≡ Ok d → Passed K (kinds row) d.0 × (undeclared n d.0 ≡ false) × (ended row ≡ false)
  accepted d e = by (checked K n (ended row) (kinds row) bs) refl
    where
      none : {B : Type 0} (e : Refusal) → ◌≡◌ {A = Result (Command × ℕ) Refusal} (Err e) (Ok d) → B
      none e p = let z : ◌≡◌ {A = ℕ} 0 1 = cc in absurd (omega arith)

      same_command : (b : Bool) (x : Command × ℕ) → first_of ((b, NoSlot) ∷ []) x ≡ Ok d → x ≡ d
      same_command true x p = none NoSlot p
      same_command false x p = cc

      by : (v : Result (Command × ℕ) Refusal) → checked K n (ended row) (kinds row) bs ≡ v → Passed K (kinds row) d.0 × (undeclared n d.0 ≡ false) × (ended row ≡ false)
      by (Err x) p = none x (sym (next_err K n (slot_tests K many n (Fs ++ results K row) row) row bs x p) ∙ e)
      by (Ok x) p =
          let q : x ≡ d = same_command _ x (sym (next_ok K n (slot_tests K many n (Fs ++ results K row) row) row bs x p) ∙ e) in
          passed K n (ended row) (kinds row) bs d (p ∙ ap (λ y. Ok y) q)

  -- what the store records after it
  pub storing_more : (t : Store) (d : Command × ℕ) → next_command K n (slot_tests K many n (Fs ++ results K row) row) row bs ≡ Ok d → Moved store_model K row s t (Ok d) → Storing t many n (Fs ++ results K (row ++ d.0 ∷ []))
  storing_more t d e m =
      let a = accepted d e in
      let x = d.0 in
      subst (Storing t many n) (sym (ap (λ Hs. Fs ++ Hs) (results_more K row x))) (subst (Storing t many n) (append_assoc Fs (results K row) ((λ q. result K (row ++ x ∷ []) q) ∷ [])) (by (is_end x) refl a))
    where
      F : ℕ → ℕ
      F = λ q. result K (row ++ d.0 ∷ []) q

      at : (b : Bool) → is_end d.0 ≡ b → Moves store_model b s F t
      at b p = subst (λ v. Moves store_model v s F t) p m

      by : (b : Bool) → is_end d.0 ≡ b → Passed K (kinds row) d.0 × (undeclared n d.0 ≡ false) × (ended row ≡ false) → Storing t many n ((Fs ++ results K row) ++ F ∷ [])
      by false p a = record {
        slots_are = st.slots_are ∙ sym (at false p).later.slots;
        recorded = (at false p).recorded (Fs ++ results K row) st.recorded;
        keeps = keeps_more d.0 a.1;
      }
      by true p a = record {
        slots_are = st.slots_are ∙ sym (at true p).slots;
        recorded = recorded_again t (held t) (Fs ++ results K row) F
            (some_right (λ G. Same 32 F G) Fs (results K row) (subst (λ (H : ℕ → ℕ). Exists (λ G. Same 32 H G) (results K row)) (sym (fun_ext (λ q. end_result K row d.0 p q))) (last_result K 32 row (a.0.alone p))))
            (subst (λ k. Recorded t k (Fs ++ results K row)) (sym (ap length (at true p).nodes)) ((later_unchanged s t (at true p)).recorded (held s) (Fs ++ results K row) st.recorded));
        keeps = keeps_more d.0 a.1;
      }

  pub fed_next : (d : Command × ℕ) (t : Store) (su : Stack ℕ) → next_command K n (slot_tests K many n (Fs ++ results K row) row) row bs ≡ Ok d → Holds store_model K t su (row ++ d.0 ∷ []) → Fed K n (row ++ d.0 ∷ [])
  fed_next d t su e h = let a = accepted d e in fed_more K n row d.0 a.1 a.2 h.sound f
