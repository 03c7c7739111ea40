-- What a shelf stands at: the names, and how each change of its parts is a change of the catalogue.
use Rattle.std.proofs.Common.{◌≡◌, ℕ, ◌+◌, ◌%◌, ◌^◌, ◌<◌, ◌≤◌, Bool, true, false, cond, List, [], ◌∷◌, ◌++◌, map, length, get_or, Some, None, is_some, Option, sym, refl, ap, ◌∙◌, subst, ⊎_elim, append-nil, arith, length-append, length-take, length-take-le}
use lib.ListN.{length-map}
use Rattle.std.proofs.lemmas.List.{flat_map_more, length_push, get_or_append_left, get_or_push, map-append}
use Rattle.std.proofs.lemmas.Bool.{cases_lt, true≢false}
use Rattle.std.specs.List.{flat_map}
use Rattle.effects.specs.Codes.{Codes, QuestionCodes}
use Rattle.effects.specs.declared.tables.EffectTables.{EffectTables}
use Rattle.effects.specs.declared.tables.QuestionTables.{QuestionTables}
use Rattle.probing.specs.Kinds.{text, name_same}
use Rattle.probing.specs.Model.{NameTable, keys, kept, room}
use Rattle.probing.specs.Table.{number_from}
use Rattle.probing.specs.declared.Slot.{Slot}
use Rattle.probing.specs.declared.name.Name.{Name}
use Rattle.tape.specs.Entries.{Holds, entries_on}
use Rattle.tape.specs.Tape.{Row, result, ended}
use Rattle.tape.specs.declared.command.Command.{Command}
use Rattle.tape.specs.declared.stack.Stack.{Stack}
use Rattle.tape.proofs.Reading.{holds_empty}
use Rattle.tape.proofs.Stepping.{held_at}
use Rattle.diagram.specs.Counted.{Each, Ignores}
use Rattle.diagram.specs.Entries.{store_model}
use Rattle.diagram.specs.Lasting.{means_later, each_weaker}
use Rattle.diagram.specs.Stores.{nodes, held as held_by, Recorded, Means, Later, Unchanged, Back}
use Rattle.diagram.specs.declared.store.Store.{Store}
use Rattle.diagram.proofs.CountLaws.{ignores_more}
use Rattle.diagram.proofs.Recording.{later_unchanged, recorded_facts}
use Rattle.shelf.specs.Names.{Spelling, same_name}
use Rattle.shelf.specs.Catalogue.{Catalogue, Filed, no_policy, facts, is_open, open_row, results, held_results, filed_results, all_results, held, naming, opening, feeding, filing, abandoning}
use Rattle.shelf.specs.States.{opened_state, filed_state, closed_state}
use Rattle.shelf.specs.Upholds.{Storing, Filing, Fed, Upholds}
use Rattle.shelf.specs.declared.state.State.{State}
use Rattle.shelf.proofs.Rows.{results_none, fed_none, fed_facts}

-- the number of a name among the declared ones is its number in the table
pub number_is : (n : Name) (k : ℕ) (ks : List Name) → number_from same_name (text n) k (map text ks) ≡ number_from name_same n k ks
number_is n k [] = refl
number_is n k (x ∷ ks) = ap (cond (name_same x n) (Some k)) (number_is n (k + 1) ks)

-- and it is below their number
pub number_below : {A : Type 0} (same : A → A → Bool) (x : A) (k : ℕ) (ks : List A) (i : ℕ) → number_from same x k ks ≡ Some i → i < k + length ks
number_below same x k [] i e = let z : ◌≡◌ {A = ℕ} 0 1 = cc in absurd (omega arith)
number_below same x k (y ∷ ks) i e = by (same y x) e (number_below same x (k + 1) ks i)
  where
    by : (b : Bool) → cond b (Some k) (number_from same x (k + 1) ks) ≡ Some i → (number_from same x (k + 1) ks ≡ Some i → i < k + 1 + length ks) → i < k + length (y ∷ ks)
    by true e f = let z : k ≡ i = cc in omega arith
    by false e f = let z = f e in omega arith

-- there are no more names than slots
pub keys_room : (names : NameTable) → length (keys names) ≤ room names
keys_room names = omega (arith, length-take names.count (kept names), length-map names.slots.now (λ (x : Slot Name). x.key))

pub none_some : {b : ℕ} → ◌≡◌ {A = Option ℕ} None (Some b) → ⊥
none_some e = let z : ◌≡◌ {A = ℕ} 0 1 = cc in omega arith

-- lists of results
each_front : {A : Type 0} (P : A → Type 0) (xs ys : List A) → Each P (xs ++ ys) → Each P xs
each_front P [] ys e = tt
each_front P (x ∷ xs) ys e = (e.0, each_front P xs ys e.1)

pub closed_row : (c : Catalogue) → is_open c ≡ false → open_row c ≡ []
closed_row c e = by c.drafting e
  where
    by : (o : Option Row) → ◌≡◌ {A = Bool} (elim o [ None ↦ false | Some row ↦ true ]) false → ◌≡◌ {A = Row} (elim o [ None ↦ [] | Some row ↦ row ]) []
    by None e = refl
    by (Some row) e = absurd (true≢false e)

-- with no draft open, all results are those of the filed policies
pub filed_only : (K : Codes) (c : Catalogue) → open_row c ≡ [] → all_results K c ≡ filed_results K c
unfolding all_results
filed_only K c e = ap (λ row. filed_results K c ++ results K row) e ∙ ap (λ Fs. filed_results K c ++ Fs) (results_none K) ∙ append-nil (filed_results K c)

pub all_are : (K : Codes) (c : Catalogue) → all_results K c ≡ filed_results K c ++ results K (open_row c)
unfolding all_results
all_are K c = refl

-- one row filed
pub filed_more : (K : Codes) (c : Catalogue) (row : Row) → all_results K (filing c row) ≡ filed_results K c ++ results K row
unfolding all_results filed_results
filed_more K c row =
    ap (λ Fs. flat_map (held_results K) (c.contents.filed ++ (record { row = row }) ∷ []) ++ Fs) (results_none K)
    ∙ append-nil (flat_map (held_results K) (c.contents.filed ++ (record { row = row }) ∷ []))
    ∙ sym (flat_map_more (held_results K) [] c.contents.filed (record { row = row }))

pub feeding_are : (K : Codes) (c : Catalogue) (x : Command) → all_results K (feeding c x) ≡ filed_results K c ++ results K (open_row c ++ x ∷ [])
unfolding all_results filed_results
feeding_are K c x = refl

pub opening_are : (K : Codes) (c : Catalogue) → all_results K (opening c) ≡ filed_results K c
unfolding all_results filed_results
opening_are K c = ap (λ Fs. flat_map (held_results K) c.contents.filed ++ Fs) (results_none K) ∙ append-nil (flat_map (held_results K) c.contents.filed)

pub abandoning_are : (K : Codes) (c : Catalogue) → all_results K (abandoning c) ≡ filed_results K c
unfolding all_results filed_results
abandoning_are K c = ap (λ Fs. flat_map (held_results K) c.contents.filed ++ Fs) (results_none K) ∙ append-nil (flat_map (held_results K) c.contents.filed)

pub filed_opening : (K : Codes) (c : Catalogue) → filed_results K (opening c) ≡ filed_results K c
unfolding filed_results
filed_opening K c = refl

pub filed_feeding : (K : Codes) (c : Catalogue) (x : Command) → filed_results K (feeding c x) ≡ filed_results K c
unfolding filed_results
filed_feeding K c x = refl

-- what a policy and a store that came after it have to do with each other
filing_later : (K : Codes) (s t : Store) (roots : List ℕ) (filed : List Filed) → Later s t → Filing K s roots filed → Filing K t roots filed
filing_later K s t roots filed l f = record {
  are = f.are;
  few = f.few;
  roots_mean = λ p h. means_later s t _ _ l (f.roots_mean p h);
  effects_below = f.effects_below;
}

-- one policy more
pub filing_more : (K : Codes) (s : Store) (roots : List ℕ) (filed : List Filed) (row : Row) (root : ℕ) → length roots < 64 → Means s root (λ q. result K row q) → ((q : ℕ) → result K row q < K.count) → Filing K s roots filed → Filing K s (roots ++ root ∷ []) (filed ++ (record { row = row }) ∷ [])
filing_more K s roots filed row root room m below f = record {
  are = length_push filed (record { row = row }) ∙ ap (λ n. n + 1) f.are ∙ sym more;
  few = omega (arith, more);
  roots_mean = λ p h. each p h (λ r w. Means s r (λ q. result K w.row q)) (λ l. f.roots_mean p l) m;
  effects_below = λ p q h. each p h (λ r w. result K w.row q < K.count) (λ l. f.effects_below p q l) (below q);
}
  where
    more : length (roots ++ root ∷ []) ≡ length roots + 1
    more = length_push roots root

    each : (p : ℕ) → p < length (roots ++ root ∷ []) → (P : ℕ → Filed → Type 0) → (p < length roots → P (get_or roots p 0) (get_or filed p no_policy)) → P root (record { row = row }) → P (get_or (roots ++ root ∷ []) p 0) (get_or (filed ++ (record { row = row }) ∷ []) p no_policy)
    each p h P old new =
        ⊎_elim
        (λ l. subst (λ w. P (get_or (roots ++ root ∷ []) p 0) w) (sym (get_or_append_left filed ((record { row = row }) ∷ []) no_policy p (let a = f.are in omega arith))) (subst (λ r. P r (get_or filed p no_policy)) (sym (get_or_append_left roots (root ∷ []) 0 p l)) (old l)))
        (λ g. let e : p ≡ length roots = omega (arith, more) in
        subst (λ w. P (get_or (roots ++ root ∷ []) p 0) w) (sym (get_or_push filed (record { row = row }) no_policy p (let a = f.are in omega arith)))
        (subst (λ r. P r (record { row = row })) (sym (get_or_push roots root 0 p (sym e))) new))
        (cases_lt p (length roots))

module _ {K : Codes} {Q : QuestionCodes} {names : NameTable} {store : Store} {tables : EffectTables} {questions : QuestionTables} {stack : Stack ℕ} {state : State} {c : Catalogue} (u : Upholds K Q names store tables questions stack state c) where
  -- an equal state, and an equal catalogue
  pub in_state : {next : State} → next ≡ state → Upholds K Q names store tables questions stack next c
  in_state e = subst (λ (s : State). Upholds K Q names store tables questions stack s c) (sym e) u

  pub at_catalogue : {d : Catalogue} → d ≡ c → Upholds K Q names store tables questions stack state d
  at_catalogue e = subst (Upholds K Q names store tables questions stack state) (sym e) u

  -- the facts
  pub facts_are : facts c ≡ length (keys names)
  facts_are = ap length u.naming.are ∙ length-map (keys names) text

  pub few_facts : facts c ≤ 32
  few_facts = omega (arith, facts_are, u.naming.few, keys_room names)

  -- held
  pub held_is : held_by store ≡ held K c
  unfolding held
  held_is = recorded_facts store _ (facts c) (all_results K c) u.storing.recorded few_facts u.storing.keeps

  -- a name more
  pub declared : (names' : NameTable) (n : Name) → room names' ≡ room names → keys names' ≡ keys names ++ n ∷ [] → Upholds K Q names' store tables questions stack state (naming c (text n))
  unfolding all_results filed_results
  declared names' n r k =
      let more : facts c ≤ facts (naming c (text n)) = omega (arith, length-append c.contents.names (text n ∷ [])) in
      record {
        algebra = u.algebra;
        naming = record {
          few = subst (λ m. m ≤ 32) (sym r) u.naming.few;
          slots_are = u.naming.slots_are ∙ sym r;
          are = ap (λ (ts : List Spelling). ts ++ text n ∷ []) u.naming.are ∙ sym (map-append text (keys names) (n ∷ [])) ∙ ap (map text) (sym k);
        };
        storing = record {
          slots_are = u.storing.slots_are;
          recorded = u.storing.recorded;
          keeps = each_weaker (Ignores (facts c)) (Ignores (facts (naming c (text n)))) (λ F i. ignores_more _ _ F more i) _ u.storing.keeps;
        };
        filing = u.filing;
        number_is = u.number_is;
        given_is = u.given_is;
        drafting_is = u.drafting_is;
        drafting = λ b e.
            let d = u.drafting b e in
            record {
              holds = d.holds;
              fed = fed_facts K _ _ _ more d.fed;
              recorded_before = d.recorded_before;
              roots_before = d.roots_before;
              room = d.room;
              given = d.given;
            };
      }

  -- the same names in another table
  pub renamed : (names' : NameTable) → room names' ≡ room names → keys names' ≡ keys names → Upholds K Q names' store tables questions stack state c
  renamed names' r k = record {
    algebra = u.algebra;
    naming = record {
      few = subst (λ m. m ≤ 32) (sym r) u.naming.few;
      slots_are = u.naming.slots_are ∙ sym r;
      are = u.naming.are ∙ ap (map text) (sym k);
    };
    storing = u.storing;
    filing = u.filing;
    number_is = u.number_is;
    given_is = u.given_is;
    drafting_is = u.drafting_is;
    drafting = u.drafting;
  }

  -- a draft opened
  pub opened : (stack' : Stack ℕ) → stack'.outline.depth ≡ 0 → stack'.outline.ended ≡ false → is_some state.before ≡ false → length state.roots.items < 64 → Upholds K Q names store tables questions stack' (opened_state state (held_by store)) (opening c)
  opened stack' bare unended none room =
      let only : all_results K c ≡ filed_results K c = filed_only K c (closed_row c (u.drafting_is ∙ none)) in
      let st : Storing store c.making.slots (facts c) (filed_results K c) = subst (Storing store c.making.slots (facts c)) only u.storing in
      record {
        algebra = u.algebra;
        naming = u.naming;
        storing = subst (Storing store c.making.slots (facts c)) (sym (opening_are K c)) st;
        filing = u.filing;
        number_is = u.number_is;
        given_is = ap (λ n. (n + 1) % 2 ^ 32) u.given_is ∙ wrapped c.given;
        drafting_is = refl;
        drafting = λ b e. record {
          holds = holds_empty store_model K store stack' bare unended;
          fed = fed_none K (facts c);
          recorded_before = subst (λ n. Recorded store n (filed_results K (opening c))) (held_then b e) (subst (Recorded store (held_by store)) (sym (filed_opening K c)) st.recorded);
          roots_before = λ p h. subst (λ n. get_or state.roots.items p 0 < 16 + n) (held_then b e) (u.filing.roots_mean p h).within;
          room = room;
          given = omega arith;
        };
      }
    where
      held_then : (b : ℕ) → ◌≡◌ {A = Option ℕ} (Some (held_by store)) (Some b) → held_by store ≡ b
      held_then b e = cc

      wrapped : (n : ℕ) → (n % 2 ^ 32 + 1) % 2 ^ 32 ≡ (n + 1) % 2 ^ 32
      wrapped n = omega arith

  -- the draft's row filed
  pub filed : (root before : ℕ) → state.before ≡ Some before → stack.outline.ended ≡ true → root ≡ get_or (entries_on stack) 0 0 → Upholds K Q names store tables questions stack (filed_state state root) (filing c (open_row c))
  filed root before e over top =
      let d = u.drafting before e in
      record {
        algebra = u.algebra;
        naming = u.naming;
        storing = subst (Storing store c.making.slots (facts c)) (all_are K c ∙ sym (filed_more K c (open_row c))) u.storing;
        filing = filing_more K store state.roots.items c.contents.filed (open_row c) root d.room
            (held_at store_model K store stack (open_row c) 0 root 0 (record { within = omega arith; same = λ r h. refl }) d.holds top)
            (d.fed.finished (sym d.holds.over ∙ over)) u.filing;
        number_is = u.number_is;
        given_is = u.given_is;
        drafting_is = refl;
        drafting = λ b z. absurd (none_some z);
      }

  -- the draft's row dropped
  pub abandoned : (store' : Store) (before : ℕ) → state.before ≡ Some before → Back store before store' → Upholds K Q names store' tables questions stack (closed_state state) (abandoning c)
  abandoned store' before e b =
      let d = u.drafting before e in
      let many : held_by store' ≡ before = ap length b.nodes ∙ length-take-le before (nodes store) d.recorded_before.within in
      record {
        algebra = u.algebra;
        naming = u.naming;
        storing = subst (Storing store' c.making.slots (facts c)) (sym (abandoning_are K c)) (record {
          slots_are = u.storing.slots_are ∙ sym b.slots;
          recorded = subst (λ k. Recorded store' k (filed_results K c)) (sym many) (b.recorded before (filed_results K c) (omega arith) d.recorded_before);
          keeps = each_front (Ignores (facts c)) (filed_results K c) (results K (open_row c)) (subst (Each (Ignores (facts c))) (all_are K c) u.storing.keeps);
        });
        filing = record {
          are = u.filing.are;
          few = u.filing.few;
          roots_mean = λ p h.
              let w : get_or state.roots.items p 0 < 16 + held_by store' = omega (arith, d.roots_before p h, many) in
              record { within = w; same = λ q l. b.means (get_or state.roots.items p 0) w q ∙ (u.filing.roots_mean p h).same q l };
          effects_below = u.filing.effects_below;
        };
        number_is = u.number_is;
        given_is = u.given_is;
        drafting_is = refl;
        drafting = λ b z. absurd (none_some z);
      }

  -- the store and the stack as they were
  pub unmoved : (store' : Store) (stack' : Stack ℕ) → Unchanged store store' → ((before : ℕ) → state.before ≡ Some before → Holds store_model K store' stack' (open_row c)) → Upholds K Q names store' tables questions stack' state c
  unmoved store' stack' w h =
      let l = later_unchanged store store' w in
      record {
        algebra = u.algebra;
        naming = u.naming;
        storing = record {
          slots_are = u.storing.slots_are ∙ sym w.slots;
          recorded = subst (λ k. Recorded store' k (all_results K c)) (sym (ap length w.nodes)) (l.recorded (held_by store) (all_results K c) u.storing.recorded);
          keeps = u.storing.keeps;
        };
        filing = filing_later K store store' state.roots.items c.contents.filed l u.filing;
        number_is = u.number_is;
        given_is = u.given_is;
        drafting_is = u.drafting_is;
        drafting = λ b e.
            let d = u.drafting b e in
            record {
              holds = h b e;
              fed = d.fed;
              recorded_before = l.recorded b (filed_results K c) d.recorded_before;
              roots_before = d.roots_before;
              room = d.room;
              given = d.given;
            };
      }

  -- a command more
  pub fed : (store' : Store) (stack' : Stack ℕ) (x : Command) → Later store store' → is_some state.before ≡ true → Holds store_model K store' stack' (open_row c ++ x ∷ []) → Fed K (facts c) (open_row c ++ x ∷ []) → Storing store' c.making.slots (facts c) (filed_results K c ++ results K (open_row c ++ x ∷ [])) → Upholds K Q names store' tables questions stack' state (feeding c x)
  fed store' stack' x l e h f st =
      record {
        algebra = u.algebra;
        naming = u.naming;
        storing = subst (Storing store' c.making.slots (facts c)) (sym (feeding_are K c x)) st;
        filing = filing_later K store store' state.roots.items c.contents.filed l u.filing;
        number_is = u.number_is;
        given_is = u.given_is;
        drafting_is = sym e;
        drafting = λ b o.
            let d = u.drafting b o in
            record {
              holds = h;
              fed = f;
              recorded_before = subst (Recorded store' b) (sym (filed_feeding K c x)) (l.recorded b (filed_results K c) d.recorded_before);
              roots_before = d.roots_before;
              room = d.room;
              given = d.given;
            };
      }

  -- a row filed at once
  pub loaded : (store' : Store) (stack' : Stack ℕ) (row : Row) (root : ℕ) → Later store store' → is_some state.before ≡ false → length state.roots.items < 64 → Holds store_model K store' stack' row → Fed K (facts c) row → ended row ≡ true → Storing store' c.making.slots (facts c) (filed_results K c ++ results K row) → root ≡ get_or (entries_on stack') 0 0 → Upholds K Q names store' tables questions stack (filed_state state root) (filing c row)
  loaded store' stack' row root l none room h f over st top = record {
    algebra = u.algebra;
    naming = u.naming;
    storing = subst (Storing store' c.making.slots (facts c)) (sym (filed_more K c row)) st;
    filing = filing_more K store' state.roots.items c.contents.filed row root room
        (held_at store_model K store' stack' row 0 root 0 (record { within = omega arith; same = λ r h. refl }) h top)
        (f.finished over) (filing_later K store store' state.roots.items c.contents.filed l u.filing);
    number_is = u.number_is;
    given_is = u.given_is;
    drafting_is = refl;
    drafting = λ b z. absurd (none_some z);
  }
