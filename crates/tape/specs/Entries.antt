-- What an entry is for the reader that runs the rules.
use Rattle.std.specs.Prelude.{◌≡◌, ℕ, zero, suc, ◌+◌, ◌<◌, ◌≤◌, Bool, true, false, cond, not, ◌&&◌, ◌||◌, List, [], ◌∷◌, ◌++◌, length, take, drop, reverse, Ok, Err, Result, slice_index, slice_index_or}
use Rattle.effects.specs.Cells.{cell}
use Rattle.effects.specs.Codes.{Codes}
use Rattle.effects.specs.Tables.{bit, combiner_cells}
use Rattle.effects.specs.declared.tables.EffectTables.{EffectTables}
use Rattle.tape.specs.Refusals.{at_place}
use Rattle.tape.specs.Requests.{has, any, all}
use Rattle.tape.specs.Tape.{Row, kinds, values, ended, takes, leaves, is_end, Tests, result, next_command, after, bytes_taken}
use Rattle.tape.specs.declared.command.Command.{Command}
use Rattle.tape.specs.declared.command.Command.TheVariants.{Has, Any, All, Not, And, Or, State, Scope, Fail, Join, End}
use Rattle.tape.specs.declared.command.Kind.{Kind}
use Rattle.tape.specs.declared.command.Kind.TheVariants.{Condition, Policy}
use Rattle.tape.specs.declared.refusal.Refusal.{Refusal}
use Rattle.tape.specs.declared.refusal.Refusal.TheVariants.{NoSlot, NoEnd}
use Rattle.tape.specs.declared.refusal.RefusedAt.{RefusedAt}
use Rattle.tape.specs.declared.stack.Stack.{Stack}

-- what entries E mean in the states S of a reader
pub record Model (S E : Type 0) : Type 1 where
  -- in this state the entry has, at each request that the reader speaks for, the value of this function
  pub sense : S → E → (ℕ → ℕ) → Type 0
  -- in this state there is no slot for an entry of this meaning
  pub full : S → (ℕ → ℕ) → Bool
  -- the second state comes after the first: what was meant still is
  pub later : S → S → Type 0
  -- the second state is the first with an entry of this meaning made in it
  pub grows : S → (ℕ → ℕ) → S → Type 0
  -- the second state is as the first was
  pub stays : S → S → Type 0

-- what every reader owes
pub record Lasts {S E : Type 0} (M : Model S E) : Type 0 where
  pub still : (s : S) → M.stays s s
  -- a constant takes no slot
  pub constant : (s : S) (c : ℕ) → c < 16 → M.grows s (λ _. c) s
  pub free : (s : S) (c : ℕ) → c < 16 → M.full s (λ _. c) ≡ false
  pub same : (s : S) → M.later s s
  pub chain : (s t u : S) → M.later s t → M.later t u → M.later s u
  -- what an entry meant it means later too
  pub keeps : (s t : S) (e : E) (f : ℕ → ℕ) → M.later s t → M.sense s e f → M.sense t e f

-- how the state moves at a command that means f: END makes no entry
abbrev pub Moves : {S E : Type 0} → Model S E → Bool → S → (ℕ → ℕ) → S → Type 0
Moves M true s f t = M.stays s t
Moves M false s f t = M.grows s f t

-- an entry that means f; or there is no slot for it, and the state is as it was
abbrev pub Gives : {S E : Type 0} → Model S E → Bool → S → S → (ℕ → ℕ) → Result E Refusal → Type 0
Gives M end s t f (Ok e) = ((not end && M.full s f) ≡ false) × M.sense t e f × Moves M end s f t
Gives M end s t f (Err x) = ((not end && M.full s f) ≡ true) × (x ≡ NoSlot) × M.stays s t

-- the codes that the tables say, as far as the tests of a command look at them
abbrev pub of_tables : EffectTables → Codes
of_tables t = record {
  count = t.count;
  not_applicable = 0;
  statable = λ e. slice_index_or t.statable e false;
  failed = λ e. e;
  combiners = t.combiner_count;
  combined = λ k a b. cell (combiner_cells t k) a b;
}

-- what the tables make of a command, at a request
abbrev pub tabled : EffectTables → ℕ → Command → ℕ → ℕ → ℕ
tabled t r (Has f) top under = bit (has f r)
tabled t r (Any m) top under = bit (any m r)
tabled t r (All m) top under = bit (all m r)
tabled t r Not top under = cell t.negation.cells top top
tabled t r And top under = cell t.both.cells under top
tabled t r Or top under = cell t.either.cells under top
tabled t r (State e) top under = e
tabled t r Scope top under = cell t.scope.cells under top
tabled t r Fail top under = cell t.fail.cells under top
tabled t r (Join k) top under = cell (combiner_cells t k) under top
tabled t r End top under = top

-- the entry of a command, from the top entry and the one under it
abbrev pub Makes : {S E : Type 0} → Model S E → EffectTables → S → E → E → S → Result E Refusal → Command → Type 0
Makes M tables s top under t r x =
    (f g : ℕ → ℕ) → M.sense s top f → M.sense s under g → Gives M (is_end x) s t (λ q. tabled tables q x (f q) (g q)) r

-- the first d of an array, the last of them first
abbrev pub top_first : {A : Type 0} → List A → ℕ → List A
top_first xs d = reverse (take d xs)

-- the kinds of what is on a stack, the top first
abbrev pub kinds_on : {E : Type 0} → Stack E → List Kind
kinds_on st = top_first st.outline.kinds st.outline.depth

-- the entries, the top first
abbrev pub entries_on : {E : Type 0} → Stack E → List E
entries_on st = top_first st.entries st.outline.depth

-- entries that mean these values at each request, the top first
abbrev pub Meant : {S E : Type 0} → Model S E → S → List E → (ℕ → List ℕ) → Type 0
Meant M s [] F = (q : ℕ) → F q ≡ []
Meant M s (e ∷ es) F = M.sense s e (λ q. slice_index (F q) 0) × Meant M s es (λ q. drop 1 (F q))

-- a command whose operand is within its limit: 32 facts, 16 codes, 4 combiners
abbrev pub Within : Command → Type 0
Within (Has f) = f < 32
Within (State e) = e < 16
Within (Join k) = k < 4
Within _ = Unit {0}

-- there is room for a command: what it takes is there, and what it leaves fits
pub record Room (x : Command) (depth : ℕ) : Type 0 where
  pub there : length (takes x) ≤ depth
  pub fits : depth + 1 ≤ 32 + length (takes x)

-- a command's entry put on the stack
pub record Put {E : Type 0} (x : Command) (e : E) (s t : Stack E) : Type 0 where
  pub kinds : kinds_on t ≡ leaves x ∷ drop (length (takes x)) (kinds_on s)
  pub entries : entries_on t ≡ e ∷ drop (length (takes x)) (entries_on s)
  pub ended : t.outline.ended ≡ (is_end x || s.outline.ended)

-- a value that fits its entry's kind: a condition is 0 or 1, and a policy a code below the count
abbrev pub Fit : Codes → Kind → ℕ → Type 0
Fit K Condition v = v ≤ 1
Fit K Policy v = v < K.count

-- values that fit their entries' kinds, one by one
abbrev pub Sound : Codes → List Kind → List ℕ → Type 0
Sound K [] [] = Unit {0}
Sound K [] (v ∷ vs) = ⊥
Sound K (k ∷ ks) [] = ⊥
Sound K (k ∷ ks) (v ∷ vs) = Fit K k v × Sound K ks vs

-- a reader in state s with this stack has read the row
pub record Holds {S E : Type 0} (M : Model S E) (K : Codes) (s : S) (st : Stack E) (row : Row) : Type 0 where
  pub standing : kinds_on st ≡ kinds row
  pub over : st.outline.ended ≡ ended row
  pub meant : Meant M s (entries_on st) (values K row)
  pub sound : (q : ℕ) → Sound K (kinds row) (values K row q)

-- the reader's own test: it is full for the command's result
abbrev pub own_tests : ((ℕ → ℕ) → Bool) → Codes → Row → Command → Tests
own_tests full K row x = (not (is_end x) && full (λ q. result K (row ++ x ∷ []) q), NoSlot) ∷ []

-- how the reader's state moves at a command: a refusal leaves it as it was
abbrev pub Moved : {S E : Type 0} → Model S E → Codes → Row → S → S → Result (Command × ℕ) Refusal → Type 0
Moved M K row s t (Ok d) = Moves M (is_end d.0) s (λ q. result K (row ++ d.0 ∷ []) q) t
Moved M K row s t (Err e) = M.stays s t

-- the next command as this reader reads it
abbrev pub own_command : {S E : Type 0} → Model S E → Codes → ℕ → S → Row → List ℕ → Result (Command × ℕ) Refusal
own_command M K n s row bs = next_command K n (own_tests (M.full s) K row) row bs

-- one command read, over n facts: the answer, and what the reader has read then
pub record Stepped {S E : Type 0} (M : Model S E) (K : Codes) (n : ℕ) (row : Row) (bs : List ℕ) (s t : S) (st : Stack E) (r : Result ℕ Refusal) : Type 0 where
  pub moved : Moved M K row s t (own_command M K n s row bs)
  pub answer : r ≡ bytes_taken (own_command M K n s row bs)
  pub holds : Holds M K t st (after row (own_command M K n s row bs))

-- a whole tape read command by command, from a row and a place on: what the reader does at the next command, as long as one
-- is accepted, or its refusal, or the end. Every command takes a byte, so a tape's length is fuel enough
abbrev pub Reads : {S E : Type 0} → Model S E → Codes → ℕ → ℕ → Row → ℕ → List ℕ → S → S → Stack E → Result (Unit {0}) RefusedAt → Type 0
Reads M K n fuel row place [] s t st r = (s ≡ t) × Holds M K t st row × (r ≡ cond (ended row) (Ok tt) (Err (at_place NoEnd place)))
Reads M K n zero row place (b ∷ bs) s t st r = ⊥
Reads {S} {E} M K n (suc fuel) row place (b ∷ bs) s t st r =
    elim (own_command M K n s row (b ∷ bs)) [
      | Err e ↦ M.stays s t × Holds M K t st row × (r ≡ Err (at_place e place))
      | Ok d ↦ (u : S) × (su : Stack E) × Moves M (is_end d.0) s (λ q. result K (row ++ d.0 ∷ []) q) u × Holds M K u su (row ++ d.0 ∷ [])
          × Reads M K n fuel (row ++ d.0 ∷ []) (place + d.1) (drop d.1 (b ∷ bs)) u t st r
    ]
