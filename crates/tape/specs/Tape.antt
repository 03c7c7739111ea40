-- Tapes: how bytes spell commands, and the rules, over what an entry is for the reader that runs them.
use Rattle.std.specs.Prelude.{ℕ, zero, suc, ◌+◌, ◌-◌, ◌*◌, ◌^◌, Bool, true, false, cond, not, ◌&&◌, ◌||◌, List, [], ◌∷◌, ◌++◌, length, drop, Ok, Err, Result, ◌==◌, nat_le, nat_lt, slice_index, slice_index_or}
use Rattle.effects.specs.Codes.{Codes}
use Rattle.effects.specs.Tables.{bit}
use Rattle.tape.specs.Refusals.{at_place}
use Rattle.tape.specs.Requests.{has, any, all}
use Rattle.tape.specs.declared.command.Command.{Command}
use Rattle.tape.specs.declared.command.Command.TheVariants.{Has, Any, All, Not, And, Or, State, Scope, Fail, Join, End}
use Rattle.tape.specs.declared.command.Kind.{Kind}
use Rattle.tape.specs.declared.command.Kind.TheVariants.{Condition, Policy}
use Rattle.tape.specs.declared.refusal.Refusal.{Refusal}
use Rattle.tape.specs.declared.refusal.Refusal.TheVariants.{UnknownByte, CutOff, UndeclaredFact, NotStatable, NoCombiner, WrongEntry, StackFull, WrongEnd, AfterEnd, TapeTooLong, NoEnd, UndeclaredInRequest, TooManyFacts}
use Rattle.tape.specs.declared.refusal.RefusedAt.{RefusedAt}

-- a row of commands, the first read first
abbrev pub Row : Type 0
Row = List Command

-- two kinds are one
abbrev pub same_kind : Kind → Kind → Bool
same_kind Condition Condition = true
same_kind Policy Policy = true
same_kind _ _ = false

-- the entries that a command takes, the top one first
abbrev pub takes : Command → List Kind
takes (Has f) = []
takes (Any m) = []
takes (All m) = []
takes Not = Condition ∷ []
takes And = Condition ∷ Condition ∷ []
takes Or = Condition ∷ Condition ∷ []
takes (State e) = []
takes Scope = Condition ∷ Policy ∷ []
takes Fail = Condition ∷ Policy ∷ []
takes (Join k) = Policy ∷ Policy ∷ []
takes End = Policy ∷ []

-- the entry that it leaves
abbrev pub leaves : Command → Kind
leaves (Has f) = Condition
leaves (Any m) = Condition
leaves (All m) = Condition
leaves Not = Condition
leaves And = Condition
leaves Or = Condition
leaves (State e) = Policy
leaves Scope = Policy
leaves Fail = Policy
leaves (Join k) = Policy
leaves End = Policy

-- what a reader makes of a command: its entry, from the top entry and the one under it
pub record Reader (V : Type 0) : Type 0 where
  pub none : V
  pub makes : Command → V → V → V

-- the stack that a row of commands leaves, the top first
abbrev pub stack : {V : Type 0} → Reader V → List V → Row → List V
stack R vs [] = vs
stack R vs (x ∷ xs) = stack R (R.makes x (slice_index_or vs 0 R.none) (slice_index_or vs 1 R.none) ∷ drop (length (takes x)) vs) xs

-- a reader of the kinds alone
abbrev pub of_kinds : Reader Kind
of_kinds = record { none = Condition; makes = λ x _ _. leaves x }

-- what a command makes at one request r: a condition means 1 or 0, and a policy an effect's code
abbrev pub means : Codes → ℕ → Command → ℕ → ℕ → ℕ
means K r (Has f) top under = bit (has f r)
means K r (Any m) top under = bit (any m r)
means K r (All m) top under = bit (all m r)
means K r Not top under = 1 - top
means K r And top under = bit (under == 1 && top == 1)
means K r Or top under = bit (under == 1 || top == 1)
means K r (State e) top under = e
means K r Scope top under = cond (top == 1) under K.not_applicable
means K r Fail top under = cond (top == 1) (K.failed under) under
means K r (Join k) top under = K.combined k under top
means K r End top under = top

-- a reader of codes at one request
abbrev pub at_request : Codes → ℕ → Reader ℕ
at_request K r = record { none = 0; makes = means K r }

-- the values of a row's entries at a request, the top first
unfoldable pub values : Codes → Row → ℕ → List ℕ
values K row r = stack (at_request K r) [] row

-- the result of a row's last command at a request; after END, the code of the policy's effect there
abbrev pub result : Codes → Row → ℕ → ℕ
result K row r = slice_index (values K row r) 0

-- the entries of a row, by kind, the top first
unfoldable pub kinds : Row → List Kind
kinds row = stack of_kinds [] row

-- the command is END
abbrev pub is_end : Command → Bool
is_end End = true
is_end _ = false

-- END is in the row
unfoldable pub ended : Row → Bool
ended [] = false
ended (x ∷ xs) = is_end x || ended xs

-- the answer r, but cut off where there are fewer than n bytes
abbrev pub long : {A : Type 0} → List ℕ → ℕ → Result A Refusal → Result A Refusal
long bs n r = cond (nat_lt (length bs) n) (Err CutOff) r

-- the operand of four bytes after the first, lowest byte first
abbrev pub word : List ℕ → ℕ
word bs = slice_index bs 1 + 256 * (slice_index bs 2 + 256 * (slice_index bs 3 + 256 * slice_index bs 4))

-- the command that the bytes begin with, and how many it takes
abbrev pub decoded : List ℕ → Result (Command × ℕ) Refusal
decoded bs =
    long bs 1
    (cond (slice_index bs 0 == 0x01) (long bs 2 (Ok (Has (slice_index bs 1), 2)))
    (cond (slice_index bs 0 == 0x02) (long bs 5 (Ok (Any (word bs), 5)))
    (cond (slice_index bs 0 == 0x03) (long bs 5 (Ok (All (word bs), 5)))
    (cond (slice_index bs 0 == 0x04) (Ok (Not, 1))
    (cond (slice_index bs 0 == 0x05) (Ok (And, 1))
    (cond (slice_index bs 0 == 0x06) (Ok (Or, 1))
    (cond (slice_index bs 0 == 0x10) (long bs 2 (Ok (State (slice_index bs 1), 2)))
    (cond (slice_index bs 0 == 0x11) (Ok (Scope, 1))
    (cond (slice_index bs 0 == 0x12) (Ok (Fail, 1))
    (cond (slice_index bs 0 == 0x13) (long bs 2 (Ok (Join (slice_index bs 1), 2)))
    (cond (slice_index bs 0 == 0x1F) (Ok (End, 1))
    (Err UnknownByte))))))))))))

-- the entries that a command takes are there, of their kinds
abbrev pub fits : List Kind → List Kind → Bool
fits [] ks = true
fits (w ∷ ws) [] = false
fits (w ∷ ws) (k ∷ ks) = same_kind w k && fits ws ks

-- a fact in the operand that is not among the first n
abbrev pub undeclared : ℕ → Command → Bool
undeclared n (Has f) = nat_le n f
undeclared n (Any m) = nat_le (2 ^ n) m
undeclared n (All m) = nat_le (2 ^ n) m
undeclared n _ = false

-- an effect in the operand that may not be stated
abbrev pub unstatable : Codes → Command → Bool
unstatable K (State e) = nat_le K.count e || not (K.statable e)
unstatable K _ = false

-- a combiner in the operand that the algebra lacks
abbrev pub no_combiner : Codes → Command → Bool
no_combiner K (Join k) = nat_le K.combiners k
no_combiner K _ = false

-- tests, each with its refusal, in the order in which they are made
abbrev pub Tests : Type 0
Tests = List (Bool × Refusal)

-- the first test that holds is told, and a is the answer where none does
abbrev pub first_of : {A : Type 0} → Tests → A → Result A Refusal
first_of [] a = Ok a
first_of (t ∷ ts) a = cond t.0 (Err t.1) (first_of ts a)

-- what a command is refused for: its operand, over n facts
abbrev pub operand_tests : Codes → ℕ → Command → Tests
operand_tests K n x = (undeclared n x, UndeclaredFact) ∷ (unstatable K x, NotStatable) ∷ (no_combiner K x, NoCombiner) ∷ []

-- what a command is refused for: the entries that it finds, of kinds ks
abbrev pub stack_tests : List Kind → Command → Tests
stack_tests ks x =
    (not (is_end x) && not (fits (takes x) ks), WrongEntry)
    ∷ (length (takes x) == 0 && nat_le 32 (length ks), StackFull)
    ∷ (is_end x && not (length ks == 1 && fits (takes x) ks), WrongEnd)
    ∷ []

-- the answer, unless an earlier test refuses
abbrev pub then : {A B : Type 0} → Result A Refusal → Result B Refusal → Result B Refusal
then (Ok a) b = b
then (Err e) b = Err e

-- the same, where the rest depends on what was answered
abbrev pub bind : {A B : Type 0} → Result A Refusal → (A → Result B Refusal) → Result B Refusal
bind (Ok a) b = b a
bind (Err e) b = Err e

-- the command at the start of the bytes, over n facts, after entries of kinds ks; nothing follows END
unfoldable pub checked : Codes → ℕ → Bool → List Kind → List ℕ → Result (Command × ℕ) Refusal
checked K n over ks bs =
    cond over (Err AfterEnd) (bind (decoded bs) (λ d. then (first_of (operand_tests K n d.0) (tt {0})) (then (first_of (stack_tests ks d.0) (tt {0})) (Ok d))))

-- the command at the start of the bytes, with the bytes that it takes; more are the reader's own tests, made last
unfoldable pub next_command : Codes → ℕ → (Command → Tests) → Row → List ℕ → Result (Command × ℕ) Refusal
next_command K n more row bs = bind (checked K n (ended row) (kinds row) bs) (λ d. first_of (more d.0) d)

-- the row after a command: a refusal leaves it alone
abbrev pub after : Row → Result (Command × ℕ) Refusal → Row
after row (Ok d) = row ++ d.0 ∷ []
after row (Err e) = row

-- how many bytes a command takes
abbrev pub bytes_taken : Result (Command × ℕ) Refusal → Result ℕ Refusal
bytes_taken (Ok d) = Ok d.1
bytes_taken (Err e) = Err e

-- a whole tape, from a row and a place on: the row, or the refusal with its place. Every command takes a byte, so a tape's
-- length is fuel enough
unfoldable pub tape_from : ℕ → Codes → ℕ → (Row → Command → Tests) → Row → ℕ → List ℕ → Result Row RefusedAt
tape_from fuel K n more row place [] = cond (ended row) (Ok row) (Err (at_place NoEnd place))
tape_from zero K n more row place (b ∷ bs) = Err (at_place NoEnd place)
tape_from (suc fuel) K n more row place (b ∷ bs) =
    elim (next_command K n (more row) row (b ∷ bs)) [ Err e ↦ Err (at_place e place) | Ok d ↦ tape_from fuel K n more (row ++ d.0 ∷ []) (place + d.1) (drop d.1 (b ∷ bs)) ]

-- tests at place 0, and then the rest
abbrev pub opening : {A : Type 0} → Tests → Result A RefusedAt → Result A RefusedAt
opening [] a = a
opening (t ∷ ts) a = cond t.0 (Err (at_place t.1 0)) (opening ts a)

-- the effect's code that a row leaves at a request
abbrev pub told : Codes → ℕ → Result Row RefusedAt → Result ℕ RefusedAt
told K r (Ok row) = Ok (result K row r)
told K r (Err e) = Err e

-- a reader with no test of its own
abbrev pub no_tests : Row → Command → Tests
no_tests row x = []

-- what reading a tape at one request answers, over n facts: the code of its policy's effect there
unfoldable pub read_answer : Codes → ℕ → List ℕ → ℕ → Result ℕ RefusedAt
read_answer K n tape r =
    opening ((nat_lt 32 n, TooManyFacts) ∷ (nat_le (2 ^ n) r, UndeclaredInRequest) ∷ (nat_lt 65535 (length tape), TapeTooLong) ∷ [])
    (told K r (tape_from (length tape) K n no_tests [] 0 tape))
