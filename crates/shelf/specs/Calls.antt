-- What each call answers at a catalogue, refusals in the order in which they are checked, and the catalogue after it.
use Rattle.std.specs.Prelude.{◌≡◌, ℕ, ◌%◌, ◌^◌, true, cond, not, ◌&&◌, List, [], ◌∷◌, ◌++◌, length, is_some, Some, None, Ok, Err, Option, Result, nat_le, nat_lt}
use Rattle.effects.specs.Codes.{Codes, QuestionCodes}
use Rattle.probing.specs.Kinds.{text}
use Rattle.probing.specs.Table.{number_of}
use Rattle.probing.specs.declared.name.Name.{Name}
use Rattle.tape.specs.Entries.{own_tests}
use Rattle.tape.specs.Tape.{Row, Tests, first_of, opening as at_opening, next_command, bytes_taken, tape_from, result, ended}
use Rattle.tape.specs.declared.command.Command.{Command}
use Rattle.tape.specs.declared.refusal.Refusal.{Refusal}
use Rattle.tape.specs.declared.refusal.Refusal.TheVariants.{BadName, NamesFull, DraftOpen, AllFiled, NotOpenDraft, NotEnded, TapeTooLong, NoPolicy, NoQuestion, UndeclaredInRequest}
use Rattle.tape.specs.declared.refusal.RefusedAt.{RefusedAt}
use Rattle.diagram.specs.Cofactors.{count}
use Rattle.diagram.specs.Requests.{Witness}
use Rattle.shelf.specs.Names.{good_name, same_name}
use Rattle.shelf.specs.Catalogue.{Catalogue, facts, policies, not_read, not_kept, row_of, is_open, open_row, results, all_results, held, own_open, filed_as, naming, opening, feeding, filing, abandoning}
use Rattle.shelf.specs.declared.draft.DraftId.{DraftId}

-- the number of a declared name, if it is one
abbrev pub number_of_name : Catalogue → Name → Option ℕ
number_of_name c n = number_of same_name (text n) c.contents.names

-- the fact of a name, or the next fact number where it is new
abbrev pub fact_of : Option ℕ → ℕ → ℕ
fact_of (Some f) next = f
fact_of None next = next

-- declare: 10 for a bad name, 11 for a new one with no slot; else its fact
unfoldable pub declare_answer : Catalogue → Name → Result ℕ Refusal
declare_answer c n =
    first_of ((not (good_name n), BadName) ∷ (not (is_some (number_of_name c n)) && nat_le c.making.name_slots (facts c), NamesFull) ∷ []) (fact_of (number_of_name c n) (facts c))

-- find: the fact of a declared name, and none for any other, good or bad
unfoldable pub find_answer : Catalogue → Name → Option ℕ
find_answer c n = cond (good_name n) (number_of_name c n) None

-- opening a draft: 20 where one is open, 21 where 64 policies are filed
abbrev pub opening_tests : Catalogue → Tests
opening_tests c = (is_open c, DraftOpen) ∷ (nat_le 64 (policies c), AllFiled) ∷ []

-- open: the shelf's number, and how many drafts were given out before, modulo 2^32
unfoldable pub open_answer : Catalogue → Result DraftId Refusal
open_answer c = first_of (opening_tests c) (record { shelf = c.making.number; count = c.given % 2 ^ 32 })

-- the shelf's own last test of a command, after the results Fs over n facts: 39 where held with its result would be more than the slots
abbrev pub slot_tests : Codes → ℕ → ℕ → List (ℕ → ℕ) → Row → Command → Tests
slot_tests K slots n Fs row x = own_tests (λ F. nat_lt slots (count n (Fs ++ F ∷ []))) K row x

-- feed: 22 for another draft; else the next command, by the tape rules
unfoldable pub fed : Codes → Catalogue → DraftId → List ℕ → Result (Command × ℕ) Refusal
fed K c d bytes = cond (own_open c d) (next_command K (facts c) (slot_tests K c.making.slots (facts c) (all_results K c) (open_row c)) (open_row c) bytes) (Err NotOpenDraft)

-- how many bytes it took
unfoldable pub feed_answer : Codes → Catalogue → DraftId → List ℕ → Result ℕ Refusal
feed_answer K c d bytes = bytes_taken (fed K c d bytes)

-- file: 22 for another draft, 23 before END; else the policy's number
unfoldable pub file_answer : Catalogue → DraftId → Result ℕ Refusal
file_answer c d = first_of ((not (own_open c d), NotOpenDraft) ∷ (not (ended (open_row c)), NotEnded) ∷ []) (filed_as c (open_row c))

-- abandon: 22 for another draft
unfoldable pub abandon_answer : Catalogue → DraftId → Result (Unit {0}) Refusal
abandon_answer c d = first_of ((not (own_open c d), NotOpenDraft) ∷ []) tt

-- ask: 50 for no such policy, 52 for an undeclared fact; else the code of the effect there
unfoldable pub ask_answer : Codes → Catalogue → ℕ → ℕ → Result ℕ Refusal
ask_answer K c p r = first_of ((not_read c p, NoPolicy) ∷ (nat_le (2 ^ facts c) r, UndeclaredInRequest) ∷ []) (result K (row_of c p) r)

-- shape: 50 for no such policy; else the number that the shelf gives the policy's shape, which is its own choice
unfoldable pub shape_answer : (ℕ → ℕ) → Catalogue → ℕ → Result ℕ Refusal
shape_answer number c p = first_of ((not_kept c p, NoPolicy) ∷ []) (number p)

-- what a comparison is refused for: 50 for no such first, 50 for no such second, 51 for no such question
abbrev pub compare_tests : QuestionCodes → Catalogue → ℕ → ℕ → ℕ → Tests
compare_tests Q c p q k = (not_read c p, NoPolicy) ∷ (not_read c q, NoPolicy) ∷ (nat_le Q.questions k, NoQuestion) ∷ []

-- the request r breaks question k of policies p and q
abbrev pub BreaksAt : Codes → QuestionCodes → Catalogue → ℕ → ℕ → ℕ → ℕ → Type 0
BreaksAt K Q c p q k r = Q.breaks k (result K (row_of c p) r) (result K (row_of c q) r) ≡ true

-- refused for the first test that holds, or an answer o of which P holds
abbrev pub Outcome : Result (Unit {0}) Refusal → (Option ℕ → Type 0) → Result (Option ℕ) Refusal → Type 0
Outcome (Err e) P a = a ≡ Err e
Outcome (Ok _) P a = (o : Option ℕ) × ((a ≡ Ok o) × P o)

-- compare: refused; else the first request over the declared facts that breaks the question, or none where none does
abbrev pub Compares : Codes → QuestionCodes → Catalogue → ℕ → ℕ → ℕ → Result (Option ℕ) Refusal → Type 0
Compares K Q c p q k a = Outcome (first_of (compare_tests Q c p q k) tt) (Witness (facts c) (BreaksAt K Q c p q k)) a

-- load: 40, 20 and 21 at place 0, then the commands and 41 at their places; a tape's commands as a row
unfoldable pub loaded : Codes → Catalogue → List ℕ → Result Row RefusedAt
loaded K c tape =
    at_opening ((nat_lt 65535 (length tape), TapeTooLong) ∷ opening_tests c)
    (tape_from (length tape) K (facts c) (λ row x. slot_tests K c.making.slots (facts c) (all_results K c ++ results K row) row x) [] 0 tape)

-- the policy's number together with held
abbrev pub load_told : Codes → Catalogue → Result Row RefusedAt → Result (ℕ × ℕ) RefusedAt
load_told K c (Ok row) = Ok (filed_as c row, held K (filing c row))
load_told K c (Err e) = Err e

unfoldable pub load_answer : Codes → Catalogue → List ℕ → Result (ℕ × ℕ) RefusedAt
load_answer K c tape = load_told K c (loaded K c tape)

-- the catalogue after each call: what is refused leaves it alone
unfoldable pub after_declare : Catalogue → Name → Catalogue
after_declare c n = elim (declare_answer c n) [ Err _ ↦ c | Ok _ ↦ cond (is_some (number_of_name c n)) c (naming c (text n)) ]

unfoldable pub after_open : Catalogue → Catalogue
after_open c = elim (open_answer c) [ Err _ ↦ c | Ok _ ↦ opening c ]

unfoldable pub after_feed : Codes → Catalogue → DraftId → List ℕ → Catalogue
after_feed K c d bytes = elim (fed K c d bytes) [ Err _ ↦ c | Ok x ↦ feeding c x.0 ]

unfoldable pub after_file : Catalogue → DraftId → Catalogue
after_file c d = elim (file_answer c d) [ Err _ ↦ c | Ok _ ↦ filing c (open_row c) ]

unfoldable pub after_abandon : Catalogue → DraftId → Catalogue
after_abandon c d = elim (abandon_answer c d) [ Err _ ↦ c | Ok _ ↦ abandoning c ]

unfoldable pub after_load : Codes → Catalogue → List ℕ → Catalogue
after_load K c tape = elim (loaded K c tape) [ Err _ ↦ c | Ok row ↦ filing c row ]
