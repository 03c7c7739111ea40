-- Worked policies, with what they must answer: a list of statements about the definitions that the contracts cite.
use Rattle.std.specs.Prelude.{◌≡◌, ℕ, true, false, List, [], ◌∷◌, Some, None, Ok, Option}
use Rattle.effects.specs.Effects.{Effects}
use Rattle.effects.specs.Codes.{Codes, codes, question_codes}
use Rattle.effects.specs.Four.{four, four_questions}
use Rattle.effects.specs.Six.{six}
use Rattle.effects.specs.declared.four.FourEffect.TheVariants.{NotApplicable, Permit, Deny, Error}
use Rattle.effects.specs.declared.six.SixEffect.TheVariants.{NotApplicable as NotApplicable6, Permit as Permit6, IndeterminateD, IndeterminateP, IndeterminateDP}
use Rattle.tape.specs.Requests.{any, all}
use Rattle.tape.specs.Tape.{read_answer}
use Rattle.probing.specs.declared.name.Name.{Name}
use Rattle.shelf.specs.Catalogue.{Catalogue, at_making}
use Rattle.shelf.specs.Calls.{load_answer, Compares, after_declare, after_load}
use Rattle.shelf.specs.Law.{Alike}

-- every statement of a list
abbrev pub Every : List (Type 0) → Type 0
Every [] = Unit {0}
Every (p ∷ ps) = p × Every ps

-- over the facts 0 student, 1 faculty and 2 assign, reading the tape at the request answers this effect
abbrev pub Answers : {E : Type 0} → Effects E → List ℕ → ℕ → E → Type 0
Answers M tape request effect = read_answer (codes M) 3 tape request ≡ Ok (M.code effect)

-- faculty is permitted
abbrev pub A : List ℕ
A = 0x10 ∷ 0x01 ∷ 0x01 ∷ 0x01 ∷ 0x11 ∷ 0x1F ∷ []

-- A, then students are denied, by deny-overrides
abbrev pub B : List ℕ
B = 0x10 ∷ 0x01 ∷ 0x01 ∷ 0x01 ∷ 0x11 ∷ 0x10 ∷ 0x02 ∷ 0x01 ∷ 0x00 ∷ 0x11 ∷ 0x13 ∷ 0x00 ∷ 0x1F ∷ []

-- students are denied, then faculty is permitted, by first-applicable
abbrev pub C : List ℕ
C = 0x10 ∷ 0x02 ∷ 0x01 ∷ 0x00 ∷ 0x11 ∷ 0x10 ∷ 0x01 ∷ 0x01 ∷ 0x01 ∷ 0x11 ∷ 0x13 ∷ 0x02 ∷ 0x1F ∷ []

-- B by only-one
abbrev pub D : List ℕ
D = 0x10 ∷ 0x01 ∷ 0x01 ∷ 0x01 ∷ 0x11 ∷ 0x10 ∷ 0x02 ∷ 0x01 ∷ 0x00 ∷ 0x11 ∷ 0x13 ∷ 0x03 ∷ 0x1F ∷ []

-- A, failed where assign is present
abbrev pub E : List ℕ
E = 0x10 ∷ 0x01 ∷ 0x01 ∷ 0x01 ∷ 0x11 ∷ 0x01 ∷ 0x02 ∷ 0x12 ∷ 0x1F ∷ []

-- the names of the three facts
abbrev pub student : Name
student = record { len = 7; bytes = 0x73 ∷ 0x74 ∷ 0x75 ∷ 0x64 ∷ 0x65 ∷ 0x6E ∷ 0x74 ∷ 0 ∷ 0 ∷ 0 ∷ 0 ∷ 0 ∷ 0 ∷ 0 ∷ 0 ∷ 0 ∷ [] }

abbrev pub faculty : Name
faculty = record { len = 7; bytes = 0x66 ∷ 0x61 ∷ 0x63 ∷ 0x75 ∷ 0x6C ∷ 0x74 ∷ 0x79 ∷ 0 ∷ 0 ∷ 0 ∷ 0 ∷ 0 ∷ 0 ∷ 0 ∷ 0 ∷ 0 ∷ [] }

abbrev pub assign : Name
assign = record { len = 6; bytes = 0x61 ∷ 0x73 ∷ 0x73 ∷ 0x69 ∷ 0x67 ∷ 0x6E ∷ 0 ∷ 0 ∷ 0 ∷ 0 ∷ 0 ∷ 0 ∷ 0 ∷ 0 ∷ 0 ∷ 0 ∷ [] }

-- the four-effect algebra, by its codes
abbrev pub K : Codes
K = codes four

-- the catalogue of a shelf of 2,048 slots on which they were declared, and on which A, then B, then C, then D were loaded
abbrev pub of_facts : Catalogue
of_facts = after_declare (after_declare (after_declare (at_making 0 2048 32) student) faculty) assign

abbrev pub with_A : Catalogue
with_A = after_load K of_facts A

abbrev pub with_B : Catalogue
with_B = after_load K with_A B

abbrev pub with_C : Catalogue
with_C = after_load K with_B C

abbrev pub with_D : Catalogue
with_D = after_load K with_C D

-- on the last one, comparing a first with a second by a question answers this
abbrev pub Compared : ℕ → ℕ → ℕ → Option ℕ → Type 0
Compared first second question answer = Compares K (question_codes four four_questions) with_D first second question (Ok answer)

-- requests as masks: {} 0, {student} 1, {faculty} 2, {student, faculty} 3, {assign} 4, {faculty, assign} 6
abbrev pub Holdings : List (Type 0)
Holdings =
    Answers four A 2 Permit
    ∷ Answers four A 0 NotApplicable
    ∷ Answers four B 3 Deny
    ∷ Answers four C 3 Deny
    ∷ Answers four C 2 Permit
    ∷ Answers four D 3 Error
    ∷ Answers four E 4 Error
    ∷ Answers six E 4 NotApplicable6
    ∷ Answers six E 6 IndeterminateP
    ∷ (six.combined 0 IndeterminateD Permit6 ≡ IndeterminateDP)
    ∷ (six.combined 0 IndeterminateP Permit6 ≡ Permit6)
    ∷ ((request : ℕ) → any 0 request ≡ false)
    ∷ ((request : ℕ) → all 0 request ≡ true)
    -- the policy's number and what is held then
    ∷ (load_answer K of_facts A ≡ Ok (0, 1))
    ∷ (load_answer K with_A B ≡ Ok (1, 4))
    ∷ (load_answer K with_B C ≡ Ok (2, 4))
    ∷ (load_answer K with_C D ≡ Ok (3, 6))
    -- C has B's shape
    ∷ Alike four four_questions with_D 1 2
    -- A against B, and B against A
    ∷ Compared 0 1 0 (Some 1)
    ∷ Compared 0 1 1 (Some 3)
    ∷ Compared 0 1 3 None
    ∷ Compared 1 0 2 (Some 1)
    ∷ []
