-- Worked policies, with what they must answer: a list of statements about the definitions that the contracts cite.
use Rattle.std.specs.Prelude.{◌≡◌, ℕ, true, false, List, [], ◌∷◌, Ok}
use Rattle.effects.specs.Effects.{Effects}
use Rattle.effects.specs.Codes.{codes}
use Rattle.effects.specs.Four.{four}
use Rattle.effects.specs.Six.{six}
use Rattle.effects.specs.declared.four.FourEffect.TheVariants.{NotApplicable, Permit, Deny, Error}
use Rattle.effects.specs.declared.six.SixEffect.TheVariants.{NotApplicable as NotApplicable6, Permit as Permit6, IndeterminateD, IndeterminateP, IndeterminateDP}
use Rattle.tape.specs.Requests.{any, all}
use Rattle.tape.specs.Tape.{read_answer}

-- every statement of a list
abbrev pub Every : List (Type 0) → Type 0
Every [] = Unit {0}
Every (p ∷ ps) = p × Every ps

-- over the facts 0 student, 1 faculty and 2 assign, reading the tape at the request answers this effect
abbrev pub Answers : {E : Type 0} → Effects E → List ℕ → ℕ → E → Type 0
Answers M tape request effect = read_answer (codes M) 3 tape request ≡ Ok (M.code effect)

-- faculty is permitted
abbrev pub A : List ℕ
A = 0x10 ∷ 0x01 ∷ 0x01 ∷ 0x01 ∷ 0x11 ∷ 0x1F ∷ []

-- A, then students are denied, by deny-overrides
abbrev pub B : List ℕ
B = 0x10 ∷ 0x01 ∷ 0x01 ∷ 0x01 ∷ 0x11 ∷ 0x10 ∷ 0x02 ∷ 0x01 ∷ 0x00 ∷ 0x11 ∷ 0x13 ∷ 0x00 ∷ 0x1F ∷ []

-- students are denied, then faculty is permitted, by first-applicable
abbrev pub C : List ℕ
C = 0x10 ∷ 0x02 ∷ 0x01 ∷ 0x00 ∷ 0x11 ∷ 0x10 ∷ 0x01 ∷ 0x01 ∷ 0x01 ∷ 0x11 ∷ 0x13 ∷ 0x02 ∷ 0x1F ∷ []

-- B by only-one
abbrev pub D : List ℕ
D = 0x10 ∷ 0x01 ∷ 0x01 ∷ 0x01 ∷ 0x11 ∷ 0x10 ∷ 0x02 ∷ 0x01 ∷ 0x00 ∷ 0x11 ∷ 0x13 ∷ 0x03 ∷ 0x1F ∷ []

-- A, failed where assign is present
abbrev pub E : List ℕ
E = 0x10 ∷ 0x01 ∷ 0x01 ∷ 0x01 ∷ 0x11 ∷ 0x01 ∷ 0x02 ∷ 0x12 ∷ 0x1F ∷ []

-- requests as masks: {} 0, {student} 1, {faculty} 2, {student, faculty} 3, {assign} 4, {faculty, assign} 6
abbrev pub Holdings : List (Type 0)
Holdings =
    Answers four A 2 Permit
    ∷ Answers four A 0 NotApplicable
    ∷ Answers four B 3 Deny
    ∷ Answers four C 3 Deny
    ∷ Answers four C 2 Permit
    ∷ Answers four D 3 Error
    ∷ Answers four E 4 Error
    ∷ Answers six E 4 NotApplicable6
    ∷ Answers six E 6 IndeterminateP
    ∷ (six.combined 0 IndeterminateD Permit6 ≡ IndeterminateDP)
    ∷ (six.combined 0 IndeterminateP Permit6 ≡ Permit6)
    ∷ ((request : ℕ) → any 0 request ≡ false)
    ∷ ((request : ℕ) → all 0 request ≡ true)
    ∷ []
