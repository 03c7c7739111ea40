-- Answers that hold a draft.
use Rattle.std.specs.Prelude.{Ok, Err, Result}
use Rattle.tape.specs.declared.refusal.Refusal.{Refusal}
use Rattle.shelf.specs.declared.draft.Draft.{Draft}
use Rattle.shelf.specs.declared.draft.DraftId.{DraftId}

-- a draft that is given out, or the refusal
abbrev pub given_out : Result DraftId Refusal → Result Draft Refusal
given_out (Ok d) = Ok (record { id = d })
given_out (Err e) = Err e

-- the answer, with the draft handed back either way
abbrev pub handed_on : {A : Type 0} → Draft → Result A Refusal → Result (A × Draft) (Refusal × Draft)
handed_on d (Ok a) = Ok (a, d)
handed_on d (Err e) = Err (e, d)

-- the answer, with the draft handed back where it is a refusal
abbrev pub handed_back : {A : Type 0} → Draft → Result A Refusal → Result A (Refusal × Draft)
handed_back d (Ok a) = Ok a
handed_back d (Err e) = Err (e, d)
