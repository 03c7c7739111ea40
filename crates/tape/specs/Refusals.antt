-- The number of each refusal, and the layer that checks it.
use Rattle.std.specs.Prelude.{ℕ, List, ◌++◌, codes, decimal}
use Rattle.tape.specs.declared.refusal.Refusal.{Refusal}
use Rattle.tape.specs.declared.refusal.Refusal.TheVariants.{BadName, NamesFull, DraftOpen, AllFiled, NotOpenDraft, NotEnded, UnknownByte, CutOff, UndeclaredFact, NotStatable, NoCombiner, WrongEntry, StackFull, WrongEnd, AfterEnd, NoSlot, TapeTooLong, NoEnd, NoPolicy, NoQuestion, UndeclaredInRequest, TooManyFacts, BadJob}
use Rattle.tape.specs.declared.refusal.Layer.{Layer}
use Rattle.tape.specs.declared.refusal.Layer.TheVariants.{Name, Tape, Draft, Command, Slots, Question, Job}
use Rattle.tape.specs.declared.refusal.RefusedAt.{RefusedAt}

-- the number by which a refusal is told
abbrev pub number_of : Refusal → ℕ
number_of BadName = 10
number_of NamesFull = 11
number_of DraftOpen = 20
number_of AllFiled = 21
number_of NotOpenDraft = 22
number_of NotEnded = 23
number_of UnknownByte = 30
number_of CutOff = 31
number_of UndeclaredFact = 32
number_of NotStatable = 33
number_of NoCombiner = 34
number_of WrongEntry = 35
number_of StackFull = 36
number_of WrongEnd = 37
number_of AfterEnd = 38
number_of NoSlot = 39
number_of TapeTooLong = 40
number_of NoEnd = 41
number_of NoPolicy = 50
number_of NoQuestion = 51
number_of UndeclaredInRequest = 52
number_of TooManyFacts = 53
number_of BadJob = 60

-- the layer that checks it
abbrev pub layer_of : Refusal → Layer
layer_of BadName = Name
layer_of NamesFull = Name
layer_of DraftOpen = Draft
layer_of AllFiled = Draft
layer_of NotOpenDraft = Draft
layer_of NotEnded = Draft
layer_of UnknownByte = Command
layer_of CutOff = Command
layer_of UndeclaredFact = Command
layer_of NotStatable = Command
layer_of NoCombiner = Command
layer_of WrongEntry = Command
layer_of StackFull = Command
layer_of WrongEnd = Command
layer_of AfterEnd = Command
layer_of NoSlot = Slots
layer_of TapeTooLong = Tape
layer_of NoEnd = Tape
layer_of NoPolicy = Question
layer_of NoQuestion = Question
layer_of UndeclaredInRequest = Question
layer_of TooManyFacts = Question
layer_of BadJob = Job

-- a refusal at a byte place
abbrev pub at_place : Refusal → ℕ → RefusedAt
at_place e p = record { refusal = e; place = p }

-- what a refusal with its place prints as, in bytes
abbrev pub refused_text : RefusedAt → List ℕ
refused_text at = codes "R " ++ (decimal (number_of at.refusal) ++ (codes " " ++ decimal at.place))
