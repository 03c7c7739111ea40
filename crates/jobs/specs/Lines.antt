-- The lines that answers print as.
use Rattle.std.specs.Prelude.{ℕ, List, ◌++◌, Some, None, codes, decimal, Option}
use Rattle.std.specs.List.{filter_map}
use Rattle.std.specs.Option.{option_map}
use Rattle.tape.specs.Refusals.{number_of}
use Rattle.tape.specs.declared.refusal.Refusal.TheVariants.{BadJob}
use Rattle.shelf.specs.declared.exchange.Answer.{Answer}
use Rattle.shelf.specs.declared.exchange.Answer.TheVariants.{Fact, Unknown, Opened, Took, Filed, Abandoned, Loaded as LoadedAs, Code as CodeOf, Shaped, Kept as KeptAll, Witness as WitnessOf, Holding, Refused as RefusedFor, RefusedThere}
use Rattle.jobs.specs.declared.line.Line.{Line}
use Rattle.jobs.specs.declared.line.Line.TheVariants.{Declared, Loaded, Kept, Witness, Code, Refused}

-- the line of an answer; a refusal that has no place is told at place 0. The answers that no job command leads to have no line
abbrev pub line_of : Answer → Option Line
line_of (Fact fact) = Some (Declared fact)
line_of (LoadedAs policy held) = Some (Loaded policy held)
line_of KeptAll = Some Kept
line_of (WitnessOf request) = Some (Witness request)
line_of (CodeOf code) = Some (Code code)
line_of (RefusedFor refusal) = Some (Refused (number_of refusal) 0)
line_of (RefusedThere refused) = Some (Refused (number_of refused.refusal) refused.place)
line_of Unknown = None
line_of (Opened draft) = None
line_of (Took bytes) = None
line_of (Filed policy) = None
line_of Abandoned = None
line_of (Shaped shape) = None
line_of (Holding held) = None

-- the lines of answers, in their order
abbrev pub lines_of : List Answer → List Line
lines_of answers = filter_map line_of answers

-- the line of a job that is refused at a place
abbrev pub bad_line : Option ℕ → Option Line
bad_line bad = option_map (λ place. Refused (number_of BadJob) place) bad

-- what a line prints as, in bytes
abbrev pub printed : Line → List ℕ
printed (Declared fact) = codes "D " ++ decimal fact
printed (Loaded policy held) = codes "L " ++ (decimal policy ++ (codes " " ++ decimal held))
printed Kept = codes "C kept"
printed (Witness request) = codes "C " ++ decimal request
printed (Code code) = codes "A " ++ decimal code
printed (Refused number place) = codes "R " ++ (decimal number ++ (codes " " ++ decimal place))
