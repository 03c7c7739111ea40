-- What a job prints.
use Rattle.std.specs.Prelude.{◌≡◌, ℕ, List, ◌++◌, Option}
use Rattle.std.specs.Option.{option_to_list}
use Rattle.effects.specs.Four.{four, four_questions}
use Rattle.shelf.specs.declared.exchange.Call.{Call}
use Rattle.shelf.specs.declared.exchange.Answer.{Answer}
use Rattle.jobs.specs.Parsing.{Taken}
use Rattle.shelf.specs.Law.{Lawful}
use Rattle.jobs.specs.Lines.{lines_of, bad_line}
use Rattle.jobs.specs.declared.line.Line.{Line}

-- answers to calls on a new shelf of the four effects, with number 0, 2,048 slots and 32 name slots
abbrev pub Answers : List Call → List Answer → Type 0
Answers calls answers = Lawful four four_questions 0 2048 32 calls answers

-- the lines of a job: there are answers to its calls, as the shelf's law has them, and the lines are theirs; last comes the line of the refusal, where the job is refused
pub record Collated (job : List ℕ) (lines : List Line) : Type 0 where
  pub calls : List Call
  pub bad : Option ℕ
  pub answers : List Answer
  pub taken : Taken job calls bad
  pub law : Answers calls answers
  pub told : lines ≡ lines_of answers ++ option_to_list (bad_line bad)
