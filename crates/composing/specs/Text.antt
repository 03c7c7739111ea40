-- What a whole text composes to.
use Rattle.std.specs.Prelude.{◌≡◌, ℕ, ◌+◌, List, [], ◌∷◌, ◌++◌, Some, None, Ok, Err, Option, Result}
use Rattle.composing.specs.Pieces.{lines_of, words_of}
use Rattle.composing.specs.Commands.{command_of}
use Rattle.composing.specs.declared.error.ComposeError.{ComposeError}
use Rattle.composing.specs.declared.error.ComposeError.TheVariants.{Unreadable, OutOfMemory}

-- bytes in front of a job, where there is one
abbrev pub in_front : List ℕ → Result (List ℕ) ℕ → Result (List ℕ) ℕ
in_front bytes (Ok job) = Ok (bytes ++ job)
in_front bytes (Err n) = Err n

-- a line in front of what the lines after it compose to; one that cannot be read is told by its number
abbrev pub line_then : ℕ → Option (List ℕ) → Result (List ℕ) ℕ → Result (List ℕ) ℕ
line_then n None rest = Err n
line_then n (Some bytes) rest = in_front bytes rest

-- lines as a job, the first of them of this number
abbrev pub job_of : ℕ → List (List ℕ) → Result (List ℕ) ℕ
job_of n [] = Ok []
job_of n (line ∷ lines) = line_then n (command_of (words_of line)) (job_of (n + 1) lines)

-- a text as a job, or the number of the first line that cannot be read, from 1
abbrev pub composed : List ℕ → Result (List ℕ) ℕ
composed text = job_of 1 (lines_of text)

-- an error says of a text which line is the first that cannot be read; want of memory says nothing of the text
abbrev pub Says : ComposeError → Result (List ℕ) ℕ → Type 0
Says (Unreadable n) outcome = outcome ≡ Err n
Says OutOfMemory outcome = Unit {0}
