-- How it is told why a text has no job.
use Rattle.std.specs.Prelude.{ℕ, List, ◌++◌, codes, decimal}
use Rattle.composing.specs.declared.error.ComposeError.{ComposeError}
use Rattle.composing.specs.declared.error.ComposeError.TheVariants.{Unreadable, OutOfMemory}

-- the words for an error
abbrev pub told : ComposeError → List ℕ
told (Unreadable line) = codes "line " ++ (decimal line ++ codes ": cannot be read")
told OutOfMemory = codes "memory allocation failed"
