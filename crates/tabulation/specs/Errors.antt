-- What is printed where there is no table.
use Rattle.std.specs.Prelude.{ℕ, List, codes}
use Rattle.tape.specs.Refusals.{refused_text}
use Rattle.tabulation.specs.Inputs.{complaint}
use Rattle.tabulation.specs.declared.error.TabulateError.{TabulateError}
use Rattle.tabulation.specs.declared.error.TabulateError.TheVariants.{Unreadable, Refused, OutOfMemory}

-- the complaint of a bad input; a refusal by its number and its place
abbrev pub error_text : TabulateError → List ℕ
error_text (Unreadable b) = complaint b
error_text (Refused e) = refused_text e
error_text OutOfMemory = codes "memory allocation failed"
