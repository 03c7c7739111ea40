-- A text as it is composed, one line after another.
use Rattle.std.proofs.Common.{arith, ◌≡◌, ℕ, ◌+◌, ◌<◌, List, [], ◌∷◌, length, get_or, drop, Ok, Err, Result, Bool, false, Bor, refl, ap}
use Rattle.std.specs.Fn.{CalledAt}
use Rattle.std.specs.Iterator.Adapters.{enumerate_source, enumerate_count, enumerate_steps}
use Rattle.std.specs.List.{enumerate_from}
use Rattle.std.specs.Slice.Iter.{split_rest, split_done, split_callee, split_steps}
use Rattle.std.proofs.lemmas.Iterator.{YieldsList}
use Rattle.std.proofs.lemmas.Iterator.Consumers.{YieldsList-at, YieldsList-from_enumerate}
use Rattle.std.proofs.lemmas.Iterator.Splits.{YieldsList-from_slice_split}
use Rattle.std.proofs.lemmas.Grind.{common_steps}
use denote.Param.Members.{Mut}
use Rattle.composing.specs.Pieces.{is_line_feed, lines_of, words_of}
use Rattle.composing.specs.Commands.{command_of, Adds}
use Rattle.composing.specs.Text.{in_front, line_then, job_of, Says}
use Rattle.composing.specs.declared.error.ComposeError.{ComposeError}

-- lines as a job, each with how many stand before it
abbrev pub job_at : List (ℕ × List ℕ) → Result (List ℕ) ℕ
job_at [] = Ok []
job_at (line ∷ lines) = line_then (line.0 + 1) (command_of (words_of line.1)) (job_at lines)

pub job_at-enumerate_from : (n : ℕ) (lines : List (List ℕ)) → job_at (enumerate_from n lines) ≡ job_of (n + 1) lines
job_at-enumerate_from n [] = refl
job_at-enumerate_from n (line ∷ lines) = ap (line_then (n + 1) (command_of (words_of line))) (job_at-enumerate_from (n + 1) lines)

-- the lines before k are read, and their bytes are the job so far
pub record Done (lines : List (ℕ × List ℕ)) (k : ℕ) (job : List ℕ) : Type 0 where
  pub read : job_at lines ≡ in_front job (job_at (drop k lines))

-- a line that ends in an error
pub stopped : (lines : List (ℕ × List ℕ)) (k : ℕ) (line : ℕ × List ℕ) (words : List (List ℕ)) (error : ComposeError) (job job' : List ℕ) → k < length lines → line ≡ get_or lines k line → words ≡ words_of line.1 → Adds (line.0 + 1) (command_of words) job (Err error) job' → Done lines k job → Says error (job_at lines)
stopped lines k line words error job job' h e w a done = grind (arith, common_steps)

-- what a loop over the lines of a text meets, each with how many stand before it
pub numbered : {F : Type 0} {f : F} {cut : _} {lines s : _} (g : Mut F (Bor ℕ × Unit {0}) Bool) (text : List ℕ) → s ≡ lines → enumerate_source lines ≡ cut → enumerate_count lines ≡ 0 → split_rest cut ≡ text → split_done cut ≡ false → split_callee cut ≡ f → ((x : ℕ) (b : Bool) (q : F) → CalledAt g f x b q → (q ≡ f) × (b ≡ is_line_feed x)) → YieldsList {B = ℕ × List ℕ} (enumerate_steps (split_steps g)) (λ p. (p.0, p.1.now)) s (enumerate_from 0 (lines_of text))
numbered g text e s n r d c k = YieldsList-at e (YieldsList-from_enumerate (YieldsList-at s (YieldsList-from_slice_split g is_line_feed text r d c k)) n)
