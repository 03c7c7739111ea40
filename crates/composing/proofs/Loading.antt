-- A tape as it is read, one word after another.
use Rattle.std.proofs.Common.{◌≡◌, ℕ, List, ◌++◌, drop, Bor}
use Rattle.std.specs.Option.{option_map}
use Rattle.composing.specs.Pieces.{texts}
use Rattle.composing.specs.Commands.{tape_of}

-- the words before i are read, and their bytes stand behind the job
pub record Read (words : List (Bor (List ℕ))) (i : ℕ) (job job' : List ℕ) : Type 0 where
  pub done : List ℕ
  pub behind : job' ≡ job ++ done
  pub tape : tape_of (texts words) ≡ option_map (λ bs. done ++ bs) (tape_of (texts (drop i words)))
