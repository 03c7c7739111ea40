-- A job as it is parsed, one command after another.
use Rattle.std.proofs.Common.{◌≡◌, ℕ, ◌-◌, ◌<◌, ◌≤◌, Bool, true, false, List, [], ◌++◌, length, drop, Some, None, Option, sym, ap, subst, append-nil, arith, length-drop}
use Rattle.std.proofs.lemmas.Bool.{le-ltb}
use Rattle.shelf.specs.declared.exchange.Call.{Call}
use Rattle.jobs.specs.Commands.{NoCommand}
use Rattle.jobs.specs.Parsing.{Parsed, Taken}

-- the items are the calls before a place, and the rest is the job from there on
pub record Before (job rest : List ℕ) (items : List Call) : Type 0 where
  pub place : ℕ
  pub within : place ≤ length job
  pub behind : rest ≡ drop place job
  pub parsed : (more : List Call) (bad : Option ℕ) → Parsed job place more bad → Parsed job 0 (items ++ more) bad

-- a job that is not too long, with nothing more to parse
taken : (job : List ℕ) (items : List Call) (bad : Option ℕ) → length job ≤ 65535 → Parsed job 0 (items ++ []) bad → Taken job items bad
taken job items bad few p =
    let P : Bool → Type 0 = λ b. elim b [ true ↦ ((items ≡ []) × (bad ≡ Some 0)) | false ↦ Parsed job 0 items bad ] in
    subst P (sym (le-ltb 65535 (length job) few)) (subst (λ xs. Parsed job 0 xs bad) (append-nil items) p)

-- parsed to the end
pub to_end : (job rest : List ℕ) (items : List Call) → length job ≤ 65535 → length rest ≡ 0 → Before job rest items → Taken job items None
to_end job rest items few h b =
    let l = length-drop b.place job in
    let e = ap length b.behind in
    let w = b.within in
    taken job items None few (b.parsed [] None (omega arith))

-- parsed to a place where no command begins
pub to_bad : (job rest : List ℕ) (items : List Call) → length job ≤ 65535 → 0 < length rest → NoCommand rest → Before job rest items → Taken job items (Some (length job - length rest))
to_bad job rest items few h none b =
    let l = length-drop b.place job in
    let e = ap length b.behind in
    let w = b.within in
    let same : length job - length rest ≡ b.place = omega arith in
    taken job items (Some (length job - length rest)) few (b.parsed [] (Some (length job - length rest)) (same, omega arith, subst NoCommand b.behind none))
