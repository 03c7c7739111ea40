-- The job commands: which bytes spell which call.
use Rattle.std.specs.Prelude.{◌≡◌, ℕ, ◌+◌, ◌*◌, ◌<◌, ◌≤◌, cond, List, length, take, drop, Some, None, Option, ◌==◌, slice_index}
use Rattle.std.specs.Borrow.{Bor}
use Rattle.shelf.specs.declared.exchange.Call.{Call}
use Rattle.shelf.specs.declared.exchange.Call.TheVariants.{Declare, Find, Open, Feed, File, Abandon, Load, Ask, Shape, Compare, Held}

-- the length of a tape, in the two bytes after the first, lowest byte first
abbrev pub tape_length : List ℕ → ℕ
tape_length bytes = slice_index bytes 1 + 256 * slice_index bytes 2

-- a request, in the four bytes after the second, lowest byte first
abbrev pub request_in : List ℕ → ℕ
request_in bytes = slice_index bytes 2 + 256 * (slice_index bytes 3 + 256 * (slice_index bytes 4 + 256 * slice_index bytes 5))

-- how many bytes a job command has, by its first byte: declare 40, load 41, compare 42, ask 43, in hexadecimal; none for any other
abbrev pub size_of : List ℕ → Option ℕ
size_of bytes =
    cond (slice_index bytes 0 == 0x40) (Some 18)
    (cond (slice_index bytes 0 == 0x41) (Some (3 + tape_length bytes))
    (cond (slice_index bytes 0 == 0x42) (Some 4)
    (cond (slice_index bytes 0 == 0x43) (Some 6) None)))

-- the call of the first byte, with the operands that stand in the bytes after it; the other calls have no job command
abbrev pub Says : List ℕ → Call → Type 0
Says bytes (Declare name) = (slice_index bytes 0 ≡ 0x40) × (name.len ≡ slice_index bytes 1) × (name.bytes ≡ take 16 (drop 2 bytes))
Says bytes (Load tape) = (slice_index bytes 0 ≡ 0x41) × (tape.now ≡ take (tape_length bytes) (drop 3 bytes))
Says bytes (Compare first second question) = (slice_index bytes 0 ≡ 0x42) × (first ≡ slice_index bytes 1) × (second ≡ slice_index bytes 2) × (question ≡ slice_index bytes 3)
Says bytes (Ask policy request) = (slice_index bytes 0 ≡ 0x43) × (policy ≡ slice_index bytes 1) × (request ≡ request_in bytes)
Says bytes (Find name) = ⊥
Says bytes Open = ⊥
Says bytes (Feed draft tape) = ⊥
Says bytes (File draft) = ⊥
Says bytes (Abandon draft) = ⊥
Says bytes (Shape policy) = ⊥
Says bytes Held = ⊥

-- the bytes begin with a whole job command, which is this call and has so many bytes
pub record Spells (bytes : List ℕ) (call : Call) (size : ℕ) : Type 0 where
  pub sized : size_of bytes ≡ Some size
  pub whole : size ≤ length bytes
  pub says : Says bytes call

-- the bytes begin with no whole job command: the first byte is no job command's, or the command is cut short
abbrev pub NoCommand : List ℕ → Type 0
NoCommand bytes = elim (size_of bytes) [ None ↦ Unit {0} | Some size ↦ length bytes < size ]

-- what bytes begin with: a job command, as a call and the bytes after it, or none
abbrev pub Begins : List ℕ → Option (Call × Bor (List ℕ)) → Type 0
Begins bytes (Some x) = (size : ℕ) × Spells bytes x.0 size × (x.1.now ≡ drop size bytes)
Begins bytes None = NoCommand bytes
