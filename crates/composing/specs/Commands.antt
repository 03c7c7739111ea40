-- What the words of a line spell.
use Rattle.std.specs.Prelude.{◌≡◌, ℕ, ◌-◌, cond, List, [], ◌∷◌, ◌++◌, length, replicate, Some, None, Ok, Err, codes, Option, Result, ◌==◌, nat_le, slice_index_or}
use Rattle.std.specs.Int.{w16, w32, to_le_bytes}
use Rattle.std.specs.Option.{option_map}
use Rattle.std.specs.Str.{bytes_eq}
use Rattle.composing.specs.Numerals.{decimal_in, hex_byte}
use Rattle.composing.specs.declared.verb.Verb.{Verb}
use Rattle.composing.specs.declared.verb.Verb.TheVariants.{Declare, Load, Compare, Ask}
use Rattle.composing.specs.declared.error.ComposeError.{ComposeError}
use Rattle.composing.specs.declared.error.ComposeError.TheVariants.{Unreadable, OutOfMemory}

-- a name of at most 16 bytes: its length, and its bytes filled up with zeros to 16
abbrev pub declare_job : List ℕ → Option (List ℕ)
declare_job name = cond (nat_le (length name) 16) (Some ((0x40 ∷ length name ∷ []) ++ (name ++ replicate (16 - length name) 0))) None

-- a byte before more of them, where each can be read
abbrev pub before : Option ℕ → Option (List ℕ) → Option (List ℕ)
before None bs = None
before (Some b) None = None
before (Some b) (Some bs) = Some (b ∷ bs)

-- words as bytes in hexadecimal
abbrev pub tape_of : List (List ℕ) → Option (List ℕ)
tape_of [] = Some []
tape_of (w ∷ ws) = before (hex_byte w) (tape_of ws)

-- at most 65,535 words, each of them a byte of the tape, which stands behind its length, lowest byte first
abbrev pub load_job : List (List ℕ) → Option (List ℕ)
load_job ws = cond (nat_le (length ws) 65535) (option_map (λ tape. 0x41 ∷ to_le_bytes w16 (length ws) ++ tape) (tape_of ws)) None

-- two policies and a question
abbrev pub compare_job : Option ℕ → Option ℕ → Option ℕ → Option (List ℕ)
compare_job (Some first) (Some second) (Some question) = Some (0x42 ∷ first ∷ second ∷ question ∷ [])
compare_job None second question = None
compare_job (Some first) None question = None
compare_job (Some first) (Some second) None = None

-- a policy, and a request in four bytes, lowest byte first
abbrev pub ask_job : Option ℕ → Option ℕ → Option (List ℕ)
ask_job (Some policy) (Some request) = Some (0x43 ∷ policy ∷ to_le_bytes w32 request)
ask_job None request = None
ask_job (Some policy) None = None

-- the first word of a command
abbrev pub verb_of : List ℕ → Option Verb
verb_of word =
    cond (bytes_eq word (codes "declare")) (Some Declare)
    (cond (bytes_eq word (codes "load")) (Some Load)
    (cond (bytes_eq word (codes "compare")) (Some Compare)
    (cond (bytes_eq word (codes "ask")) (Some Ask) None)))

-- the command of a verb, with as many words behind it as it takes
abbrev pub spelled : Option Verb → List (List ℕ) → Option (List ℕ)
spelled None words = None
spelled (Some Declare) words = cond (length words == 1) (declare_job (slice_index_or words 0 [])) None
spelled (Some Load) words = load_job words
spelled (Some Compare) words = cond (length words == 3) (compare_job (decimal_in 255 (slice_index_or words 0 [])) (decimal_in 255 (slice_index_or words 1 [])) (decimal_in 255 (slice_index_or words 2 []))) None
spelled (Some Ask) words = cond (length words == 2) (ask_job (decimal_in 255 (slice_index_or words 0 [])) (decimal_in 4294967295 (slice_index_or words 1 []))) None

-- the bytes of a line's words: none for no words
abbrev pub command_of : List (List ℕ) → Option (List ℕ)
command_of [] = Some []
command_of (word ∷ words) = spelled (verb_of word) words

-- a job after a line of this number: its bytes stand behind those before. Or its number is told, where it cannot be read. Nothing is said where memory runs out
abbrev pub Adds : ℕ → Option (List ℕ) → List ℕ → Result (Unit {0}) ComposeError → List ℕ → Type 0
Adds line (Some bytes) job (Ok done) job' = job' ≡ job ++ bytes
Adds line None job (Ok done) job' = ⊥
Adds line (Some bytes) job (Err (Unreadable n)) job' = ⊥
Adds line None job (Err (Unreadable n)) job' = n ≡ line
Adds line command job (Err OutOfMemory) job' = Unit {0}
