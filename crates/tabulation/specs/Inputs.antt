-- How the bytes of an input are taken apart.
use Rattle.std.specs.Prelude.{◌≡◌, ℕ, cond, ◌||◌, List, codes, length, drop, Ok, Err, Result, ◌==◌, nat_lt, slice_index}
use Rattle.tabulation.specs.declared.input.EffectSet.{EffectSet}
use Rattle.tabulation.specs.declared.input.EffectSet.TheVariants.{Four, Six}
use Rattle.tabulation.specs.declared.input.BadInput.{BadInput}
use Rattle.tabulation.specs.declared.input.BadInput.TheVariants.{Short, Long, Facts, Effects}

-- what an input asks for: how many facts there are, which effects, and the tape
pub record Asked : Type 0 where
  pub facts : ℕ
  pub effects : EffectSet
  pub tape : List ℕ

-- 4 or 6 as a set of effects
abbrev pub effect_set : ℕ → EffectSet
effect_set n = cond (n == 4) Four Six

-- what is printed where an input is none
abbrev pub complaint : BadInput → List ℕ
complaint Short = codes "the input is shorter than its two counts"
complaint Long = codes "the input is longer than 65537 bytes"
complaint Facts = codes "the first byte is not a fact count of 0 to 16"
complaint Effects = codes "the second byte is not an effect count of 4 or 6"

-- a count that is 4 or 6 is that of a set of effects
abbrev pub HasCount : ℕ → Result EffectSet BadInput → Type 0
HasCount n r = r ≡ cond (n == 4 || n == 6) (Ok (effect_set n)) (Err Effects)

-- a byte for the facts, 0 to 16; a byte for the effects, 4 or 6; then the tape, of at most 65,535 bytes. What is wrong is told in the order short, long, facts, effects
abbrev pub asked : List ℕ → Result Asked BadInput
asked bs =
    cond (nat_lt (length bs) 2) (Err Short)
    (cond (nat_lt 65537 (length bs)) (Err Long)
    (cond (nat_lt 16 (slice_index bs 0)) (Err Facts)
    (cond (slice_index bs 1 == 4 || slice_index bs 1 == 6) (Ok (record { facts = slice_index bs 0; effects = effect_set (slice_index bs 1); tape = drop 2 bs }))
    (Err Effects))))
