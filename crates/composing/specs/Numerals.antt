-- How numbers are written in the text form.
use Rattle.std.specs.Prelude.{ℕ, ◌+◌, ◌*◌, List, cond, ◌&&◌, length, Some, None, Option, ◌==◌, nat_le, slice_index}
use Rattle.std.specs.Char.{digit_value, is_digit, is_ascii_digit}
use Rattle.std.specs.List.{list_all}
use Rattle.std.specs.Str.Parse.{digits_value}

-- a word of one or more decimal digits as a number, where it is at most so much
abbrev pub decimal_in : ℕ → List ℕ → Option ℕ
decimal_in most word = cond (nat_le 1 (length word) && (list_all is_ascii_digit word && nat_le (digits_value 10 word) most)) (Some (digits_value 10 word)) None

-- a hexadecimal digit, its letters in either case
abbrev pub hex_digit : ℕ → Option ℕ
hex_digit b = cond (is_digit b 16) (Some (digit_value b)) None

-- two digits as a byte
abbrev pub paired : Option ℕ → Option ℕ → Option ℕ
paired (Some high) (Some low) = Some (16 * high + low)
paired (Some high) None = None
paired None low = None

-- a word of exactly two hexadecimal digits as a byte
abbrev pub hex_byte : List ℕ → Option ℕ
hex_byte word = cond (length word == 2) (paired (hex_digit (slice_index word 0)) (hex_digit (slice_index word 1))) None
