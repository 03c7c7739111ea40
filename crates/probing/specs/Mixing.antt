-- How a hash is spread.
use Rattle.std.specs.Prelude.{ℕ, ◌*◌, ◌/◌, ◌%◌, ◌^◌, List, [], ◌∷◌, bit_xor}

-- the product of x and y, of which 64 bits are kept
abbrev pub product : ℕ → ℕ → ℕ
product x y = x * y % 2 ^ 64

-- x with its upper half laid over its lower half, by exclusive or
abbrev pub overlaid : ℕ → ℕ
overlaid x = bit_xor x (x / 2 ^ 32)

-- 32 well spread bits of x: the upper half of a product whose factor is the overlaid first product
unfoldable pub mixed : ℕ → ℕ
mixed x = product (overlaid (product x 0x9E3779B97F4A7C15)) 0xD6E8FEB86659FD93 / 2 ^ 32

-- The bytes of a text gathered into 64 bits, from h on: each joins by exclusive or, and then a product carries it up.
-- This is the hash FNV-1a.
abbrev pub gathered : ℕ → List ℕ → ℕ
gathered h [] = h
gathered h (b ∷ bs) = gathered (product (bit_xor h b) 0x100000001B3) bs
