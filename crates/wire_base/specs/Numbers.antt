-- Numbers of several bytes, lowest byte first, and the bits of one field within such a number.
use Rattle.std.specs.Prelude.{ℕ, zero, suc, ◌+◌, ◌*◌, ◌/◌, ◌%◌, ◌^◌, Bool, ◌==◌, if◌then◌else◌, List, [], ◌∷◌, slice_index}

-- the number in so many bytes from a place on
unfoldable pub number_at : List ℕ → (at width : ℕ) → ℕ
number_at bytes at zero = 0
number_at bytes at (suc width) = slice_index bytes at + 256 * number_at bytes (at + 1) width

-- the bytes of a number, so many
abbrev pub number_bytes : (width n : ℕ) → List ℕ
number_bytes zero n = []
number_bytes (suc width) n = n % 256 ∷ number_bytes width (n / 256)

-- the number in the bits of n from low on, so many
abbrev pub bits_of : (n low count : ℕ) → ℕ
bits_of n low count = n / 2 ^ low % 2 ^ count

-- a bit of n is set
abbrev pub has_bit : (n bit : ℕ) → Bool
has_bit n bit = bits_of n bit 1 == 1

-- the value of a flag: that of its bit where it is set, else 0
abbrev pub flag_value : Bool → (value : ℕ) → ℕ
flag_value set value = if set then value else 0
