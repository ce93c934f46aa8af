-- Decimals, keys and hex numbers as words of a line (this project's profile).
use Rattle.std.specs.Prelude.{ℕ, ◌+◌, ◌-◌, ◌*◌, ◌^◌, min, Bool, false, ◌&&◌, not, ◌==◌, nat_le, if◌then◌else◌, List, [], ◌∷◌, length, fold, codes, Option, Some, None, Result, Ok, Err}
use Rattle.std.specs.List.{list_all}
use Rattle.std.specs.Char.{is_ascii_digit}
use Rattle.std.specs.Int.{from_be_bytes, w32}
use Rattle.std.specs.Str.{bytes_eq}
use Rattle.hex.specs.Hex.{decode_of, decode_sized}
use Rattle.script_lines.specs.Limits.{max_hex_bytes}

-- digits, at least one, with no leading zero but 0 itself
abbrev pub is_decimal : List ℕ → Bool
is_decimal [] = false
is_decimal (d ∷ []) = is_ascii_digit d
is_decimal (d ∷ e ∷ ds) = is_ascii_digit d && not (d == 48) && list_all is_ascii_digit (e ∷ ds)

-- the number that digits make
abbrev pub decimal_number : List ℕ → ℕ
decimal_number digits = fold (λ n d. 10 * n + (d - 48)) 0 digits

-- the decimal that a word spells; a number above 2^64 - 1 is held as that
unfoldable pub decimal_of : List ℕ → Option ℕ
decimal_of digits = if is_decimal digits then Some (min (2 ^ 64 - 1) (decimal_number digits)) else None

-- what was read, if anything
abbrev pub read_part : {A E : Type 0} → Result A E → Option A
read_part (Ok x) = Some x
read_part (Err e) = None

-- a function of what was read, where there is something
infixr 5 ◌>>=◌
abbrev pub ◌>>=◌ : {A B : Type 0} → Option A → (A → Option B) → Option B
None >>= f = None
(Some x) >>= f = f x

-- the key that 32 hex digits of either case spell
unfoldable pub key_of : List ℕ → Option (List ℕ)
key_of digits = read_part (decode_sized digits 16)

-- the number that 8 hex digits of either case spell, the most significant first
unfoldable pub hex_number_of : List ℕ → Option ℕ
hex_number_of digits = read_part (decode_sized digits 4) >>= λ bytes. Some (from_be_bytes w32 bytes)

-- a word has digits, and no more than a line's
abbrev pub is_hex_word : List ℕ → Bool
is_hex_word digits = nat_le 1 (length digits) && nat_le (length digits) (2 * max_hex_bytes)

-- the bytes that an even number of hex digits of either case spells, or that `-` does, which are none
unfoldable pub hex_bytes_of : List ℕ → Option (List ℕ)
hex_bytes_of digits =
    if bytes_eq digits (codes "-") then Some []
    else if is_hex_word digits then read_part (decode_of digits)
    else None

-- the bytes, where there are some
abbrev pub bytes_in : Option (List ℕ) → List ℕ
bytes_in None = []
bytes_in (Some bytes) = bytes
