-- The fields of a byte that was read, as the code takes them out of it.
use Rattle.std.proofs.Common.{◌≡◌, ℕ, zero, suc, ◌+◌, ◌-◌, ◌/◌, ◌^◌, ◌<◌, Bool, true, false, cond, eqb, List, [], ◌∷◌, length, None, refl, sym, arith}
use Rattle.std.proofs.lemmas.Bool.{lt-leb}
use Rattle.std.specs.Prelude.{bit_and}
use Rattle.wire_base.specs.Numbers.{number_at, bits_of, flag_value}
use Rattle.wire_base.specs.Rows.{BitsLie, bits, flag}
use Rattle.cast_wire.specs.Reading.{group_up}
use Rattle.cast_wire.proofs.GroupLists.{masked, masked_low}

-- the lowest bits, and bits from a place on
pub low_at : (bytes : List ℕ) (at byte count : ℕ) → byte ≡ number_at bytes at 1 → bits_of (number_at bytes at 1) 0 count ≡ bit_and byte (2 ^ count - 1)
low_at bytes at byte count is = rw (← is) (sym (masked_low byte count))

pub field_at : (bytes : List ℕ) (at byte low count : ℕ) → byte ≡ number_at bytes at 1 → bits_of (number_at bytes at 1) low count ≡ bit_and (byte / 2 ^ low) (2 ^ count - 1)
field_at bytes at byte low count is = rw (← is) (sym (masked byte low count))

-- a bit is the value of its flag
flag_of : (bit : ℕ) → bit < 2 → bit ≡ flag_value (eqb bit 1) 1
flag_of zero below = refl
flag_of (suc zero) below = refl
flag_of (suc (suc bit)) below = absurd (omega (arith, below))

pub flag_at : (bytes : List ℕ) (at byte low : ℕ) → byte ≡ number_at bytes at 1 → bits_of (number_at bytes at 1) low 1 ≡ flag_value (eqb (bit_and (byte / 2 ^ low) 1) 1) 1
flag_at bytes at byte low is = rw (← is, masked byte low 1) (flag_of (bits_of byte low 1) (omega arith))

pub lowest_at : (bytes : List ℕ) (at byte : ℕ) → byte ≡ number_at bytes at 1 → bits_of (number_at bytes at 1) 0 1 ≡ flag_value (eqb (bit_and byte 1) 1) 1
lowest_at bytes at byte is = rw (← is, masked_low byte 1) (flag_of (bits_of byte 0 1) (omega arith))

-- the error bits and the id of an answer of a session
pub session_bits : (bytes : List ℕ) (at byte : ℕ) → byte ≡ number_at bytes at 1
    → BitsLie (number_at bytes at 1) (flag 4 (eqb (bit_and (byte / 16) 1) 1) ∷ flag 3 (eqb (bit_and (byte / 8) 1) 1)
    ∷ flag 2 (eqb (bit_and (byte / 4) 1) 1) ∷ bits 1 0 (bit_and byte 3) ∷ [])
session_bits bytes at byte is = (flag_at bytes at byte 4 is, (flag_at bytes at byte 3 is, (flag_at bytes at byte 2 is, (low_at bytes at byte 2 is, tt))))

-- where a session's answer lacks the byte of its bits, nothing is read
either_way : {A : Type 0} (b : Bool) (x : A) → x ≡ cond b x x
either_way true x = refl
either_way false x = refl

pub class_c_short : (bytes : List ℕ) (at : ℕ) → number_at bytes at 1 ≡ 4 → length bytes < at + 2 → None ≡ group_up bytes at
unfolding group_up
class_c_short bytes at cid short =
    let shorter : length bytes < at + 5 = omega (arith, short) in
    rw (cid, lt-leb _ _ short, lt-leb _ _ shorter) (either_way _ None)

pub class_b_short : (bytes : List ℕ) (at : ℕ) → number_at bytes at 1 ≡ 5 → length bytes < at + 2 → None ≡ group_up bytes at
unfolding group_up
class_b_short bytes at cid short =
    let shorter : length bytes < at + 5 = omega (arith, short) in
    rw (cid, lt-leb _ _ short, lt-leb _ _ shorter) (either_way _ None)
