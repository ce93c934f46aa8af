-- Numbers, fields, rows and numbered items, worked out.
use Rattle.std.specs.Prelude.{◌≡◌, ℕ, true, false, List, [], ◌∷◌, Some, None}
use Rattle.wire_base.specs.Numbered.{numbered}
use Rattle.wire_base.specs.Numbers.{number_at, number_bytes, bits_of, has_bit, flag_value}
use Rattle.wire_base.specs.Payload.{max_payload}
use Rattle.wire_base.specs.Rows.{down, bits, flag, number, packed, block, rest, spelling}

abbrev pub two_items : List ℕ
two_items = 7 ∷ 8 ∷ []

pub record WorkedNumbers : Type 0 where
  -- the lowest byte first
  pub read : number_at (0xff ∷ 0x01 ∷ 0x02 ∷ 0x03 ∷ 0x04 ∷ []) 1 4 ≡ 0x04030201
  pub written : number_bytes 3 0x010203 ≡ 0x03 ∷ 0x02 ∷ 0x01 ∷ []
  -- bits 6 to 4, one bit, and the value of a flag
  pub field : bits_of 0xb4 4 3 ≡ 3
  pub set : has_bit 4 2 ≡ true
  pub clear : has_bit 4 1 ≡ false
  pub raised : flag_value true 16 ≡ 16
  pub lowered : flag_value false 16 ≡ 0
  -- a command of a number, fields that share a byte, bytes as they are, and the rest
  pub spelled : spelling (down (200 ∷ []) 9 (number 2 0x0102 ∷ packed 1 (bits 5 4 1 ∷ flag 0 true ∷ [])
      ∷ block (7 ∷ 8 ∷ []) ∷ rest (5 ∷ []) ∷ [])) ≡ 9 ∷ 0x02 ∷ 0x01 ∷ 0x11 ∷ 7 ∷ 8 ∷ 5 ∷ []
  pub most_bytes : max_payload ≡ 242
  -- items are counted from 1
  pub none : numbered two_items 0 ≡ None
  pub first : numbered two_items 1 ≡ Some 7
  pub last : numbered two_items 2 ≡ Some 8
  pub beyond : numbered two_items 3 ≡ None
