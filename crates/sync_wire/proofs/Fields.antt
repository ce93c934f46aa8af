-- The lowest bits of a byte that was read, as the code takes them out of it.
use Rattle.std.proofs.Common.{◌≡◌, ℕ, ◌-◌, ◌/◌, ◌^◌, List, sym, ◌∙◌, refl, arith}
use Rattle.std.specs.Prelude.{bit_and}
use Rattle.std.proofs.lemmas.Nat.{and_mask}
use Rattle.wire_base.specs.Numbers.{number_at, bits_of}

pub low_at : (bytes : List ℕ) (at byte count : ℕ) → byte ≡ number_at bytes at 1 → bits_of (number_at bytes at 1) 0 count ≡ bit_and byte (2 ^ count - 1)
low_at bytes at byte count is =
    let whole : byte / 1 ≡ byte = omega arith in
    rw (← is) (sym (and_mask byte count ∙ rw whole refl))
