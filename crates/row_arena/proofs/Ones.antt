-- How many columns a line has, when one of them is taken out.
use Rattle.std.proofs.Common.{◌≡◌, ℕ, zero, suc, ◌/◌, ◌%◌, ◌^◌, bit_xor, sym, ap, ◌∙◌, arith, pow-suc}
use Rattle.std.specs.Int.{bit_at}
use Rattle.std.specs.Int.Bits.{xor_zero_r}
use Rattle.std.specs.Int.Count.{ones, ones_step}
use Rattle.std.proofs.lemmas.Nat.{xor_shr}
use Rattle.std.proofs.lemmas.Nat.Bits.{bit_at-suc, bit_at_lowest, bit_at_xor, bit_at-pow_same, bit_at-pow_other}

pub one_less : (x c : ℕ) → bit_at x c ≡ 1 → suc (ones (bit_xor x (2 ^ c))) ≡ ones x
one_less x zero on =
    let y : ℕ = bit_xor x (2 ^ 0) in
    let low : y % 2 ≡ 0 = omega (arith, bit_at_lowest y, bit_at_xor x (2 ^ 0) 0, on, bit_at-pow_same 0) in
    let rest : y / 2 ≡ x / 2 = xor_shr x (2 ^ 0) 1 ∙ xor_zero_r (x / 2) in
    omega (arith, ones_step x, ones_step y, ap ones rest, low, bit_at_lowest x, on)
one_less x (suc c) on =
    let y : ℕ = bit_xor x (2 ^ suc c) in
    let apart : bit_at (2 ^ suc c) 0 ≡ 0 = bit_at-pow_other (suc c) 0 (λ e. omega arith) in
    let low : y % 2 ≡ x % 2 = omega (arith, bit_at_lowest y, bit_at_lowest x, bit_at_xor x (2 ^ suc c) 0, apart) in
    let power : 2 ^ suc c / 2 ≡ 2 ^ c = omega (arith, pow-suc 2 c) in
    let rest : y / 2 ≡ bit_xor (x / 2) (2 ^ c) = xor_shr x (2 ^ suc c) 1 ∙ ap (bit_xor (x / 2)) power in
    let less = one_less (x / 2) c (sym (bit_at-suc x c) ∙ on) in
    omega (arith, ones_step x, ones_step y, ap ones rest, low, less)
