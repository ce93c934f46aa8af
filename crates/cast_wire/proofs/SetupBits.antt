-- The four refusal bits of a FragSessionSetupAns, and the number that they make.
use Rattle.std.proofs.Common.{◌≡◌, ℕ, zero, suc, ◌*◌, ◌<◌, Bool, true, false, eqb, refl, ◌∙◌, sym, ap, ◌%◌, ◌/◌, arith}
use Rattle.wire_base.specs.Numbers.{has_bit, flag_value}
use Rattle.cast_wire.specs.declared.cmd.Cmd.{Cmd}
use Rattle.cast_wire.specs.declared.cmd.Cmd.TheVariants.{FragSessionSetupAns}
use Rattle.cast_wire.specs.SetupRefusal.{refusal_bits, setup_answer}

pub kept : (index : ℕ) (descriptor unsupported memory encoding : Bool) → setup_answer index (refusal_bits descriptor unsupported memory encoding) ≡ FragSessionSetupAns index descriptor unsupported memory encoding
kept index true true true true = refl
kept index true true true false = refl
kept index true true false true = refl
kept index true true false false = refl
kept index true false true true = refl
kept index true false true false = refl
kept index true false false true = refl
kept index true false false false = refl
kept index false true true true = refl
kept index false true true false = refl
kept index false true false true = refl
kept index false true false false = refl
kept index false false true true = refl
kept index false false true false = refl
kept index false false false true = refl
kept index false false false false = refl

-- a bit is 0 or 1, so its flag has its value
bit_is : (b value : ℕ) → b < 2 → flag_value (eqb b 1) value ≡ b * value
bit_is zero value small = omega arith
bit_is (suc zero) value small = omega arith
bit_is (suc (suc b)) value small = absurd (omega arith)

-- a number below 16 is made of its bits
made : (n : ℕ) → n < 16 → refusal_bits (has_bit n 3) (has_bit n 2) (has_bit n 1) (has_bit n 0) ≡ n
made n small = omega (arith, bit_is (n / 8 % 2) 8 (omega arith), bit_is (n / 4 % 2) 4 (omega arith), bit_is (n / 2 % 2) 2 (omega arith), bit_is (n / 1 % 2) 1 (omega arith))

pub told_apart : (index m n : ℕ) → m < 16 → n < 16 → setup_answer index m ≡ setup_answer index n → m ≡ n
told_apart index m n m_small n_small same = sym (made m m_small) ∙ ap bits_of_answer same ∙ made n n_small
  where
    bits_of_answer : Cmd → ℕ
    bits_of_answer (FragSessionSetupAns i d u e c) = refusal_bits d u e c
    bits_of_answer _ = 0
