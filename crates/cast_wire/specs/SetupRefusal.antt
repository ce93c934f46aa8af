-- The refusal bits of a FragSessionSetupAns as one number. (TS004-1.0.0, bits 3:0 of its status.)
use Rattle.std.specs.Prelude.{ℕ, ◌+◌, Bool}
use Rattle.wire_base.specs.Numbers.{has_bit, flag_value}
use Rattle.cast_wire.specs.declared.cmd.Cmd.{Cmd}
use Rattle.cast_wire.specs.declared.cmd.Cmd.TheVariants.{FragSessionSetupAns}

-- the four bits as a number
abbrev pub refusal_bits : (wrong_descriptor index_unsupported no_memory encoding_unsupported : Bool) → ℕ
refusal_bits wrong_descriptor index_unsupported no_memory encoding_unsupported =
    flag_value wrong_descriptor 8 + flag_value index_unsupported 4 + flag_value no_memory 2
    + flag_value encoding_unsupported 1

-- the answer that has the bits of a number
abbrev pub setup_answer : (index bits : ℕ) → Cmd
setup_answer index bits = FragSessionSetupAns index (has_bit bits 3) (has_bit bits 2) (has_bit bits 1) (has_bit bits 0)
