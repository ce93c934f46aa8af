use Rattle.std.proofs.Common.{◌≡◌, ◌-◌, ◌^◌, min, take}
use Rattle.script_lines.specs.Numbers.{decimal_number}
use Rattle.script_lines.proofs.numbers.decimal_number.Given as goal

abbrev pub invariant-loop-digit : goal.invariant-loop-digit
invariant-loop-digit l = l.number ≡ min (2 ^ 64 - 1) (decimal_number (take l.digit-index l.digits))
