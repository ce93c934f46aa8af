use Rattle.std.proofs.Common.{◌≡◌, ◌≤◌, ◌-◌, ◌^◌, min, take, length, true}
use Rattle.std.specs.List.{list_all}
use Rattle.std.specs.Char.{is_ascii_digit}
use Rattle.script_lines.specs.Numbers.{decimal_number}
use Rattle.script_lines.proofs.fast_forms.leading_decimal.Given as goal

-- digits so far, and their number
abbrev pub invariant-loop-end : goal.invariant-loop-end
invariant-loop-end l =
    (l.end ≤ length l.bytes) × (list_all is_ascii_digit (take l.end l.bytes) ≡ true) × (l.number ≡ min (2 ^ 64 - 1) (decimal_number (take l.end l.bytes)))

abbrev pub decreases-loop-end : goal.decreases-loop-end
decreases-loop-end l = length l.bytes - l.end
