use Rattle.std.proofs.Common.{ap, ◌∙◌}
use Rattle.wire_base.specs.Numbers.{bits_of}
use Rattle.cast_wire.proofs.GroupLists.{none_read, more_read, all_read, masked_low}
use Rattle.cast_wire.proofs.reading_groups.groups_at.Goals as goal

pub loop-i-init : goal.loop-i-init
loop-i-init c = rw c.new-groups.ensures (none_read _ _ _)

pub loop-i-preserved : goal.loop-i-preserved
loop-i-preserved c =
    rw c.push.ensures (more_read _ _ _ _ _ _ c.loop-i-test.true (masked_low c.u8_at.result 2 ∙ ap (λ n. bits_of n 0 2) c.u8_at.ensures) c.u32_at.ensures c.loop-i.invariant)

pub returns : goal.returns
returns c = all_read _ _ _ _ _ c.loop-i-test.false c.loop-i.invariant
