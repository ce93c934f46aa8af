use Rattle.std.proofs.Common.{arith}
use Rattle.std.proofs.lemmas.Bool.{false≢true}
use Rattle.cast_wire.proofs.Writes.{no_groups_put, group_put, group_room}
use Rattle.cast_wire.proofs.writing_groups.put_groups.Goals as goal

pub loop-group-init : goal.loop-group-init
loop-group-init c = no_groups_put c.args.out.now c.args.groups.now c.requires.room

pub loop-group-preserved : goal.loop-group-preserved
loop-group-preserved c =
    group_put c.args.groups.now c.loop-group.group-index _ c.loop-group-test.true c.requires.fit c.to_le_bytes.ensures c.loop-group.invariant c.in_ok-append.ensures

pub returns-in_err-append : goal.returns-in_err-append
returns-in_err-append c =
    let room = group_room c.args.groups.now c.loop-group.group-index c.loop-group-test.true c.requires.room c.loop-group.invariant in
    absurd (false≢true (c.in_err-append.ensures.room.1 (omega (arith, room))))
