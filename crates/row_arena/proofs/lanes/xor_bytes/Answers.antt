use Rattle.std.proofs.Common.{length, arith}
use Rattle.row_arena.proofs.Added.{added_none, added_all}
use Rattle.row_arena.proofs.lanes.xor_bytes.Goals as goal

pub returns-then-from-lt4 : goal.returns-then-from-lt4
returns-then-from-lt4 c =
    added_all (length c.args.from.now) c.args.into.now c.args.from.now c.rest_plain.new.into c.requires (omega arith)
    (c.rest_plain.ensures c.args.into.now (added_none c.args.into.now c.args.from.now))
