use Rattle.std.proofs.Common.{length, ◌∙◌, ap, arith}
use Rattle.row_arena.proofs.Stretched.{put_there, put_others}
use Rattle.row_elimination.proofs.bytes.put_at.Goals as goal

pub returns-clause-there : goal.returns-clause-there
returns-clause-there g c =
    put_there c.args.k (length c.args.from.now) _ c.args.into.now c.copy_from_slice.new.self (ap length c.copy_from_slice.ensures.after) c.requires
    ∙ c.copy_from_slice.ensures.after

pub returns-clause-others : goal.returns-clause-others
returns-clause-others g c = λ j ne.
    put_others j c.args.k (length c.args.from.now) _ c.args.into.now c.copy_from_slice.new.self (ap length c.copy_from_slice.ensures.after) (omega arith) c.requires ne
