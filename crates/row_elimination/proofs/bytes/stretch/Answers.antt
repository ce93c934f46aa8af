use Rattle.std.proofs.Common.{arith}
use Rattle.row_arena.proofs.Stretched.{stretch_is}
use Rattle.row_elimination.proofs.bytes.stretch.Goals as goal

pub returns-clause-value : goal.returns-clause-value
returns-clause-value g c = stretch_is c.args.k c.args.size _ c.args.items.now (omega arith)
