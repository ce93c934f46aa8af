use Rattle.std.proofs.lemmas.Simd.{get_or-chunk}
use Rattle.row_arena.proofs.pieces.lanes_at.Goals as goal

pub returns-then-bytes-at-ge16-clause-each : goal.returns-then-bytes-at-ge16-clause-each
returns-then-bytes-at-ge16-clause-each c = λ i low inside. get_or-chunk c.args.at 16 c.args.bytes.now i 0 low
