use Rattle.std.proofs.Common.{◌≡◌, ◌*◌, ◌≤◌, ap, arith}
use Rattle.row_elimination.specs.HeldTable.{Grid}
use Rattle.row_elimination.proofs.tables.Table.reach_piece.Goals as goal

pub reach-requires : goal.reach-requires
reach-requires g c =
    let nb : c.reach.inside.nb_frag ≡ c.args.self.now.shape.nb_frag = ap (λ (x : Grid). x.shape.nb_frag) c.reach.view_is in
    let size : c.self.inside.frag_size ≡ c.args.self.now.shape.frag_size = ap (λ (x : Grid). x.shape.frag_size) c.self.view_is in
    let le : c.min.result ≤ c.reach.inside.nb_frag * c.self.inside.frag_size = omega (arith, c.min.ensures) in
    (omega arith, rw (← nb, ← size) le)
