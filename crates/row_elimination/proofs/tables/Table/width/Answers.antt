use Rattle.std.proofs.Common.{arith}
use Rattle.row_elimination.proofs.Gridding.{width_few}
use Rattle.row_elimination.proofs.tables.Table.width.Goals as goal

pub returns-clause-few : goal.returns-clause-few
returns-clause-few g c = omega (arith, c.words_for.ensures.value, width_few c.self.inside.nb_frag c.self.invariant.grid.most)
