-- What a solver keeps true.
use Rattle.std.specs.Prelude.{◌≡◌, ℕ, ◌*◌, ◌<◌, ◌≤◌, List, length}
use Rattle.row_elimination.specs.declared.stages.Stage.{Stage}
use Rattle.row_elimination.specs.declared.stages.Stage.TheVariants as stage
use Rattle.row_elimination.specs.HeldPlaces.{gained_held}
use Rattle.row_arena.specs.Rows.{words_for}
use Rattle.row_elimination.specs.HeldTable.{Grid}
use Rattle.frag_model.specs.Limits.{max_frag_size, max_pieces}

-- the fields of a solver, with the capacities of what a line and its columns are written to
pub record IsSolver (g : Grid) (at : Stage) (line_cap picks_cap : ℕ) (line picks part : List ℕ) : Type 0 where
  pub line_held : words_for g.room.pieces ≤ line_cap
  pub picks_held : 64 * words_for g.room.pieces ≤ picks_cap
  pub line_sized : words_for g.shape.nb_frag ≤ length line
  pub picks_sized : 64 * words_for g.shape.nb_frag ≤ length picks
  pub part_sized : length part ≡ max_frag_size
  pub most : g.shape.nb_frag ≤ max_pieces
  pub small : g.shape.frag_size ≤ max_frag_size
  pub some : at ≡ stage.Receiving → 1 ≤ g.shape.frag_size
  pub more : at ≡ stage.Receiving → gained_held g.places < g.shape.nb_frag
