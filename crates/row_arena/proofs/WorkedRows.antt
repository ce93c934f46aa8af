-- The worked rows, by computing.
use Rattle.row_arena.specs.Rows.{row_at, row_sum, words_for, has_room, line_in}
use Rattle.row_arena.specs.Sums.{after_pieces, after_flips}
use Rattle.row_arena.specs.WorkedRows.{WorkedRows}

pub rows : WorkedRows
unfolding row_at row_sum words_for has_room line_in after_pieces after_flips
rows = search
