-- Whether a storage and an area are large enough for a file.
use Rattle.std.specs.Prelude.{ℕ, ◌*◌, Bool, ◌&&◌, nat_le}
use Rattle.frag_model.specs.Limits.{max_pieces}
unfoldable pub use Rattle.row_arena.specs.Rows.{words_for}

-- what a solver's memory is for: the bytes of its area, and the most pieces of a file
pub record Extent : Type 0 where
  pub area : ℕ
  pub pieces : ℕ

-- that of an area, for files of as many pieces as any has
abbrev pub extent_for : ℕ → Extent
extent_for area = record { area = area; pieces = max_pieces }

-- so many rows of a file fit in so many words and bytes, its pieces in the area, and there are no more than are taken
unfoldable pub has_room : (words bytes : ℕ) → Extent → (nb_frag frag_size rows : ℕ) → Bool
has_room words bytes extent nb_frag frag_size rows =
    nat_le (rows * words_for nb_frag) words && nat_le (rows * frag_size) bytes
    && nat_le (nb_frag * frag_size) extent.area && nat_le nb_frag extent.pieces
