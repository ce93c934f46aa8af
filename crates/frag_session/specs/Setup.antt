-- Setups: when one is refused, and when two are equal. (TS004-1.0.0, FragSessionSetupReq and FragSessionSetupAns.)
use Rattle.std.specs.Prelude.{ℕ, ◌+◌, ◌*◌, min, Bool, false, ◌&&◌, ◌||◌, not, ◌==◌, nat_lt, nat_le, Option, Some, None, if◌then◌else◌}
use Rattle.frag_session.specs.declared.setups.SetupReq.{SetupReq}
use Rattle.frag_session.specs.declared.setups.Limits.{Limits}
use Rattle.row_elimination.specs.Room.{Extent, has_room}
use Rattle.frag_model.specs.Limits.{max_frag_size, max_pieces}

-- a coding that is not TS004's, or numbers that make no file
unfoldable pub wrong_coding : SetupReq → Bool
wrong_coding req = not (req.algo == 0) || req.nb_frag == 0 || req.frag_size == 0 || nat_le req.frag_size req.padding

-- what there is for a session: words and bytes for rows, memory for the file, and bytes of flash, where it is kept there
pub record Room : Type 0 where
  pub words : ℕ
  pub bytes : ℕ
  pub extent : Extent
  pub span : Option ℕ

-- that of a session which is kept only in memory
abbrev pub memory_room : (words bytes : ℕ) → Extent → Room
memory_room words bytes extent = record { words = words; bytes = bytes; extent = extent; span = None }

-- the bytes of flash that a session takes: its setup and gates, and for each fragment that can tell something new a record
-- of its number, mark and data (this project's profile)
abbrev pub flash_for : SetupReq → ℕ
flash_for req = 24640 + (2 * req.nb_frag + 1) * (10 + req.frag_size)

-- more than there is flash for
abbrev pub too_long : Option ℕ → SetupReq → Bool
too_long None req = false
too_long (Some span) req = nat_lt span (flash_for req)

-- the rows of a session: as many as are kept, and no more than there are pieces
abbrev pub rows_of : ℕ → SetupReq → ℕ
rows_of rows req = min rows req.nb_frag

-- more than is ever kept, or more than there is room for
unfoldable pub too_large : Room → ℕ → SetupReq → Bool
too_large room rows req =
    too_long room.span req || nat_lt max_pieces req.nb_frag || nat_lt max_frag_size req.frag_size
    || not (has_room room.words room.bytes room.extent req.nb_frag req.frag_size (rows_of rows req))

-- only one descriptor is accepted, and it is another
unfoldable pub other_descriptor : Option ℕ → ℕ → Bool
other_descriptor None descriptor = false
other_descriptor (Some wanted) descriptor = not (descriptor == wanted)

-- the value of a bit that is set where the test holds
abbrev pub bit_where : Bool → ℕ → ℕ
bit_where test value = if test then value else 0

-- all refusal bits of a request together
unfoldable pub setup_bits : Limits → Room → SetupReq → ℕ
setup_bits limits room req =
    bit_where (wrong_coding req) 1 + bit_where (too_large room limits.rows req) 2 + bit_where (nat_le limits.sessions req.index) 4
    + bit_where (other_descriptor limits.descriptor req.descriptor) 8

-- all eight fields are equal
unfoldable pub same_setup : SetupReq → SetupReq → Bool
same_setup a b =
    a.index == b.index && a.mask == b.mask && a.nb_frag == b.nb_frag && a.frag_size == b.frag_size
    && a.algo == b.algo && a.delay == b.delay && a.padding == b.padding && a.descriptor == b.descriptor

-- a session stays at an equal request
unfoldable pub lives : Option SetupReq → SetupReq → Bool
lives None req = false
lives (Some setup) req = same_setup setup req
