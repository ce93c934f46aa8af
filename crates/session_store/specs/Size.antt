-- The sizes of a device's sessions, and the room for one (this project's profile).
use Rattle.std.specs.Prelude.{ℕ, ◌*◌, Bool, nat_le, if◌then◌else◌, Some, None}
use Rattle.frag_model.specs.Limits.{max_pieces}
use Rattle.frag_session.specs.declared.setups.Limits.{Limits}
use Rattle.frag_session.specs.Setup.{Room, memory_room}
use Rattle.row_elimination.specs.Room.{Extent}
use Rattle.session_store.specs.declared.held_slots.Layout.{Layout}
use Rattle.session_store.specs.declared.sizes.SessionSize.{SessionSize}
use Rattle.session_store.specs.declared.sizes.SessionSize.TheVariants.{Small, Middle, Rows16, Rows64, Large}

-- so many pieces, and so many words of 64 columns and bytes for rows
pub record Size : Type 0 where
  pub pieces : ℕ
  pub words : ℕ
  pub bytes : ℕ

-- the words of 256 rows of 4,096 columns, of 239 bytes each
abbrev pub row_words : ℕ
row_words = 16384

-- the bytes of these
abbrev pub row_bytes : ℕ
row_bytes = 61184

-- 16 rows of 256 columns and 48 bytes
abbrev pub small_size : Size
small_size = record { pieces = 256; words = 64; bytes = 768 }

-- 64 rows of 1,024 columns and 48 bytes
abbrev pub middle_size : Size
middle_size = record { pieces = 1024; words = 1024; bytes = 3072 }

-- any file, with so many rows of 4,096 columns and 239 bytes
abbrev pub any_file : (rows : ℕ) → Size
any_file rows = record { pieces = max_pieces; words = 64 * rows; bytes = 239 * rows }

-- the largest
abbrev pub large_size : Size
large_size = any_file 256

-- the least for any file that has so many rows
abbrev pub size_for : (rows : ℕ) → Size
size_for rows = any_file (if nat_le rows 16 then 16 else if nat_le rows 64 then 64 else 256)

-- the numbers of each
abbrev pub size_with : SessionSize → Size
size_with Small = small_size
size_with Middle = middle_size
size_with Rows16 = any_file 16
size_with Rows64 = any_file 64
size_with Large = large_size

-- what a session's memory is for, with so many bytes for its file
abbrev pub session_extent : Size → (area : ℕ) → Extent
session_extent size area = record { area = area; pieces = size.pieces }

-- what there is for a session in memory
abbrev pub memory_of : SessionSize → (area : ℕ) → Room
memory_of size area =
    memory_room (size_with size).words (size_with size).bytes (session_extent (size_with size) area)

-- how sessions of a size are laid out in flash
pub record SizedLayout : Type 0 where
  pub size : Size
  pub area : ℕ
  pub span : ℕ
  pub limits : Limits

-- a layout of sessions of this size
abbrev pub laid_out : Size → Layout → SizedLayout
laid_out size layout = record { size = size; area = layout.area; span = layout.span; limits = layout.limits }

-- the same by the numbers of a size
abbrev pub laid_by : (pieces words bytes : ℕ) → Layout → SizedLayout
laid_by pieces words bytes layout = laid_out (record { pieces = pieces; words = words; bytes = bytes }) layout

-- what the memory of each is for
abbrev pub extent_in : SizedLayout → Extent
extent_in layout = session_extent layout.size layout.area

-- the room for a session: where it is held in flash, its range too
abbrev pub store_room : SizedLayout → (held : Bool) → Room
store_room layout held = record {
  words = layout.size.words;
  bytes = layout.size.bytes;
  extent = extent_in layout;
  span = if held then Some layout.span else None;
}
