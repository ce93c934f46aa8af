-- The sizes that a device's rows decide (this project's profile).
use Rattle.std.specs.Prelude.{◌≡◌, ℕ, ◌≤◌, Bool}
use Rattle.frag_session.specs.declared.setups.SetupReq.{SetupReq}
use Rattle.frag_session.specs.Setup.{setup_bits}
use Rattle.session_store.specs.Size.{Size, SizedLayout, store_room, any_file, size_for, large_size, row_words, row_bytes}

-- the refusal bits of sessions laid out so, were they of this size
abbrev pub bits_of : SizedLayout → Size → (held : Bool) → SetupReq → ℕ
bits_of layout size held req = setup_bits layout.limits (store_room (record layout { size = size }) held) req

-- the least size for the rows of any file refuses nothing that the largest takes, and which size that is
pub record RowsDecide : Type 0 where
  -- sessions of the least size for the rows that are kept refuse what those of the largest do
  pub alike : (layout : SizedLayout) (held : Bool) (req : SetupReq) → layout.limits.rows ≤ 256
      → bits_of layout (size_for layout.limits.rows) held req ≡ bits_of layout large_size held req
  pub sixteen : size_for 16 ≡ any_file 16
  pub more : size_for 17 ≡ any_file 64
  pub many : size_for 64 ≡ any_file 64
  pub most : size_for 65 ≡ large_size
  pub largest : large_size ≡ record { pieces = 4096; words = row_words; bytes = row_bytes }
