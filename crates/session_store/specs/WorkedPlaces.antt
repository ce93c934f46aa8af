-- Where four sessions are in a flash, and the room of each, worked out (this project's profile).
use Rattle.std.specs.Prelude.{◌≡◌, ℕ, Bool, true, false, List, [], ◌∷◌, is_some, None}
use Rattle.frag_session.specs.declared.setups.SetupReq.{SetupReq}
use Rattle.frag_session.specs.Setup.{Room, setup_bits}
use Rattle.flash_session.specs.Opening.{IsFirstForeign, NothingForeign}
use Rattle.session_store.specs.HeldPlaces.{base_at, place_at, TableLies}
use Rattle.session_store.specs.HeldForeign.{IsForeignIn}
use Rattle.session_store.specs.Size.{Size, SizedLayout, store_room, small_size, middle_size, large_size}
use Rattle.session_store.specs.SessionTable.{SessionTable}

-- ranges of so many bytes
abbrev pub worked_layout : (span : ℕ) → SizedLayout
worked_layout span = record { size = large_size; area = 262382; span = span; limits = record { sessions = 4; rows = 256; descriptor = None } }

-- at which indices there is a session
abbrev pub indices : SessionTable → List Bool
indices table = is_some table.first ∷ is_some table.second ∷ is_some table.third ∷ is_some table.fourth ∷ []

-- where these bytes are in ranges of 2, the sessions are at these indices
abbrev pub AreAt : (bytes : List ℕ) → List Bool → Type 0
AreAt bytes there = (table : SessionTable) → TableLies (worked_layout 2) table bytes → indices table ≡ there

pub record WorkedRanges : Type 0 where
  -- by index, one after another
  pub first : base_at (worked_layout 30000) 0 ≡ 0
  pub second : base_at (worked_layout 30000) 1 ≡ 30000
  pub third : base_at (worked_layout 30000) 2 ≡ 60000
  pub fourth : base_at (worked_layout 30000) 3 ≡ 90000
  -- each has its gate at its first byte
  pub none_there : AreAt (0x00 ∷ 0x00 ∷ 0x00 ∷ 0x00 ∷ 0x00 ∷ 0x00 ∷ 0x00 ∷ 0x00 ∷ []) (false ∷ false ∷ false ∷ false ∷ [])
  pub first_there : AreAt (0xa5 ∷ 0x00 ∷ 0x00 ∷ 0x00 ∷ 0x00 ∷ 0x00 ∷ 0x00 ∷ 0x00 ∷ []) (true ∷ false ∷ false ∷ false ∷ [])
  pub second_there : AreAt (0x00 ∷ 0x00 ∷ 0xa5 ∷ 0x00 ∷ 0x00 ∷ 0x00 ∷ 0x00 ∷ 0x00 ∷ []) (false ∷ true ∷ false ∷ false ∷ [])
  pub third_there : AreAt (0x00 ∷ 0x00 ∷ 0x00 ∷ 0x00 ∷ 0xa5 ∷ 0x00 ∷ 0x00 ∷ 0x00 ∷ []) (false ∷ false ∷ true ∷ false ∷ [])
  pub fourth_there : AreAt (0x00 ∷ 0x00 ∷ 0x00 ∷ 0x00 ∷ 0x00 ∷ 0x00 ∷ 0xa5 ∷ 0x00 ∷ []) (false ∷ false ∷ false ∷ true ∷ [])
  -- the answer has the first foreign range, whatever is in those after it
  pub first_foreign : (bytes : List ℕ) (place : ℕ) → let l = worked_layout 30000 in
      IsFirstForeign (place_at l 0) bytes place → IsForeignIn l bytes place
  pub second_foreign : (bytes : List ℕ) (place : ℕ) → let l = worked_layout 30000 in
      NothingForeign (place_at l 0) bytes → IsFirstForeign (place_at l 30000) bytes place → IsForeignIn l bytes place
  pub third_foreign : (bytes : List ℕ) (place : ℕ) → let l = worked_layout 30000 in
      NothingForeign (place_at l 0) bytes → NothingForeign (place_at l 30000) bytes
      → IsFirstForeign (place_at l 60000) bytes place → IsForeignIn l bytes place

-- so many pieces of so many bytes
abbrev pub request : (nb_frag frag_size : ℕ) → SetupReq
request nb_frag frag_size = record {
  index = 0;
  mask = 0;
  nb_frag = nb_frag;
  frag_size = frag_size;
  algo = 0;
  delay = 0;
  padding = 0;
  descriptor = 0;
}

-- the refusal bits of a setup of so many rows, in this room
abbrev pub bits : Room → (rows nb_frag frag_size : ℕ) → ℕ
bits room rows nb_frag frag_size = setup_bits (record { sessions = 4; rows = rows; descriptor = None }) room (request nb_frag frag_size)

abbrev pub in_memory : Size → Room
in_memory size = store_room (record (worked_layout 0) { size = size }) false

pub record WorkedRooms : Type 0 where
  -- 256 rows of 4,096 columns fit, and of 239 bytes; a row more does not
  pub columns : bits (in_memory large_size) 256 4096 64 ≡ 0
  pub more_columns : bits (in_memory large_size) 257 4096 64 ≡ 2
  pub bytes : bits (in_memory large_size) 256 1097 239 ≡ 0
  pub more_bytes : bits (in_memory large_size) 257 1097 239 ≡ 2
  -- 16 rows of 256 columns and 48 bytes, and 64 of 1,024 columns and 48 bytes; a row, a piece or a byte more does not
  pub small : bits (in_memory small_size) 16 256 48 ≡ 0
  pub small_rows : bits (in_memory small_size) 17 256 48 ≡ 2
  pub small_pieces : bits (in_memory small_size) 1 257 48 ≡ 2
  pub small_bytes : bits (in_memory small_size) 16 256 49 ≡ 2
  pub middle : bits (in_memory middle_size) 64 1024 48 ≡ 0
  pub middle_rows : bits (in_memory middle_size) 65 1024 48 ≡ 2
  pub middle_pieces : bits (in_memory middle_size) 1 1025 48 ≡ 2
  pub middle_bytes : bits (in_memory middle_size) 64 1024 49 ≡ 2
  -- and the range holds all records, of 11 bytes for one byte of data
  pub range : bits (store_room (worked_layout 24673) true) 1 1 1 ≡ 0
  pub less_range : bits (store_room (worked_layout 24672) true) 1 1 1 ≡ 2
