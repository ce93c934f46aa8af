-- A session in flash, byte by byte, and what is none, worked out (this project's profile).
use Rattle.std.specs.Prelude.{◌≡◌, ◌≢◌, ℕ, ◌+◌, true, false, List, [], ◌∷◌, ◌++◌, replicate, None}
use Rattle.frag_model.specs.Fragments.{Fragment}
use Rattle.frag_session.specs.declared.setups.SetupReq.{SetupReq}
use Rattle.row_elimination.specs.Room.{extent_for}
use Rattle.flash_session.specs.Body.{setup_bytes, setup_in, setup_at}
use Rattle.flash_session.specs.Contents.{byte_at}
use Rattle.flash_session.specs.Flashes.{Calls, fails_next}
use Rattle.flash_session.specs.HeldSession.{HeldSession}
use Rattle.flash_session.specs.Layout.{spelled}
use Rattle.flash_session.specs.Lies.{Stored, Lies}
use Rattle.flash_session.specs.Opening.{IsForeign, IsFirstForeign}
use Rattle.flash_session.specs.Replayed.{place_in}
use Rattle.flash_session.specs.Sessions.{stored_of}

-- ---- spellings

-- index 1 for group 1: 258 fragments of 3 bytes, with one byte of padding; BlockAckDelay 4
abbrev pub worked_setup : SetupReq
worked_setup = record { index = 1; mask = 2; nb_frag = 258; frag_size = 3; algo = 0; delay = 4; padding = 1; descriptor = 0x0a0b0c0d }

pub record WorkedSpellings : Type 0 where
  -- a setup, low bytes first
  pub body : setup_bytes worked_setup ≡ 0x12 ∷ 0x02 ∷ 0x01 ∷ 0x03 ∷ 0x04 ∷ 0x01 ∷ 0x0d ∷ 0x0c ∷ 0x0b ∷ 0x0a ∷ []
  pub read : setup_in (0x12 ∷ 0x02 ∷ 0x01 ∷ 0x03 ∷ 0x04 ∷ 0x01 ∷ 0x0d ∷ 0x0c ∷ 0x0b ∷ 0x0a ∷ []) ≡ worked_setup
  pub there : setup_at (0xa5 ∷ 0x12 ∷ 0x02 ∷ 0x01 ∷ 0x03 ∷ 0x04 ∷ 0x01 ∷ 0x0d ∷ 0x0c ∷ 0x0b ∷ 0x0a ∷ []) 1 ≡ worked_setup
  -- reserved bits are ignored, and the coding is read
  pub reserved : setup_in (0xd2 ∷ 0x02 ∷ 0x01 ∷ 0x03 ∷ 0xc4 ∷ 0x01 ∷ 0x0d ∷ 0x0c ∷ 0x0b ∷ 0x0a ∷ []) ≡ worked_setup
  pub coding : setup_in (0x12 ∷ 0x02 ∷ 0x01 ∷ 0x03 ∷ 0x0c ∷ 0x01 ∷ 0x0d ∷ 0x0c ∷ 0x0b ∷ 0x0a ∷ []) ≡ record worked_setup { algo = 1 }
  -- a record: its number, its mark and its data
  pub entry : spelled (record { number = 0x0102; part = 0x07 ∷ 0x08 ∷ 0x09 ∷ []; mark = 0x1112131415161718 })
      ≡ 0x02 ∷ 0x01 ∷ 0x18 ∷ 0x17 ∷ 0x16 ∷ 0x15 ∷ 0x14 ∷ 0x13 ∷ 0x12 ∷ 0x11 ∷ 0x07 ∷ 0x08 ∷ 0x09 ∷ []

-- ---- a stored session

-- these bytes are there
abbrev pub AreAt : List ℕ → (at : ℕ) → List ℕ → Type 0
AreAt c at [] = Unit {0}
AreAt c at (byte ∷ bytes) = (byte_at c at ≡ byte) × AreAt c (at + 1) bytes

-- a session of two fragments of 3 bytes, with two records, newest first, and a fragment that was only counted
abbrev pub worked_stored : Stored
worked_stored = record {
  body = setup_bytes (record worked_setup { nb_frag = 2 });
  most = 5;
  size = 3;
  records = record { number = 4; part = 0x0a ∷ 0x0b ∷ 0x0c ∷ []; mark = 9 }
      ∷ record { number = 1; part = 0x07 ∷ 0x08 ∷ 0x09 ∷ []; mark = 7 } ∷ [];
  tallies = 1;
}

-- it is in the range from byte 100 on
abbrev pub LiesAt100 : List ℕ → Type 0
LiesAt100 c = Lies 100 worked_stored c

-- the one fragment of a session for one byte
abbrev pub whole_at : (mark : ℕ) → Fragment
whole_at mark = record { number = 1; part = 0x07 ∷ []; mark = mark }

abbrev pub small_setup : SetupReq
small_setup = record worked_setup { nb_frag = 1; frag_size = 1; padding = 0 }

pub record WorkedSession : Type 0 where
  -- the header's gate, and the setup
  pub header : (c : List ℕ) → LiesAt100 c → AreAt c 100 (0xa5 ∷ 0x12 ∷ 0x02 ∷ 0x00 ∷ 0x03 ∷ 0x04 ∷ 0x01 ∷ 0x0d ∷ 0x0c ∷ 0x0b ∷ 0x0a ∷ [])
  -- two of five gates of records are open
  pub gates : (c : List ℕ) → LiesAt100 c → AreAt c 164 (0xa5 ∷ 0xa5 ∷ [])
  pub next_gate : (c : List ℕ) → LiesAt100 c → byte_at c 166 ≢ 0xa5
  pub last_gate : (c : List ℕ) → LiesAt100 c → byte_at c 168 ≢ 0xa5
  -- and one of 16,383 for a fragment that was not new
  pub tally : (c : List ℕ) → LiesAt100 c → AreAt c 8357 (0xa5 ∷ [])
  pub next_tally : (c : List ℕ) → LiesAt100 c → byte_at c 8358 ≢ 0xa5
  pub last_tally : (c : List ℕ) → LiesAt100 c → byte_at c 24739 ≢ 0xa5
  -- the records, oldest first
  pub oldest : (c : List ℕ) → LiesAt100 c
      → AreAt c 24740 (0x01 ∷ 0x00 ∷ 0x07 ∷ 0x00 ∷ 0x00 ∷ 0x00 ∷ 0x00 ∷ 0x00 ∷ 0x00 ∷ 0x00 ∷ 0x07 ∷ 0x08 ∷ 0x09 ∷ [])
  pub newest : (c : List ℕ) → LiesAt100 c
      → AreAt c 24753 (0x04 ∷ 0x00 ∷ 0x09 ∷ 0x00 ∷ 0x00 ∷ 0x00 ∷ 0x00 ∷ 0x00 ∷ 0x00 ∷ 0x00 ∷ 0x0a ∷ 0x0b ∷ 0x0c ∷ [])
  -- the first fragment heard is a record, and one that comes again is none
  pub stored : stored_of (record { setup = small_setup; rows = 1; heard = whole_at 8 ∷ whole_at 7 ∷ [] }) (setup_bytes small_setup) 1
      ≡ record { body = setup_bytes small_setup; most = 3; size = 1; records = whole_at 7 ∷ []; tallies = 1 }

-- ---- what is no session's

-- a range from byte 2 on
abbrev pub place_2 : HeldSession
place_2 = place_in 16384 61184 2 30000 (record { sessions = 4; rows = 256; descriptor = None }) (extent_for 262382)

-- what is read there: the header's gate and a setup of so many fragments of 3 bytes, and then these bytes from the gates on;
-- after them nothing is open
abbrev pub content : (nb_frag : ℕ) → List ℕ → List ℕ
content nb_frag gates =
    0x00 ∷ 0x00 ∷ 0xa5 ∷ 0x12 ∷ nb_frag ∷ 0x00 ∷ 0x03 ∷ 0x04 ∷ 0x01 ∷ 0x0d ∷ 0x0c ∷ 0x0b ∷ 0x0a ∷ replicate 53 0x00 ++ gates

pub record WorkedForeign : Type 0 where
  -- a setup that is refused, here without fragments, is the first foreign place
  pub setup : IsFirstForeign place_2 (content 0 []) 1
  -- a gate that is open after a closed one
  pub gate : IsForeign place_2 (content 2 (0x00 ∷ 0xa5 ∷ [])) 65
  pub tally : (c : List ℕ) → byte_at c 8259 ≡ 0x00 → byte_at c 8260 ≡ 0xa5 → IsForeign place_2 c 8258
  -- a record of fragment 0, which no session hears
  pub entry : IsForeign place_2 (content 2 (0xa5 ∷ [])) 24640
  pub next_entry : IsForeign place_2 (content 2 (0xa5 ∷ 0xa5 ∷ [])) 24653

-- ---- calls of a flash in memory

-- so many calls came, and those of these numbers fail; 2 of 5 steps are taken
abbrev pub calls_of : (made : ℕ) → (fails : List ℕ) → Calls
calls_of made fails = record { room = 5; taken = 2; fails = fails; made = made }

pub record WorkedCalls : Type 0 where
  -- they are numbered from 1
  pub first : fails_next (calls_of 0 (1 ∷ [])) 0 ≡ true
  pub second : fails_next (calls_of 1 (1 ∷ [])) 0 ≡ false
  pub none : fails_next (calls_of 0 (0 ∷ [])) 0 ≡ false
  -- a call fails where no room is left for its steps
  pub room : fails_next (calls_of 0 []) 3 ≡ false
  pub no_room : fails_next (calls_of 0 []) 4 ≡ true
