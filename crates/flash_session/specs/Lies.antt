-- What the bytes of a range stand for, place by place.
use Rattle.std.specs.Prelude.{◌≡◌, ◌≢◌, ℕ, ◌+◌, ◌*◌, ◌<◌, ◌≤◌, List, [], ◌∷◌, length, get_or, Option, None, Some}
use Rattle.frag_model.specs.Fragments.{Fragment}
use Rattle.flash_session.specs.Contents.{byte_at, SameWithin, Follows}
use Rattle.flash_session.specs.Seen.{FlashSeen, left}
use Rattle.flash_session.specs.Layout.{open_gate, body_size, most_records, gates_size, records_place}
use Rattle.flash_session.specs.Layout.{body_at, gates_at, tallies_at, most_tallies, records_at, spelled}

-- a session as it is stored in flash: the bytes of its setup, how many records it has at most, the bytes of a record's data, its
-- records, newest first, and how many fragments were noted only by a gate
pub record Stored : Type 0 where
  pub body : List ℕ
  pub most : ℕ
  pub size : ℕ
  pub records : List Fragment
  pub tallies : ℕ

-- these bytes are there
pub record SpelledAt (c : List ℕ) (at : ℕ) (piece : List ℕ) : Type 0 where
  pub bytes : (i : ℕ) → i < length piece → byte_at c (at + i) ≡ get_or piece i 0

-- of at most so many gates the first n are open, and no other
pub record GatesOpen (c : List ℕ) (at n most : ℕ) : Type 0 where
  pub few : n ≤ most
  pub opened : (k : ℕ) → k < n → byte_at c (at + k) ≡ open_gate
  pub shut : (k : ℕ) → n ≤ k → k < most → byte_at c (at + k) ≢ open_gate

-- where record k begins
abbrev pub record_at : ℕ → ℕ → ℕ → ℕ
record_at base size k = records_at base + (10 + size) * k

-- the records, newest first
abbrev pub RecordsLie : List ℕ → ℕ → ℕ → List Fragment → Type 0
RecordsLie c base size [] = Unit {0}
RecordsLie c base size (f ∷ older) =
    (length f.part ≡ size) × SpelledAt c (record_at base size (length older)) (spelled f) × RecordsLie c base size older

-- the session is there
pub record Lies (base : ℕ) (s : Stored) (c : List ℕ) : Type 0 where
  pub header : byte_at c base ≡ open_gate
  pub body : SpelledAt c (body_at base) s.body
  pub gates : GatesOpen c (gates_at base) (length s.records) s.most
  pub tallies : GatesOpen c (tallies_at base) s.tallies most_tallies
  pub records : RecordsLie c base s.size s.records

-- the session fits in the range
pub record Fits (span : ℕ) (s : Stored) : Type 0 where
  pub body : length s.body ≡ body_size
  pub most : s.most ≤ most_records
  pub room : records_place + (10 + s.size) * s.most ≤ span

-- one record more
unfoldable pub with_record : Stored → Fragment → Stored
with_record s f = record s { records = f ∷ s.records }

-- one tally more
unfoldable pub with_tally : Stored → Stored
with_tally s = record s { tallies = s.tallies + 1 }

-- ---- with a session or without

-- there is no session: the header's gate is not open, whatever comes after it
abbrev pub NoSession : ℕ → List ℕ → Type 0
NoSession base c = byte_at c base ≢ open_gate

abbrev pub LiesAs : ℕ → Option Stored → List ℕ → Type 0
LiesAs base None c = NoSession base c
LiesAs base (Some s) c = Lies base s c

abbrev pub FitsAs : ℕ → Option Stored → Type 0
FitsAs span None = Unit {0}
FitsAs span (Some s) = Fits span s

-- a read gives the session, or that there is none, and a stop leaves in the range what a read gives
pub record IsStoredAs (base span : ℕ) (o : Option Stored) (seen : FlashSeen) : Type 0 where
  pub fits : FitsAs span o
  pub read : (b : List ℕ) → seen.holds b → LiesAs base o b
  pub kept : Follows (SameWithin base span) seen.holds (left seen)

abbrev pub IsStored : (base span : ℕ) → Stored → FlashSeen → Type 0
IsStored base span s seen = IsStoredAs base span (Some s) seen

-- a session that heard nothing
abbrev pub new_stored : List ℕ → ℕ → ℕ → Stored
new_stored body most size = record { body = body; most = most; size = size; records = []; tallies = 0 }

-- the parts of a session that heard nothing are there, after the header's gate
pub record IsCleared (base : ℕ) (body : List ℕ) (c : List ℕ) : Type 0 where
  pub body_is : SpelledAt c (body_at base) body
  pub gates : (k : ℕ) → k < gates_size → byte_at c (gates_at base + k) ≡ 0
