-- What is found in a range when it is opened.
use Rattle.std.specs.Prelude.{◌≡◌, ℕ, ◌+◌, ◌*◌, ◌≤◌, List, [], ◌∷◌, length, Option, Some, None, MatchOption}
use Rattle.frag_model.specs.Fragments.{Fragment}
use Rattle.frag_session.specs.declared.setups.Limits.{Limits}
use Rattle.frag_session.specs.declared.setups.SetupReq.{SetupReq}
use Rattle.frag_session.specs.Held.{HeldSlot, idle}
use Rattle.frag_session.specs.Session.{Session, new_session}
use Rattle.frag_session.specs.Setup.{setup_bits}
use Rattle.frag_session.specs.HeldHistory.{Stands}
use Rattle.row_elimination.specs.Room.{Extent}
use Rattle.frag_session.specs.HeldSteps.{extent_of}
use Rattle.flash_session.specs.Body.{IsBody}
use Rattle.flash_session.specs.Contents.{byte_at}
use Rattle.flash_session.specs.declared.finding.Counts.{Counts}
use Rattle.flash_session.specs.HeldSession.{HeldSession, room_in}
use Rattle.flash_session.specs.InRange.{InRange, AllInRange}
use Rattle.flash_session.specs.Layout.{open_gate, body_at, gates_at, tallies_at, most_tallies, spelled}
use Rattle.flash_session.specs.Lies.{RecordsLie, SpelledAt, GatesOpen, NoSession, record_at}
use Rattle.flash_session.specs.Opening.{IsFed, setup_there}
use Rattle.flash_session.specs.Seen.{FlashSeen}
use Rattle.flash_session.specs.Sessions.{hearing}

-- each is new after those before it
abbrev pub AllFed : Session → List Fragment → Type 0
AllFed s [] = Unit {0}
AllFed s (f ∷ older) = IsFed s older f × AllFed s older

-- the first k records are there, each is new after those before it, and the slot stands for them
pub record Replayed (s : Session) (x : HeldSlot) (holds : List ℕ → Type 0) (base size k : ℕ) : Type 0 where
  pub records : List Fragment
  pub count : length records ≡ k
  pub ranged : AllInRange records
  pub lie : (b : List ℕ) → holds b → RecordsLie b base size records
  pub fed : AllFed s records
  pub stands : Stands x (Some (hearing s records))

-- the record after them is dropped, or is not new
pub record StopsAt (s : Session) (holds : List ℕ → Type 0) (base size k : ℕ) : Type 0 where
  pub records : List Fragment
  pub count : length records ≡ k
  pub ranged : AllInRange records
  pub lie : (b : List ℕ) → holds b → RecordsLie b base size records
  pub fed : AllFed s records
  pub next : Fragment
  pub in_range : InRange next
  pub sized : length next.part ≡ size
  pub there : (b : List ℕ) → holds b → SpelledAt b (record_at base size k) (spelled next)
  pub foreign : IsFed s records next → ⊥

-- a place for a session, of which nothing is known yet
abbrev pub place_in : (words bytes base span : ℕ) → Limits → Extent → HeldSession
place_in words bytes base span limits extent = record {
  slot = idle extent;
  limits = limits;
  base = base;
  span = span;
  records = 0;
  tallies = 0;
  words = words;
  bytes = bytes;
}

-- the header of a session with this setup is there, and the setup is accepted
pub record HasHeader (h : HeldSession) (setup : SetupReq) (c : List ℕ) : Type 0 where
  pub header : byte_at c h.base ≡ open_gate
  pub setup_is : setup_there h c ≡ setup
  pub fine : setup_bits h.limits (room_in h) setup ≡ 0

-- after it there are so many records and tallies, and the slot heard the records
pub record IsFound (limits : Limits) (setup : SetupReq) (x : HeldSlot) (holds : List ℕ → Type 0) (base : ℕ) (counts : Counts) : Type 0 where
  pub replayed : Replayed (new_session limits setup) x holds base setup.frag_size counts.records
  pub gates : (b : List ℕ) → holds b → GatesOpen b (gates_at base) counts.records (2 * setup.nb_frag + 1)
  pub tallies : (b : List ℕ) → holds b → GatesOpen b (tallies_at base) counts.tallies most_tallies
  pub few : counts.tallies ≤ most_tallies

-- a session is found
pub record IsOpened (h : HeldSession) (x : HeldSlot) (holds : List ℕ → Type 0) (counts : Counts) : Type 0 where
  pub body : List ℕ
  pub setup : SetupReq
  pub its_body : IsBody body setup
  pub spelled_there : (b : List ℕ) → holds b → SpelledAt b (body_at h.base) body
  pub header : (b : List ℕ) → holds b → byte_at b h.base ≡ open_gate
  pub fine : setup_bits h.limits (room_in h) setup ≡ 0
  pub found : IsFound h.limits setup x holds h.base counts

-- or none
pub record IsEmpty (h : HeldSession) (x : HeldSlot) (holds : List ℕ → Type 0) : Type 0 where
  pub none : (b : List ℕ) → holds b → NoSession h.base b
  pub stands : Stands x None

-- one or the other
abbrev pub Finds : HeldSession → HeldSlot → Option Counts → FlashSeen → Type 0
Finds h x o seen = MatchOption o (IsEmpty h x seen.holds) (λ c. IsOpened h x seen.holds c)

-- what is held is this place
pub record IsPlaceOf (h : HeldSession) (words bytes base span : ℕ) (limits : Limits) (extent : Extent) : Type 0 where
  pub words_are : h.words ≡ words
  pub bytes_are : h.bytes ≡ bytes
  pub base_is : h.base ≡ base
  pub span_is : h.span ≡ span
  pub limits_are : h.limits ≡ limits
  pub extent_is : extent_of h.slot ≡ extent
