-- When a session in flash stands for a history, and what is in a range for one.
use Rattle.std.specs.Prelude.{◌≡◌, ℕ, ◌+◌, ◌*◌, ◌≤◌, min, List, [], ◌∷◌, length, Option, None, Some}
use Rattle.frag_model.specs.Fragments.{Fragment}
use Rattle.frag_model.specs.News.{news, MeanTheSame}
use Rattle.frag_session.specs.Limits.{max_received}
use Rattle.frag_session.specs.Setup.{rows_of, setup_bits}
use Rattle.frag_session.specs.Session.{Session, shape_of, cause_of, received_count}
use Rattle.frag_session.specs.declared.setups.SetupReq.{SetupReq}
use Rattle.frag_session.specs.declared.answers.Via.TheVariants as via
use Rattle.frag_session.specs.Held.{HeldSlot}
use Rattle.frag_session.specs.HeldHistory.{Stands}
use Rattle.flash_session.specs.Body.{IsBody}
use Rattle.flash_session.specs.HeldSession.{HeldSession, room_in}
use Rattle.flash_session.specs.InRange.{AllInRange}
use Rattle.flash_session.specs.Layout.{most_tallies}
use Rattle.flash_session.specs.Lies.{Stored, Lies, NoSession, IsStoredAs}
use Rattle.flash_session.specs.Seen.{FlashSeen}

-- a session as it is stored: of what it heard, what was new is a record
unfoldable pub stored_of : Session → (body : List ℕ) → (tallies : ℕ) → Stored
stored_of s body tallies = record {
  body = body;
  most = 2 * s.setup.nb_frag + 1;
  size = s.setup.frag_size;
  records = news (shape_of s) s.heard;
  tallies = tallies;
}

abbrev pub stored_as : Option Session → (body : List ℕ) → (tallies : ℕ) → Option Stored
stored_as None body tallies = None
stored_as (Some s) body tallies = Some (stored_of s body tallies)

-- the body is that of the session, if there is one
abbrev pub IsBodyOf : List ℕ → Option Session → Type 0
IsBodyOf body None = Unit {0}
IsBodyOf body (Some s) = IsBody body s.setup

-- records and tallies together number what was heard, up to the count's end
abbrev pub IsCount : Session → ℕ → Type 0
IsCount s tallies = min (length (news (shape_of s) s.heard) + tallies) max_received ≡ received_count (length s.heard)

-- a session that heard another list
unfoldable pub hearing : Session → List Fragment → Session
hearing s heard = record s { heard = heard }

-- the slot stands for a list that means the same, so except for the count it shows what the session shows
pub record StandsBut (x : HeldSlot) (s : Session) : Type 0 where
  pub fed : List Fragment
  pub stands : Stands x (Some (hearing s fed))
  pub means : MeanTheSame (shape_of s) fed s.heard

-- each is a fragment that the session hears
abbrev pub AreHearable : SetupReq → List Fragment → Type 0
AreHearable setup [] = Unit {0}
AreHearable setup (f ∷ older) = (cause_of setup via.Unicast f.number f.part ≡ None) × AreHearable setup older

-- it can be opened: its setup has no refusal bit, that on the range's length included, and what it heard is heard again, with
-- numbers that a record has room for
pub record IsOpenable (h : HeldSession) (s : Session) : Type 0 where
  pub taken : setup_bits h.limits (room_in h) s.setup ≡ 0
  pub rows : s.rows ≡ rows_of h.limits.rows s.setup
  pub hearable : AreHearable s.setup s.heard
  pub ranged : AllInRange (news (shape_of s) s.heard)

-- the session is there, and can be opened: opening gives what stands for it
pub record LiesFor (h : HeldSession) (s : Session) (c : List ℕ) : Type 0 where
  pub openable : IsOpenable h s
  pub body : List ℕ
  pub tallies : ℕ
  pub its_body : IsBody body s.setup
  pub counted : IsCount s tallies
  pub lies : Lies h.base (stored_of s body tallies) c

-- or that there is none
abbrev pub LiesForAs : HeldSession → Option Session → List ℕ → Type 0
LiesForAs h None c = NoSession h.base c
LiesForAs h (Some s) c = LiesFor h s c

-- what is held in memory stands for the session, except for the count
pub record HeldStands (h : HeldSession) (s : Session) : Type 0 where
  pub slot : StandsBut h.slot s
  pub openable : IsOpenable h s
  pub records : h.records ≡ length (news (shape_of s) s.heard)
  pub few : h.tallies ≤ most_tallies

abbrev pub HeldStandsAs : HeldSession → Option Session → Type 0
HeldStandsAs h None = Stands h.slot None
HeldStandsAs h (Some s) = HeldStands h s

-- and its count too
abbrev pub CountsAs : HeldSession → Option Session → Type 0
CountsAs h None = Unit {0}
CountsAs h (Some s) = IsCount s h.tallies

-- what is held stands for the session except for the count, and is what a read gives, and what a stop leaves in the range
pub record IsHeldBut (h : HeldSession) (o : Option Session) (seen : FlashSeen) : Type 0 where
  pub stands : HeldStandsAs h o
  pub body : List ℕ
  pub its_body : IsBodyOf body o
  pub stored : IsStoredAs h.base h.span (stored_as o body h.tallies) seen

-- and all this is what a read gives, and what a stop leaves in the range
pub record IsHeldAs (h : HeldSession) (o : Option Session) (seen : FlashSeen) : Type 0 where
  pub stands : HeldStandsAs h o
  pub counted : CountsAs h o
  pub body : List ℕ
  pub its_body : IsBodyOf body o
  pub stored : IsStoredAs h.base h.span (stored_as o body h.tallies) seen
