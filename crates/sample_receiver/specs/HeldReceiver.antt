-- What the calls of the receiver do to the session that its slot stands for: its setup and all that it heard since.
use Rattle.std.specs.Prelude.{◌≡◌, ℕ, List, length, Option, Some, None}
use Rattle.wire_base.specs.declared.refusal.Direction.TheVariants.{Down}
use Rattle.cast_wire.specs.declared.cmd.Cmd.TheVariants.{DataFragment}
use Rattle.cast_wire.specs.Table.{Spells}
use Rattle.frag_session.specs.declared.setups.SetupReq.{SetupReq}
use Rattle.frag_session.specs.declared.setups.Limits.{Limits}
use Rattle.frag_session.specs.declared.answers.Via.TheVariants.{Unicast}
use Rattle.frag_session.specs.declared.answers.Verdict.{Verdict}
use Rattle.frag_session.specs.declared.answers.Verdict.TheVariants as verdict
use Rattle.frag_session.specs.Held.{HeldSlot}
use Rattle.row_elimination.specs.Room.{Extent}
use Rattle.frag_session.specs.HeldSteps.{extent_of}
use Rattle.frag_session.specs.HeldHistory.{Stands}
use Rattle.frag_session.specs.Setup.{Room, memory_room, setup_bits}
use Rattle.frag_session.specs.Session.{Session, Seen, after_setup, after_fragment}

-- 256 pieces of 48 bytes
abbrev pub extent : Extent
extent = record { area = 12288; pieces = 256 }

-- and 16 rows of 4 words and 48 bytes
abbrev pub room : Room
room = memory_room 64 768 extent

abbrev pub limits : Limits
limits = record { sessions = 1; rows = 16; descriptor = None }

-- a slot with that room stands for the session, or for none
pub record ReceiverStands (slot : HeldSlot) (s : Option Session) : Type 0 where
  pub extent_is : extent_of slot ≡ extent
  pub stands : Stands slot s

-- a setup is answered with all its refusal bits, and without one there is its session
abbrev pub SetsUp : (old new : HeldSlot) → SetupReq → (bits : ℕ) → Type 0
SetsUp old new req bits = (s : Option Session) → ReceiverStands old s
    → (bits ≡ setup_bits limits room req) × ReceiverStands new (after_setup limits room s req)

-- the payload is this fragment of session 0, and nothing else
abbrev pub IsFragment : (payload : List ℕ) → (n : ℕ) → (part : List ℕ) → Type 0
IsFragment payload n part = Spells (DataFragment 0 n part) 201 Down payload 0 (length payload)

-- a payload that is a fragment of session 0 is heard, and any other changes nothing
pub record Hears (old new : HeldSlot) (payload : List ℕ) (mark : ℕ) : Type 0 where
  pub heard : (n : ℕ) (part : List ℕ) (s : Option Session) → IsFragment payload n part
      → ReceiverStands old s → ReceiverStands new (after_fragment s Unicast n part mark)
  pub other : ((n : ℕ) (part : List ℕ) → ¬ IsFragment payload n part) → new ≡ old

-- the file, where only one fits what was heard
abbrev pub file_by : Verdict → List ℕ → Option (List ℕ)
file_by (verdict.Complete mark) file = Some file
file_by verdict.Receiving file = None
file_by (verdict.NoRows mark) file = None
file_by (verdict.Conflict mark) file = None

abbrev pub whole_file : Option Seen → Option (List ℕ)
whole_file None = None
whole_file (Some seen) = file_by seen.verdict seen.file
