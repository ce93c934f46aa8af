-- What the four slots of sessions hold, and when they stand for sessions.
use Rattle.std.specs.Prelude.{◌≡◌, ℕ, ◌<◌, List, length, get_or}
use Rattle.frag_session.specs.Held.{HeldSlot, idle}
use Rattle.frag_session.specs.HeldHistory.{Stands}
use Rattle.frag_session.specs.Setup.{Room, memory_room}
use Rattle.frag_session.specs.Session.{answer_of, drop_cause, news_in}
use Rattle.frag_session.specs.declared.answers.Cause.{Cause}
use Rattle.frag_session.specs.declared.answers.Heard.{Heard}
use Rattle.frag_session.specs.declared.answers.Heard.TheVariants.{Dropped}
use Rattle.frag_session.specs.declared.answers.Via.{Via}
use Rattle.row_elimination.specs.Room.{extent_for}
use Rattle.frag_session.specs.HeldSteps.{extent_of}
use Rattle.session_store.specs.SessionTable.{SessionTable, session_at, table_after_fragment}

-- the slots, by index, and the room that each has
pub record HeldSessions : Type 0 where
  pub slots : List HeldSlot
  pub room : Room

-- the slot of an index; beyond them there is none
abbrev pub slot_in : List HeldSlot → ℕ → HeldSlot
slot_in slots index = get_or slots index (idle (extent_for 0))

-- each has so many words and bytes for rows, and the memory of the first
abbrev pub held_in : (words bytes : ℕ) → List HeldSlot → HeldSessions
held_in words bytes slots = record { slots = slots; room = memory_room words bytes (extent_of (slot_in slots 0)) }

-- each slot stands for its session
pub record SessionsStand (held : HeldSessions) (table : SessionTable) : Type 0 where
  pub each : (index : ℕ) → index < 4 → Stands (slot_in held.slots index) (session_at table index)

-- what is held changed this way, for any sessions it stood for
abbrev pub TableBecomes : (old new : HeldSessions) → (SessionTable → SessionTable) → Type 0
TableBecomes old new after = (table : SessionTable) → SessionsStand old table → SessionsStand new (after table)

-- so it did, and each slot has the room that it had
pub record SlotsBecome (old new : HeldSessions) (after : SessionTable → SessionTable) : Type 0 where
  pub stands : TableBecomes old new after
  pub room : new.room ≡ old.room

-- a fragment for the session of an index was heard, or dropped, which changes nothing
pub record SlotsHear (old new : HeldSessions) (index : ℕ) (via : Via) (n : ℕ) (part : List ℕ) (mark : ℕ) (heard : Heard) : Type 0 where
  pub answer : (table : SessionTable) → SessionsStand old table
      → heard ≡ answer_of (drop_cause (session_at table index) via n part) (news_in (session_at table index) n part mark)
  pub becomes : SlotsBecome old new (table_after_fragment index via n part mark)
  pub still : (c : Cause) → heard ≡ Dropped c → new ≡ old

-- there are four slots, each with this memory
pub record HaveRoom (held : HeldSessions) : Type 0 where
  pub four : length held.slots ≡ 4
  pub each : (index : ℕ) → index < 4 → extent_of (slot_in held.slots index) ≡ held.room.extent
