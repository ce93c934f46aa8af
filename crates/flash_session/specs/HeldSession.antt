-- A session in flash as contracts see it.
use Rattle.std.specs.Prelude.{ℕ, Some}
use Rattle.frag_session.specs.declared.setups.Limits.{Limits}
use Rattle.frag_session.specs.Held.{HeldSlot}
use Rattle.frag_session.specs.Setup.{Room}
use Rattle.frag_session.specs.HeldSteps.{extent_of}

-- what its slot keeps, the limits, its range, how many records and tallies are there, and what there is for rows
pub record HeldSession : Type 0 where
  pub slot : HeldSlot
  pub limits : Limits
  pub base : ℕ
  pub span : ℕ
  pub records : ℕ
  pub tallies : ℕ
  pub words : ℕ
  pub bytes : ℕ

-- the room for a session
abbrev pub room_in : HeldSession → Room
room_in h = record { words = h.words; bytes = h.bytes; extent = extent_of h.slot; span = Some h.span }
