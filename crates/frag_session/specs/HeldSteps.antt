-- What one call changes of what is held.
use Rattle.std.specs.Prelude.{◌≡◌, ℕ, ◌+◌, ◌≤◌, ◌&&◌, ◌==◌, List, length, Option, Some, None, if◌then◌else◌}
use Rattle.row_elimination.specs.HeldPlaces.{pieces_held}
use Rattle.row_elimination.specs.HeldSolver.{missing_of}
use Rattle.row_elimination.specs.Room.{Extent, extent_for}
use Rattle.frag_session.specs.declared.answers.Verdict.TheVariants as shown
use Rattle.frag_session.specs.declared.answers.News.{News}
use Rattle.frag_session.specs.declared.answers.News.TheVariants as news
use Rattle.frag_session.specs.declared.setups.SetupReq.{SetupReq}
use Rattle.frag_session.specs.declared.answers.Via.{Via}
use Rattle.frag_session.specs.declared.answers.Cause.{Cause}
use Rattle.frag_session.specs.declared.answers.Cause.TheVariants as cause
use Rattle.frag_session.specs.declared.receiving_state.Next.{Next}
use Rattle.frag_session.specs.declared.receiving_state.Next.TheVariants as next
use Rattle.frag_session.specs.declared.slots.State.{State}
use Rattle.frag_session.specs.declared.slots.State.TheVariants as state
use Rattle.frag_session.specs.Held.{HeldSlot, idle, receiving, complete, overflowed, conflicted}
use Rattle.frag_session.specs.Session.{cause_of, Seen}
use Rattle.frag_session.specs.HeldView.{receiving_seen, done_seen, failed_seen}
use Rattle.frag_model.specs.Limits.{max_parity_index}

-- a state as it is kept
abbrev pub kept : {W B : ℕ} → State W B → HeldSlot
kept (state.Idle extent) = idle extent
kept (state.Receiving h) = receiving h
kept (state.Complete d) = complete d
kept (state.Overflowed f) = overflowed f
kept (state.Conflicted f) = conflicted f

abbrev pub kept_by : {W B : ℕ} → Option (State W B) → HeldSlot
kept_by None = idle (extent_for 0)
kept_by (Some s) = kept s

-- what a session becomes
abbrev pub become : {W B : ℕ} → Next W B → HeldSlot
become (next.Receiving h) = receiving h
become (next.Complete d) = complete d
become (next.Overflowed f) = overflowed f
become (next.Conflicted f) = conflicted f

-- what it has memory for
unfoldable pub extent_of : HeldSlot → Extent
extent_of (idle extent) = extent
extent_of (receiving h) = h.solver.extent
extent_of (complete d) = d.solver.extent
extent_of (overflowed f) = f.solver.extent
extent_of (conflicted f) = f.solver.extent

-- the setup of its session
unfoldable pub session_setup : HeldSlot → Option SetupReq
session_setup (idle extent) = None
session_setup (receiving h) = Some h.setup
session_setup (complete d) = Some d.setup
session_setup (overflowed f) = Some f.setup
session_setup (conflicted f) = Some f.setup

-- the first cause for which the slot drops a fragment
unfoldable pub slot_cause : Option SetupReq → Via → ℕ → List ℕ → Option Cause
slot_cause None way n part = Some cause.NoSession
slot_cause (Some setup) way n part = cause_of setup way n part

-- the fragment has a number and the size that a session that hears takes
unfoldable pub CanHear : HeldSlot → ℕ → List ℕ → Type 0
CanHear (idle extent) n part = Unit {0}
CanHear (receiving h) n part = (1 ≤ n) × (n ≤ h.setup.nb_frag + max_parity_index) × (length part ≡ h.setup.frag_size)
CanHear (complete d) n part = Unit {0}
CanHear (overflowed f) n part = Unit {0}
CanHear (conflicted f) n part = Unit {0}

-- what the slot shows
unfoldable pub slot_seen : HeldSlot → Option Seen
slot_seen (idle extent) = None
slot_seen (receiving h) = Some (receiving_seen h)
slot_seen (complete d) = Some (done_seen d)
slot_seen (overflowed f) = Some (failed_seen (shown.NoRows f.mark) f)
slot_seen (conflicted f) = Some (failed_seen (shown.Conflict f.mark) f)

-- what is known while nothing is decided: the pieces still to be gained, and how many came uncoded
unfoldable pub told_of : HeldSlot → Option (ℕ × ℕ)
told_of (idle extent) = None
told_of (receiving h) = Some (missing_of h.solver, pieces_held h.solver.places)
told_of (complete d) = None
told_of (overflowed f) = None
told_of (conflicted f) = None

-- whether one fragment has changed it
unfoldable pub news_between : Option (ℕ × ℕ) → Option (ℕ × ℕ) → News
news_between None after = news.Old
news_between (Some before) None = news.New
news_between (Some before) (Some after) = if before.0 == after.0 && before.1 == after.1 then news.Old else news.New
