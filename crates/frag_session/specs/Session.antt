-- A session as its history: its setup, and all fragments heard since, newest first.
-- (TS004-1.0.0, FragSessionSetupReq, DataFragment and FragSessionStatusAns; the rest is this project's profile.)
use Rattle.std.specs.Prelude.{ℕ, ◌+◌, Bool, true, false, ◌||◌, ◌&&◌, not, ◌==◌, nat_lt, min, List, [], ◌∷◌, length, Option, Some, None, option_map, is_none, if◌then◌else◌}
use Rattle.std.specs.Int.{bit_at}
use Rattle.frag_model.specs.Fragments.{Fragment, Shape, file_of}
use Rattle.frag_model.specs.Verdict.{Verdict, receiving, complete, no_rows, conflict, verdict, missing}
use Rattle.frag_session.specs.declared.setups.SetupReq.{SetupReq}
use Rattle.frag_session.specs.declared.setups.Limits.{Limits}
use Rattle.frag_session.specs.Setup.{Room, rows_of, setup_bits, same_setup}
use Rattle.frag_session.specs.declared.answers.Via.{Via}
use Rattle.frag_session.specs.declared.answers.Via.TheVariants as via
use Rattle.frag_session.specs.declared.answers.Cause.{Cause}
use Rattle.frag_session.specs.declared.answers.Cause.TheVariants as cause
use Rattle.frag_session.specs.declared.answers.Heard.{Heard}
use Rattle.frag_session.specs.declared.answers.News.{News}
use Rattle.frag_session.specs.declared.answers.News.TheVariants as news
use Rattle.frag_model.specs.News.{is_new}
use Rattle.frag_session.specs.declared.answers.StatusAns.{StatusAns}
use Rattle.frag_session.specs.declared.answers.Heard.TheVariants as answer
use Rattle.frag_session.specs.declared.answers.Verdict.{Verdict as Shown}
use Rattle.frag_session.specs.declared.answers.Verdict.TheVariants as shown
use Rattle.frag_model.specs.Limits.{max_parity_index}
use Rattle.frag_session.specs.Limits.{max_received}

-- a session: what it was set up with, the rows kept for it, and the fragments that it heard
pub record Session : Type 0 where
  pub setup : SetupReq
  pub rows : ℕ
  pub heard : List Fragment

-- ---- setups

-- a session that heard nothing yet
unfoldable pub new_session : Limits → SetupReq → Session
new_session limits req = record { setup = req; rows = rows_of limits.rows req; heard = [] }

-- a session stays at an equal request, and any other replaces it by a new one
unfoldable pub renewed : Limits → Option Session → SetupReq → Session
renewed limits None req = new_session limits req
renewed limits (Some s) req = if same_setup s.setup req then s else new_session limits req

-- after a setup: with a refusal bit nothing changes
unfoldable pub after_setup : Limits → Room → Option Session → SetupReq → Option Session
after_setup limits room s req = if setup_bits limits room req == 0 then Some (renewed limits s req) else s

-- ---- fragments

-- the mask keeps out what came this way
unfoldable pub excludes : ℕ → Via → Bool
excludes mask via.Unicast = false
excludes mask (via.Group g) = bit_at mask g == 0

-- the first cause for which a session with this setup drops a fragment
unfoldable pub cause_of : SetupReq → Via → ℕ → List ℕ → Option Cause
cause_of setup way n part =
    if excludes setup.mask way then Some cause.Group
    else if n == 0 || nat_lt (setup.nb_frag + max_parity_index) n then Some cause.Index
    else if not (length part == setup.frag_size) then Some cause.Size
    else None

-- the first cause for which a fragment is dropped
unfoldable pub drop_cause : Option Session → Via → ℕ → List ℕ → Option Cause
drop_cause None way n part = Some cause.NoSession
drop_cause (Some s) way n part = cause_of s.setup way n part

-- what the setup and the rows fix of the fragments
unfoldable pub shape_of : Session → Shape
shape_of s = record { nb_frag = s.setup.nb_frag; frag_size = s.setup.frag_size; rows = s.rows }

-- a fragment as it is heard
abbrev pub fragment : ℕ → List ℕ → ℕ → Fragment
fragment n part mark = record { number = n; part = part; mark = mark }

-- whether it is new after those that the session heard
unfoldable pub news_in : Option Session → ℕ → List ℕ → ℕ → News
news_in None n part mark = news.Old
news_in (Some s) n part mark =
    if is_new (shape_of s) (fragment n part mark) s.heard then news.New else news.Old

-- the answer to a fragment
unfoldable pub answer_of : Option Cause → News → Heard
answer_of None whether = answer.Fed whether
answer_of (Some c) whether = answer.Dropped c

-- the session heard one fragment more
unfoldable pub followed : Session → ℕ → List ℕ → ℕ → Session
followed s n part mark = record s { heard = record { number = n; part = part; mark = mark } ∷ s.heard }

-- after a fragment: one that is dropped changes nothing
unfoldable pub after_fragment : Option Session → Via → ℕ → List ℕ → ℕ → Option Session
after_fragment s way n part mark =
    if is_none (drop_cause s way n part) then option_map (λ x. followed x n part mark) s else s

-- ---- what is shown

-- the verdict with its mark
unfoldable pub shown_verdict : Verdict → Shown
shown_verdict receiving = shown.Receiving
shown_verdict (complete mark block) = shown.Complete mark
shown_verdict (no_rows mark) = shown.NoRows mark
shown_verdict (conflict mark) = shown.Conflict mark

-- the file, where it is whole
unfoldable pub shown_file : ℕ → Shape → Verdict → List ℕ
shown_file padding shape receiving = []
shown_file padding shape (complete mark block) = file_of padding shape block
shown_file padding shape (no_rows mark) = []
shown_file padding shape (conflict mark) = []

-- what is seen of a session
pub record Seen : Type 0 where
  pub received : ℕ
  pub missing : ℕ
  pub verdict : Shown
  pub file : List ℕ

-- the count of fragments stays at the end of its 14 bits
abbrev pub received_count : ℕ → ℕ
received_count count = min count max_received

-- what is seen of it: the count, the missing pieces, the verdict and the file
unfoldable pub seen_of : Session → Seen
seen_of s = record {
  received = received_count (length s.heard);
  missing = missing (shape_of s) s.heard;
  verdict = shown_verdict (verdict (shape_of s) s.heard);
  file = shown_file s.setup.padding (shape_of s) (verdict (shape_of s) s.heard);
}

-- what a slot shows: nothing without a session
unfoldable pub view_of : Option Session → Option Seen
view_of None = None
view_of (Some s) = Some (seen_of s)

-- ---- the answer to FragSessionStatusReq

-- the memory did not suffice
abbrev pub is_overflow : Shown → Bool
is_overflow shown.Receiving = false
is_overflow (shown.Complete mark) = false
is_overflow (shown.NoRows mark) = true
is_overflow (shown.Conflict mark) = false

-- what is answered of what is seen; MissingFrag stays at the end of its 8 bits
unfoldable pub status_by : Seen → ℕ → StatusAns
status_by seen delay = record {
  received = seen.received;
  missing = min seen.missing 255;
  norows = is_overflow seen.verdict;
  delay = delay;
}

-- a session answers where all are asked, or a piece is missing; by a group only where its mask has that group
abbrev pub answers : SetupReq → Seen → Via → Bool → Bool
answers setup seen way all = not (excludes setup.mask way) && (all || nat_lt 0 seen.missing)

-- FragSessionStatusReq of a group or by unicast, for all or for those that miss pieces
unfoldable pub status_in : SetupReq → Seen → Via → Bool → Option StatusAns
status_in setup seen way all = if answers setup seen way all then Some (status_by seen setup.delay) else None

-- without a session there is no answer
unfoldable pub status_of : Option Session → Via → Bool → Option StatusAns
status_of None way all = None
status_of (Some s) way all = status_in s.setup (seen_of s) way all
