-- Setups, fragments and answers of a session, worked out (TS004-1.0.0).
use Rattle.std.specs.Prelude.{◌≡◌, ℕ, true, false, List, [], ◌∷◌, replicate, Option, Some, None}
use Rattle.frag_model.specs.Fragments.{Fragment}
use Rattle.frag_model.specs.News.{is_new}
use Rattle.frag_session.specs.declared.setups.SetupReq.{SetupReq}
use Rattle.frag_session.specs.declared.setups.Limits.{Limits}
use Rattle.frag_session.specs.declared.answers.Via.TheVariants.{Unicast, Group}
use Rattle.frag_session.specs.declared.answers.Cause.TheVariants as cause
use Rattle.frag_session.specs.declared.answers.Verdict.{Verdict}
use Rattle.frag_session.specs.declared.answers.News.TheVariants.{Old, New}
use Rattle.frag_session.specs.declared.answers.Heard.TheVariants.{Fed, Dropped}
use Rattle.frag_session.specs.declared.answers.Verdict.TheVariants.{Receiving, Complete, NoRows, Conflict}
use Rattle.row_elimination.specs.Room.{Extent, extent_for}
use Rattle.frag_session.specs.Setup.{Room, memory_room, setup_bits, lives}
use Rattle.frag_session.specs.Session.{Session, Seen, after_setup, drop_cause, fragment, shape_of, news_in, answer_of, after_fragment, received_count, seen_of, status_in, status_of}

-- ---- setups

-- index 0 for group 0: 4 fragments of 13 bytes, of which the last 5 are padding; BlockAckDelay 2, descriptor 7
abbrev pub worked_setup : SetupReq
worked_setup = record { index = 0; mask = 1; nb_frag = 4; frag_size = 13; algo = 0; delay = 2; padding = 5; descriptor = 7 }

-- four sessions, 256 rows, and any descriptor
abbrev pub worked_limits : Limits
worked_limits = record { sessions = 4; rows = 256; descriptor = None }

abbrev pub worked_room : Room
worked_room = memory_room 16384 61184 (extent_for 262382)

-- an area of so many bytes, for so many pieces
abbrev pub small : (area pieces : ℕ) → Extent
small area pieces = record { area = area; pieces = pieces }

abbrev pub bits : SetupReq → ℕ
bits req = setup_bits worked_limits worked_room req

pub record WorkedSetups : Type 0 where
  pub fine : bits worked_setup ≡ 0
  -- 1: another coding, or no file
  pub coding : bits (record worked_setup { algo = 1 }) ≡ 1
  pub no_fragments : bits (record worked_setup { nb_frag = 0 }) ≡ 1
  pub no_bytes : bits (record worked_setup { frag_size = 0 }) ≡ 1
  pub most_padding : bits (record worked_setup { padding = 12 }) ≡ 0
  pub all_padding : bits (record worked_setup { padding = 13 }) ≡ 1
  -- 2: too large for any session, or for this room: a word and 13 bytes a row, 52 bytes in all
  pub most_fragments : bits (record worked_setup { nb_frag = 4096 }) ≡ 0
  pub too_many : bits (record worked_setup { nb_frag = 4097 }) ≡ 2
  pub most_bytes : bits (record worked_setup { frag_size = 239 }) ≡ 0
  pub too_long : bits (record worked_setup { frag_size = 240 }) ≡ 2
  pub room : setup_bits worked_limits (memory_room 4 52 (small 52 4)) worked_setup ≡ 0
  pub words : setup_bits worked_limits (memory_room 3 52 (small 52 4)) worked_setup ≡ 2
  pub bytes : setup_bits worked_limits (memory_room 4 51 (small 52 4)) worked_setup ≡ 2
  pub area : setup_bits worked_limits (memory_room 4 52 (small 51 4)) worked_setup ≡ 2
  pub pieces : setup_bits worked_limits (memory_room 4 52 (small 52 3)) worked_setup ≡ 2
  -- or for this flash: 24,640 bytes, and 23 for each of 2 * 4 + 1 fragments
  pub flash : setup_bits worked_limits (record worked_room { span = Some 24847 }) worked_setup ≡ 0
  pub less_flash : setup_bits worked_limits (record worked_room { span = Some 24846 }) worked_setup ≡ 2
  -- 4: no such index; 8: another descriptor than the one that is taken; and all together
  pub last_index : bits (record worked_setup { index = 3 }) ≡ 0
  pub index : bits (record worked_setup { index = 4 }) ≡ 4
  pub descriptor : setup_bits (record worked_limits { descriptor = Some 8 }) worked_room worked_setup ≡ 8
  pub own_descriptor : setup_bits (record worked_limits { descriptor = Some 7 }) worked_room worked_setup ≡ 0
  pub all : setup_bits (record { sessions = 0; rows = 64; descriptor = Some 8 }) worked_room (record worked_setup { algo = 1; frag_size = 240 }) ≡ 15

-- ---- a session

abbrev pub one_heard : Fragment
one_heard = record { number = 2; part = replicate 13 9; mark = 1 }

abbrev pub session_of : SetupReq → (rows : ℕ) → List Fragment → Session
session_of req rows heard = record { setup = req; rows = rows; heard = heard }

abbrev pub worked_session : Session
worked_session = session_of worked_setup 4 (one_heard ∷ [])

-- one for the groups of a mask, and one of as many fragments as there may be
abbrev pub setup_for : (mask : ℕ) → SetupReq
setup_for mask = record worked_setup { mask = mask }

abbrev pub session_for : (mask : ℕ) → Session
session_for mask = session_of (setup_for mask) 4 (one_heard ∷ [])

abbrev pub longest_session : Session
longest_session = session_of (record worked_setup { nb_frag = 4096 }) 256 []

-- what another setup makes of the session
abbrev pub renewed_by : SetupReq → Option Session
renewed_by req = after_setup worked_limits worked_room (Some worked_session) req

pub record WorkedSessions : Type 0 where
  -- a session has no more rows than fragments, and no more than are kept
  pub new : after_setup worked_limits worked_room None worked_setup ≡ Some (session_of worked_setup 4 [])
  pub rows : after_setup (record worked_limits { rows = 3 }) worked_room None worked_setup ≡ Some (session_of worked_setup 3 [])
  -- an equal setup keeps it, one with another field starts a new one, and one that is refused changes nothing
  pub equal : renewed_by worked_setup ≡ Some worked_session
  pub index : renewed_by (record worked_setup { index = 1 }) ≡ Some (session_of (record worked_setup { index = 1 }) 4 [])
  pub mask : renewed_by (record worked_setup { mask = 3 }) ≡ Some (session_of (record worked_setup { mask = 3 }) 4 [])
  pub nb_frag : renewed_by (record worked_setup { nb_frag = 3 }) ≡ Some (session_of (record worked_setup { nb_frag = 3 }) 3 [])
  pub frag_size : renewed_by (record worked_setup { frag_size = 14 }) ≡ Some (session_of (record worked_setup { frag_size = 14 }) 4 [])
  pub delay : renewed_by (record worked_setup { delay = 3 }) ≡ Some (session_of (record worked_setup { delay = 3 }) 4 [])
  pub padding : renewed_by (record worked_setup { padding = 6 }) ≡ Some (session_of (record worked_setup { padding = 6 }) 4 [])
  pub descriptor : renewed_by (record worked_setup { descriptor = 8 }) ≡ Some (session_of (record worked_setup { descriptor = 8 }) 4 [])
  pub refused : renewed_by (record worked_setup { algo = 1 }) ≡ Some worked_session
  -- a request that is equal keeps it, and another or none that lives does not
  pub kept : lives (Some worked_setup) worked_setup ≡ true
  pub not_kept : lives (Some worked_setup) (record worked_setup { delay = 3 }) ≡ false
  pub none_lives : lives None worked_setup ≡ false

-- ---- fragments

pub record WorkedFragments : Type 0 where
  -- by unicast and by a group of the mask
  pub unicast : drop_cause (Some worked_session) Unicast 1 (replicate 13 9) ≡ None
  pub own_group : drop_cause (Some worked_session) (Group 0) 1 (replicate 13 9) ≡ None
  pub other_group : drop_cause (Some worked_session) (Group 1) 1 (replicate 13 9) ≡ Some cause.Group
  -- a mask of two groups lets in both, and no third
  pub first_of_two : drop_cause (Some (session_for 3)) (Group 0) 1 (replicate 13 9) ≡ None
  pub second_of_two : drop_cause (Some (session_for 3)) (Group 1) 1 (replicate 13 9) ≡ None
  pub third_group : drop_cause (Some (session_for 3)) (Group 2) 1 (replicate 13 9) ≡ Some cause.Group
  pub last_group : drop_cause (Some (session_for 8)) (Group 3) 1 (replicate 13 9) ≡ None
  pub below_last : drop_cause (Some (session_for 8)) (Group 2) 1 (replicate 13 9) ≡ Some cause.Group
  pub middle_group : drop_cause (Some (session_for 6)) (Group 1) 1 (replicate 13 9) ≡ None
  pub below_middle : drop_cause (Some (session_for 6)) (Group 0) 1 (replicate 13 9) ≡ Some cause.Group
  -- from 1 to the last that is coded
  pub no_number : drop_cause (Some worked_session) Unicast 0 (replicate 13 9) ≡ Some cause.Index
  pub last : drop_cause (Some worked_session) Unicast 8384 (replicate 13 9) ≡ None
  pub behind : drop_cause (Some worked_session) Unicast 8385 (replicate 13 9) ≡ Some cause.Index
  pub very_last : drop_cause (Some longest_session) Unicast 12476 (replicate 13 9) ≡ None
  pub behind_all : drop_cause (Some longest_session) Unicast 12477 (replicate 13 9) ≡ Some cause.Index
  -- with the bytes of a fragment
  pub short : drop_cause (Some worked_session) Unicast 1 (replicate 12 9) ≡ Some cause.Size
  pub long : drop_cause (Some worked_session) Unicast 1 (replicate 14 9) ≡ Some cause.Size
  pub no_session : drop_cause None Unicast 1 (replicate 13 9) ≡ Some cause.NoSession
  -- the first cause counts
  pub first : drop_cause (Some worked_session) (Group 1) 0 [] ≡ Some cause.Group
  pub second : drop_cause (Some worked_session) Unicast 0 [] ≡ Some cause.Index
  -- one that is heard is the newest, a repeat too, and one that is dropped changes nothing
  pub heard : after_fragment (Some worked_session) Unicast 6 (replicate 13 8) 5
      ≡ Some (session_of worked_setup 4 (record { number = 6; part = replicate 13 8; mark = 5 } ∷ one_heard ∷ []))
  pub repeated : after_fragment (Some worked_session) Unicast 2 (replicate 13 9) 5
      ≡ Some (session_of worked_setup 4 (record { number = 2; part = replicate 13 9; mark = 5 } ∷ one_heard ∷ []))
  pub dropped : after_fragment (Some worked_session) Unicast 0 (replicate 13 8) 5 ≡ Some worked_session

-- a fragment that is heard is answered as new exactly where it is new after those before it; and what is answered
pub record WorkedNews : Type 0 where
  pub new : (s : Session) (n : ℕ) (part : List ℕ) (mark : ℕ)
      → is_new (shape_of s) (fragment n part mark) s.heard ≡ true → news_in (Some s) n part mark ≡ New
  pub old : (s : Session) (n : ℕ) (part : List ℕ) (mark : ℕ)
      → is_new (shape_of s) (fragment n part mark) s.heard ≡ false → news_in (Some s) n part mark ≡ Old
  pub no_session : news_in None 1 (7 ∷ []) 1 ≡ Old
  pub fed : answer_of None New ≡ Fed New
  pub fed_old : answer_of None Old ≡ Fed Old
  pub dropped : answer_of (Some cause.Index) New ≡ Dropped cause.Index

-- ---- FragSessionStatusReq

-- of a session that heard so many fragments and misses so many
abbrev pub seen_with : (received missing : ℕ) → Verdict → Seen
seen_with received missing verdict = record { received = received; missing = missing; verdict = verdict; file = [] }

pub record WorkedStatus : Type 0 where
  pub fresh : seen_of (session_of worked_setup 4 []) ≡ seen_with 0 4 Receiving
  -- repeats are counted, to the end of 14 bits
  pub received : (seen_of (session_of worked_setup 4 (one_heard ∷ one_heard ∷ []))).received ≡ 2
  pub most : received_count 16383 ≡ 16383
  pub more : received_count 16384 ≡ 16383
  -- asked of all, or where a fragment is missing
  pub all : status_in worked_setup (seen_with 4 0 (Complete 9)) Unicast true ≡ Some (record { received = 4; missing = 0; norows = false; delay = 2 })
  pub whole : status_in worked_setup (seen_with 4 0 (Complete 9)) Unicast false ≡ None
  pub missing : status_in worked_setup (seen_with 3 1 Receiving) Unicast false ≡ Some (record { received = 3; missing = 1; norows = false; delay = 2 })
  pub own_group : status_in worked_setup (seen_with 3 1 Receiving) (Group 0) false ≡ Some (record { received = 3; missing = 1; norows = false; delay = 2 })
  pub other_group : status_in worked_setup (seen_with 3 1 Receiving) (Group 1) true ≡ None
  -- by a group, as by unicast, a whole file is answered where all are asked
  pub own_group_all : status_in worked_setup (seen_with 4 0 (Complete 9)) (Group 0) true
      ≡ Some (record { received = 4; missing = 0; norows = false; delay = 2 })
  pub own_group_whole : status_in worked_setup (seen_with 4 0 (Complete 9)) (Group 0) false ≡ None
  -- by both groups of a mask, and by no third
  pub first_of_two : status_in (setup_for 3) (seen_with 3 1 Receiving) (Group 0) false
      ≡ Some (record { received = 3; missing = 1; norows = false; delay = 2 })
  pub second_of_two : status_in (setup_for 3) (seen_with 3 1 Receiving) (Group 1) false
      ≡ Some (record { received = 3; missing = 1; norows = false; delay = 2 })
  pub third_group : status_in (setup_for 3) (seen_with 3 1 Receiving) (Group 2) true ≡ None
  pub no_session : status_of None Unicast true ≡ None
  -- 8 bits of missing fragments, and whether the rows did not suffice
  pub many : status_in worked_setup (seen_with 3 300 Receiving) Unicast true ≡ Some (record { received = 3; missing = 255; norows = false; delay = 2 })
  pub no_rows : status_in worked_setup (seen_with 3 1 (NoRows 9)) Unicast true ≡ Some (record { received = 3; missing = 1; norows = true; delay = 2 })
  pub conflict : status_in worked_setup (seen_with 3 1 (Conflict 9)) Unicast true ≡ Some (record { received = 3; missing = 1; norows = false; delay = 2 })
