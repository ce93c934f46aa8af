-- What `replay` says of each session: the verdicts of a campaign, whoever made the payloads, a conflict among them.
-- (TS004-1.0.0 leaves recovery to the device; when it ends, and how, is this project's profile.)
use Rattle.std.specs.Prelude.{◌≡◌, ℕ, ◌-◌, ◌<◌, true, List, ◌∷◌, ◌++◌, length, codes, None, Some, Ok}
use Rattle.std.specs.List.{AllByRecursion}
use Rattle.std.specs.Fmt.{decimal}
use Rattle.hex.specs.Hex.{encode_lower}
use Rattle.wire_base.specs.declared.refusal.Direction.TheVariants.{Down}
use Rattle.frag_model.specs.Fragments.{Fragment}
use Rattle.frag_model.specs.Members.{In}
use Rattle.frag_session.specs.declared.answers.Via.TheVariants.{Unicast}
use Rattle.frag_session.specs.Session.{Session, cause_of, shape_of}
use Rattle.cast_wire.specs.declared.cmd.Cmd.TheVariants.{DataFragment}
use Rattle.package_grammar.specs.declared.command.Command.{Command}
use Rattle.package_grammar.specs.declared.command.Command.TheVariants.{Cast}
use Rattle.package_grammar.specs.Grammar.{IsMessage}
use Rattle.script_lines.specs.Lines.{lines_of}
use Rattle.wire_base.specs.Numbered.{numbered}
use Rattle.device_core.specs.SessionTable.{session_at}
use Rattle.device_core.specs.Device.{DeviceState}
use Rattle.device_core.specs.Events.{CameInTurn}
use Rattle.report_lines.specs.Devices.{◌⧺◌, counts_line}
use Rattle.report_lines.specs.Sessions.{whole, saying, lines_below, lines_above}
use Rattle.payload_replay.specs.PayloadLines.{payload_of}
use Rattle.payload_replay.specs.Replay.{header_rows, replay_device, Reaches, replay_text}
use Rattle.payload_replay.specs.Carried.{CarriedCommand, carried, carried_after, session_behind, leaves}
use Rattle.frag_session.specs.FirstMoment.{AfterEach, IsOpen, IsWhole, Overflows, NoFileFits, FirstAt, IsDecidedAtFirst}

-- the device after a file has this session
pub record IsReplayed (file : List ℕ) (device : DeviceState) (index : ℕ) (s : Session) : Type 0 where
  pub accepted : Reaches (lines_of file) (Ok device)
  pub index_is : index < 4
  pub session_is : session_at device.sessions index ≡ Some s

-- line n has this command among those of its payload
pub record IsCarried (lines : List (List ℕ)) (n : ℕ) (c : Command) (line payload : List ℕ) (cs : List Command) : Type 0 where
  pub line_is : numbered lines n ≡ Some line
  pub payload_is : payload_of (n - 1) line ≡ Ok payload
  pub message : IsMessage cs 201 Down payload
  pub among : In c cs

-- a line brings a command, among those of its payload
abbrev pub Carries : List (List ℕ) → ℕ → Command → Type 0
Carries lines n c = (line : List ℕ) × (payload : List ℕ) × (cs : List Command) × IsCarried lines n c line payload cs

-- the lines of a file: its header, which gives so many rows, and the payloads
pub record IsFileOf (file header : List ℕ) (rows : ℕ) (payloads : List (List ℕ)) : Type 0 where
  pub lines_are : lines_of file ≡ header ∷ payloads
  pub rows_are : header_rows header ≡ Ok rows

-- the lines have this fragment for the session of an index, after some commands and before others, none of which sets up or
-- deletes a session of that index
pub record IsSince (payloads : List (List ℕ)) (index : ℕ) (f : Fragment) (before behind : List CarriedCommand) : Type 0 where
  pub there : carried_after 1 payloads ≡ before ++ carried f.mark (Cast (DataFragment index f.number f.part)) ∷ behind
  pub left : AllByRecursion (λ c. leaves index c.command ≡ true) behind

-- the text in which this is said of the session of an index, with what stands before it and after
abbrev pub text_saying : DeviceState → (index : ℕ) → (lines : List ℕ) → List ℕ
text_saying device index lines =
    codes "fuota replay 1\n" ⧺ counts_line device.counts ⧺ lines_below whole device.sessions index ⧺ lines
    ⧺ lines_above whole device.sessions index ⧺ codes "end\n"

-- what is said of a session that is complete from a line on, and its file
abbrev pub complete_lines : (index : ℕ) → Session → (line : ℕ) → (file : List ℕ) → List ℕ
complete_lines index s line file =
    saying index s (codes "complete at " ++ decimal line) ++ (codes "file " ++ (encode_lower file ++ codes "\n"))

-- what the text says of the session
pub record IsToldOf (device : DeviceState) (index : ℕ) (s : Session) : Type 0 where
  -- where some fragment is the first after which only one file fits: its line, and that file
  pub complete : (line : ℕ) (file : List ℕ) → FirstAt (shape_of s) s.setup.padding (IsWhole (shape_of s) s.setup.padding file) s.heard line
      → replay_text device ≡ text_saying device index (complete_lines index s line file)
  -- where one is the first after which independent coded fragments exceed the rows: its line
  pub no_rows : (line : ℕ) → FirstAt (shape_of s) s.setup.padding (Overflows (shape_of s) s.setup.padding) s.heard line
      → replay_text device ≡ text_saying device index (saying index s (codes "norows at " ++ decimal line))
  -- where one is the first after which no file fits: its line
  pub conflict : (line : ℕ) → FirstAt (shape_of s) s.setup.padding (NoFileFits (shape_of s) s.setup.padding) s.heard line
      → replay_text device ≡ text_saying device index (saying index s (codes "conflict at " ++ decimal line))
  -- and until then that it is open
  pub receiving : AfterEach (IsOpen (shape_of s) s.setup.padding) s.heard
      → replay_text device ≡ text_saying device index (saying index s (codes "receiving"))

-- for any payloads
pub record ReplayHeadline : Type 0 where
  -- a session hears nothing but what the lines have, each fragment at its line
  pub heard : (file : List ℕ) (device : DeviceState) (index : ℕ) (s : Session) → IsReplayed file device index s
      → CameInTurn (Carries (lines_of file)) index (length (lines_of file)) s.heard
  -- and exactly what they have: what is at an index is what their commands make of it, one after another
  pub exact : (file header : List ℕ) (rows : ℕ) (payloads : List (List ℕ)) (device : DeviceState) (index : ℕ)
      → Reaches (lines_of file) (Ok device) → IsFileOf file header rows payloads → index < 4
      → session_at device.sessions index ≡ session_behind (replay_device rows).config index None (carried_after 1 payloads)
  -- so a session hears each fragment that the lines have for it since it was set up, except for those that it has cause to drop
  pub all : (file header : List ℕ) (rows : ℕ) (payloads : List (List ℕ)) (device : DeviceState) (index : ℕ) (s : Session)
      (f : Fragment) (before behind : List CarriedCommand) → IsReplayed file device index s → IsFileOf file header rows payloads
      → IsSince payloads index f before behind → cause_of s.setup Unicast f.number f.part ≡ None → In f s.heard
  -- it is decided at the first fragment after which its file is no longer open
  pub decided : (file : List ℕ) (device : DeviceState) (index : ℕ) (s : Session) → IsReplayed file device index s → IsDecidedAtFirst s
  -- the text says so, in its place
  pub told : (file : List ℕ) (device : DeviceState) (index : ℕ) (s : Session) → IsReplayed file device index s → IsToldOf device index s
