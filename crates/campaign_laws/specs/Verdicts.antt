-- What a campaign says of each session, whoever sent what reached its device: each is decided at its first moment, over what
-- its lines brought. (TS004-1.0.0 leaves recovery to the device; when it ends, and how, is this project's profile.)
use Rattle.std.specs.Prelude.{◌≡◌, ℕ, ◌-◌, ◌<◌, ◌⊎◌, List, ◌++◌, length, take, codes, Option, Some, Ok}
use Rattle.std.specs.Str.{bytes_eq}
use Rattle.std.specs.Fmt.{decimal}
use Rattle.wire_base.specs.declared.refusal.Direction.TheVariants.{Down as Downwards}
use Rattle.frag_model.specs.Members.{In}
use Rattle.frag_session.specs.Session.{Session, shape_of}
use Rattle.frag_session.specs.FirstMoment.{AfterEach, IsOpen, IsWhole, Overflows, NoFileFits, FirstAt, IsDecidedAtFirst}
use Rattle.package_grammar.specs.declared.command.Command.{Command}
use Rattle.package_grammar.specs.declared.downlink.Downlink.{Downlink}
use Rattle.package_grammar.specs.Grammar.{IsMessage}
use Rattle.device_core.specs.SessionTable.{session_at}
use Rattle.device_core.specs.Device.{DeviceState}
use Rattle.device_core.specs.Radio.{brought}
use Rattle.device_core.specs.Events.{Receives, HearsBytes, CameInTurn}
use Rattle.campaign_server.specs.declared.stage.Stage.{Stage}
use Rattle.campaign_server.specs.Server.{ledger}
use Rattle.wire_base.specs.Numbered.{numbered}
use Rattle.campaign_world.specs.declared.numbered.SentPayload.{SentPayload}
use Rattle.campaign_world.specs.World.{WorldState}
use Rattle.campaign_world.specs.Said.{Line}
use Rattle.campaign_world.specs.Script.{campaign_of}
use Rattle.report_lines.specs.Sessions.{same_word, saying}
use Rattle.campaign_world.specs.Report.{report_of}
use Rattle.campaign_world.specs.Recovery.{recovery}
use Rattle.campaign_laws.specs.Told.{report_with_line}
use Rattle.campaign_server.specs.declared.plan.PlanGroup.{PlanGroup}
use Rattle.campaign_laws.specs.Independence.{event_in, record_behind}

-- ---- what a session heard

-- line n of the script brings device id a payload, one that was sent or anybody's, and this command is among its own
pub record IsCarried (lines : List Line) (group : Option PlanGroup) (sent : List SentPayload) (id n : ℕ) (c : Command) (line : Line) (time word : ℕ) (down : Downlink) (cs : List Command) : Type 0 where
  pub line_is : numbered lines n ≡ Some line
  pub event : event_in id group sent time n line ≡ Some (Receives time word n down)
  pub message : IsMessage cs down.port Downwards down.payload
  pub among : In c cs

-- line n of the script brings the radio of device id bytes, which the device as it is before that line opens to a payload,
-- and this command is among its own
pub record IsOpened (lines : List Line) (group : Option PlanGroup) (sent : List SentPayload) (id n : ℕ) (c : Command) (line : Line) (time word : ℕ) (bytes : List ℕ) (device : DeviceState) (down : Downlink) (cs : List Command) : Type 0 where
  pub line_is : numbered lines n ≡ Some line
  pub event : event_in id group sent time n line ≡ Some (HearsBytes time word n bytes)
  pub device_is : record_behind lines (take (n - 1) lines) group sent id ≡ Some device
  pub opened : brought device bytes ≡ Ok down
  pub message : IsMessage cs down.port Downwards down.payload
  pub among : In c cs

abbrev pub Carries : List Line → Option PlanGroup → List SentPayload → (id n : ℕ) → Command → Type 0
Carries lines group sent id n c =
    ((line : Line) × (time : ℕ) × (word : ℕ) × (down : Downlink) × (cs : List Command)
    × IsCarried lines group sent id n c line time word down cs)
    ⊎ ((line : Line) × (time : ℕ) × (word : ℕ) × (bytes : List ℕ) × (device : DeviceState) × (down : Downlink) × (cs : List Command)
    × IsOpened lines group sent id n c line time word bytes device down cs)

-- ---- what the report says of it

-- the report, with this line in its place, between those of the other sessions
pub record IsToldOf (world : WorldState) (id : ℕ) (stage : Stage) (device : DeviceState) (index : ℕ) (s : Session) : Type 0 where
  -- where some fragment is the first after which only one file fits: its line, and whether that file is the server's image
  pub complete : (line : ℕ) (file : List ℕ) → FirstAt (shape_of s) s.setup.padding (IsWhole (shape_of s) s.setup.padding file) s.heard line
      → report_of world ≡ report_with_line world id stage device index
      (saying index s (codes "complete at " ++ (decimal line ++ same_word (bytes_eq file world.server.image))))
  -- where one is the first after which independent coded fragments exceed the rows: its line
  pub no_rows : (line : ℕ) → FirstAt (shape_of s) s.setup.padding (Overflows (shape_of s) s.setup.padding) s.heard line
      → report_of world ≡ report_with_line world id stage device index (saying index s (codes "norows at " ++ decimal line))
  -- where one is the first after which no file fits: its line
  pub conflict : (line : ℕ) → FirstAt (shape_of s) s.setup.padding (NoFileFits (shape_of s) s.setup.padding) s.heard line
      → report_of world ≡ report_with_line world id stage device index (saying index s (codes "conflict at " ++ decimal line))
  -- and until then that it is open
  pub receiving : AfterEach (IsOpen (shape_of s) s.setup.padding) s.heard
      → report_of world ≡ report_with_line world id stage device index (saying index s (codes "receiving"))

-- ---- the law

-- a session of a device of a campaign
pub record IsSessionOf (image : List ℕ) (lines : List Line) (world : WorldState) (id : ℕ) (device : DeviceState) (index : ℕ) (s : Session) : Type 0 where
  pub accepted : campaign_of image lines ≡ Ok world
  pub device_is : numbered world.devices id ≡ Some device
  pub index_is : index < 4
  pub session_is : session_at device.sessions index ≡ Some s

-- for any image and any accepted lines, with anybody's payloads or without
pub record Verdicts : Type 0 where
  -- a session hears nothing but what the lines bring its device, each fragment at its line
  pub heard : (image : List ℕ) (lines : List Line) (world : WorldState) (id : ℕ) (device : DeviceState) (index : ℕ) (s : Session)
      → IsSessionOf image lines world id device index s
      → CameInTurn (Carries lines world.server.plan.group world.sent id) index (length lines) s.heard
  -- it is decided at the first fragment after which its file is no longer open
  pub decided : (image : List ℕ) (lines : List Line) (world : WorldState) (id : ℕ) (device : DeviceState) (index : ℕ) (s : Session)
      → IsSessionOf image lines world id device index s → IsDecidedAtFirst s
  -- the report says so, in its place
  pub told : (image : List ℕ) (lines : List Line) (world : WorldState) (id : ℕ) (stage : Stage) (device : DeviceState) (index : ℕ) (s : Session)
      → IsSessionOf image lines world id device index s → ledger world.server id ≡ Some stage
      → IsToldOf world id stage device index s
  -- and the file that is recovered is the only one that fits
  pub recovered : (image : List ℕ) (lines : List Line) (world : WorldState) (id : ℕ) (device : DeviceState) (s : Session) (file : List ℕ)
      → IsSessionOf image lines world id device 0 s → recovery world id ≡ Ok file
      → (line : ℕ) × FirstAt (shape_of s) s.setup.padding (IsWhole (shape_of s) s.setup.padding file) s.heard line
