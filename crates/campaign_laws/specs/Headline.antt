-- The headline in the field's own words: what the session of a campaign hears, when it is decided, and what the report says.
-- (This project's profile.)
use Rattle.std.specs.Prelude.{◌≡◌, ◌≢◌, ◌⊎◌, ℕ, ◌+◌, ◌-◌, ◌^◌, ◌<◌, ◌≤◌, true, false, List, [], ◌∷◌, ◌++◌, length, min, take, All, codes, Option, Some, None, Result, Ok}
use Rattle.std.specs.List.{AllByRecursion}
use Rattle.std.specs.Fmt.{decimal}
use Rattle.frag_model.specs.Limits.{max_parity_index}
use Rattle.frag_model.specs.Fragments.{Fragment}
use Rattle.frag_model.specs.Members.{In}
use Rattle.frag_model.specs.File.{OneFileFits}
use Rattle.frag_encoder.specs.Encoding.{nb_frag_of, padding_of, data_of}
use Rattle.frag_session.specs.declared.answers.Verdict.TheVariants as verdict
use Rattle.frag_session.specs.Session.{Session, Seen, shape_of, seen_of, excludes}
use Rattle.frag_session.specs.FirstMoment.{AfterEach, FirstAt, IsDecidedAtFirst, IsOpen, IsWhole, Overflows}
use Rattle.cast_wire.specs.declared.cmd.Cmd.TheVariants.{DataFragment}
use Rattle.package_grammar.specs.declared.command.Command.TheVariants.{Cast}
use Rattle.package_grammar.specs.declared.command.Command.{Command}
use Rattle.package_grammar.specs.declared.downlink.To.{To}
use Rattle.package_grammar.specs.Grammar.{IsValid}
use Rattle.device_core.specs.declared.config.Class.{Class as DeviceClass}
use Rattle.device_core.specs.declared.config.Class.TheVariants as device_class
use Rattle.device_core.specs.Configuration.{Configuration}
use Rattle.device_core.specs.SessionTable.{SessionTable, session_at}
use Rattle.device_core.specs.Device.{DeviceState, max_area, size_for}
use Rattle.campaign_world.specs.Making.{formats_of, root_of, span_of}
use Rattle.device_core.specs.ClassSessions.{hears}
use Rattle.device_core.specs.Firmware.{after_due_reboot}
use Rattle.device_core.specs.Deliver.{via_of}
use Rattle.campaign_server.specs.declared.stage.Stage.{Stage}
use Rattle.campaign_server.specs.Server.{ServerState, DownlinkCommand, ledger, downlink_of}
use Rattle.wire_base.specs.Numbered.{numbered}
use Rattle.campaign_server.specs.Asking.{mask_of, fragments_request}
use Rattle.script_lines.specs.declared.forms.Class.{Class}
use Rattle.script_lines.specs.declared.forms.DeviceLine.{DeviceLine}
use Rattle.script_lines.specs.declared.forms.Class.TheVariants as class
use Rattle.script_lines.specs.declared.forms.Form.TheVariants.{Device, Down, Air}
use Rattle.campaign_world.specs.declared.numbered.SentPayload.{SentPayload}
use Rattle.report_lines.specs.declared.faults.LineFault.{LineFault}
use Rattle.campaign_world.specs.World.{WorldState, first_world}
use Rattle.campaign_world.specs.Said.{Own, Line}
use Rattle.campaign_world.specs.Script.{read_lines, campaign_of}
use Rattle.campaign_world.specs.Honest.{AreHonest}
use Rattle.campaign_world.specs.Report.{report_of}
use Rattle.campaign_laws.specs.Fields.{AllFit}
use Rattle.campaign_laws.specs.Told.{report_over}
use Rattle.report_lines.specs.Sessions.{session_text}

-- ---- what the session of a campaign is, and what it hears

-- a fragment of the image, uncoded or coded
pub record IsFragmentOf (image : List ℕ) (frag_size : ℕ) (f : Fragment) : Type 0 where
  pub first : 1 ≤ f.number
  pub last : f.number ≤ nb_frag_of (length image) frag_size + max_parity_index
  pub part : f.part ≡ data_of image frag_size f.number

-- there is no session but that of this index
abbrev pub HasNoOther : (index : ℕ) → SessionTable → Type 0
HasNoOther index all = (i : ℕ) → i < 4 → (i ≡ index → ⊥) → session_at all i ≡ None

-- `a` is class A, and `c` is class C
abbrev pub IsClass : Class → DeviceClass → Type 0
IsClass class.A k = k ≡ device_class.A
IsClass class.C k = k ≡ device_class.C

-- line n of the script is the line of device id, which says this configuration
pub record IsConfigured (lines : List Line) (id : ℕ) (config : Configuration) (n : ℕ) (line : Line) (dev : DeviceLine) : Type 0 where
  pub line_is : numbered lines n ≡ Some line
  pub says : line ≡ Ok (Own (Device dev))
  pub its_id : dev.id ≡ id
  pub class_is : IsClass dev.class config.class
  pub hw_is : config.hw ≡ dev.hw
  pub rows_are : config.rows ≡ dev.rows
  pub offset_is : config.offset ≡ dev.offset
  pub key_is : config.key ≡ dev.key
  pub descriptor_is : config.descriptor ≡ dev.descriptor
  pub formats_are : config.formats ≡ formats_of dev.v1
  pub root_is : config.root ≡ root_of dev.k11
  pub sessions_are : config.sessions ≡ 4
  pub groups_are : config.groups ≡ 4
  pub area_is : config.area ≡ max_area
  pub held_is : config.held ≡ dev.flash
  pub span_is : config.span ≡ span_of dev.flash
  pub size_is : config.size ≡ size_for dev.rows

-- the configuration is that of the device's line
abbrev pub IsOfItsLine : List Line → (id : ℕ) → Configuration → Type 0
IsOfItsLine lines id config = (n : ℕ) × (line : Line) × (dev : DeviceLine) × IsConfigured lines id config n line dev

-- the session is the server's for the image, on a device with so many rows, and hears the image's fragments alone
pub record IsServed (image : List ℕ) (server : ServerState) (rows : ℕ) (session : Session) : Type 0 where
  pub image_is : server.image ≡ image
  pub nb_frag : session.setup.nb_frag ≡ nb_frag_of (length image) server.plan.frag_size
  pub frag_size : session.setup.frag_size ≡ server.plan.frag_size
  pub padding : session.setup.padding ≡ padding_of (length image) server.plan.frag_size
  pub rows_are : session.rows ≡ min rows (nb_frag_of (length image) server.plan.frag_size)
  pub heard : AllByRecursion (IsFragmentOf image server.plan.frag_size) session.heard

-- a line hands this sent payload to the device: as it is, or as a frame in the air
abbrev pub HandsOver : Line → (number id word : ℕ) → Type 0
HandsOver line number id word = (line ≡ Ok (Own (Down number id word))) ⊎ (line ≡ Ok (Own (Air number id word)))

-- line n of the script hands device id the payload that it names, and the server sent this valid command as that
pub record IsDelivery (lines : List Line) (sent : List SentPayload) (id n : ℕ) (down : DownlinkCommand) (line : Line) (number word : ℕ) (receiver : Option ℕ) : Type 0 where
  pub line_is : numbered lines n ≡ Some line
  pub hands_over : HandsOver line number id word
  pub payload_is : numbered sent number ≡ Some (record { receiver = receiver; down = downlink_of down })
  pub valid : IsValid down.command

-- line n of the script delivers this command to device id
abbrev pub Delivers : List Line → List SentPayload → (id n : ℕ) → DownlinkCommand → Type 0
Delivers lines sent id n down = (line : Line) × (number : ℕ) × (word : ℕ) × (receiver : Option ℕ) × IsDelivery lines sent id n down line number word receiver

-- the campaign before line n of the script
abbrev pub campaign_before : (image : List ℕ) → (lines : List Line) → (n : ℕ) → Result WorldState LineFault
campaign_before image lines n = read_lines (Ok (first_world image)) (take (n - 1) lines)

-- what comes this way to device id at line n, after a due reboot, is heard: it listens, and the session accepts the group
pub record Listens (image : List ℕ) (lines : List Line) (id n : ℕ) (to : To) (world : WorldState) (device : DeviceState) : Type 0 where
  pub before : campaign_before image lines n ≡ Ok world
  pub there : numbered world.devices id ≡ Some device
  pub hearing : hears (after_due_reboot world.time device) world.time to ≡ true
  pub way : excludes (mask_of world.server.plan.group) (via_of (after_due_reboot world.time device).class_session to) ≡ false

-- line n of the script brings this command to device id, which hears it
abbrev pub Brings : (image : List ℕ) → List Line → List SentPayload → (id n : ℕ) → Command → Type 0
Brings image lines sent id n command = (to : To) × (world : WorldState) × (device : DeviceState)
    × Delivers lines sent id n (record { to = to; command = command }) × Listens image lines id n to world device

-- the line whose number is the fragment's mark brings it, for the session of this index
abbrev pub WasBrought : (image : List ℕ) → List Line → List SentPayload → (id index : ℕ) → Fragment → Type 0
WasBrought image lines sent id index f = Brings image lines sent id f.mark (Cast (DataFragment index f.number f.part))

-- each fragment was brought up to this line, those heard before it at lines before its own, and the setup before them all
abbrev pub CameInOrder : (image : List ℕ) → List Line → List SentPayload → (id index : ℕ) → Command → ℕ → List Fragment → Type 0
CameInOrder image lines sent id index setup last [] = (n : ℕ) × (n ≤ last) × Brings image lines sent id n setup
CameInOrder image lines sent id index setup last (f ∷ older) =
    (f.mark ≤ last) × WasBrought image lines sent id index f × CameInOrder image lines sent id index setup (f.mark - 1) older

-- the setup that the server sends
abbrev pub setup_command : ServerState → Command
setup_command server = Cast (fragments_request server.plan server.image)

-- what the session of device id hears: what the lines of the script bring
pub record HearsBrought (image : List ℕ) (lines : List Line) (world : WorldState) (id : ℕ) (session : Session) : Type 0 where
  -- after the setup was brought, nothing else, and each fragment at its line
  pub only : CameInOrder image lines world.sent id world.server.plan.index (setup_command world.server) world.lines session.heard
  -- and each fragment that is brought after the setup was
  pub all : (f : Fragment) (n : ℕ) → Brings image lines world.sent id n (setup_command world.server) → n < f.mark
      → WasBrought image lines world.sent id world.server.plan.index f → In f session.heard

-- ---- what is seen of it

-- what is seen of the session in a campaign, where the image is known
pub record IsRecovered (image : List ℕ) (s : Session) : Type 0 where
  -- it is decided at the first fragment after which only one file fits, or independent coded fragments exceed the rows
  pub decided : IsDecidedAtFirst s
  -- a file that is the only one to fit what was heard by then is the image
  pub alone : (newer older : List Fragment) (file : List ℕ) → s.heard ≡ newer ++ older → OneFileFits (shape_of s) s.setup.padding older file → file ≡ image
  -- and the image is what is shown then
  pub shown : (mark : ℕ) → (seen_of s).verdict ≡ verdict.Complete mark → (seen_of s).file ≡ image
  -- there is no conflict
  pub agrees : (mark : ℕ) → (seen_of s).verdict ≢ verdict.Conflict mark

-- ---- what the report says

-- the report in which this is said of the verdict of the one session of device id
abbrev pub report_saying : WorldState → (id : ℕ) → Stage → DeviceState → Seen → List ℕ → List ℕ
report_saying world id stage device seen words =
    report_over world id stage device (session_text world.server.plan.index seen.received seen.missing words)

-- what is said of a session that is complete from a line on, with the server's image as its file
abbrev pub complete_words : ℕ → List ℕ
complete_words line = codes "complete at " ++ decimal line ++ codes " same"

-- what is said of one whose rows did not suffice
abbrev pub no_rows_words : ℕ → List ℕ
no_rows_words line = codes "norows at " ++ decimal line

-- the image is the one file that fits, from the fragment with this mark on, and until then it was open
abbrev pub WholeAt : List ℕ → Session → ℕ → Type 0
WholeAt image s mark = FirstAt (shape_of s) s.setup.padding (IsWhole (shape_of s) s.setup.padding image) s.heard mark

-- the fragment with this mark is one independent coded fragment too many, and until then the file was open
abbrev pub OverAt : Session → ℕ → Type 0
OverAt s mark = FirstAt (shape_of s) s.setup.padding (Overflows (shape_of s) s.setup.padding) s.heard mark

-- the file is open after each fragment
abbrev pub StaysOpen : Session → Type 0
StaysOpen s = AfterEach (IsOpen (shape_of s) s.setup.padding) s.heard

-- what the report says of the session
pub record IsReported (image : List ℕ) (world : WorldState) (id : ℕ) (stage : Stage) (device : DeviceState) (s : Session) : Type 0 where
  -- some fragment is the first after which only one file fits, the image; or one exceeds the rows first; or it is still open
  pub cases : ((line : ℕ) × WholeAt image s line) ⊎ (((line : ℕ) × OverAt s line) ⊎ StaysOpen s)
  -- where there is one, the report names its line
  pub complete : (line : ℕ) → WholeAt image s line → report_of world ≡ report_saying world id stage device (seen_of s) (complete_words line)
  pub no_rows : (line : ℕ) → OverAt s line → report_of world ≡ report_saying world id stage device (seen_of s) (no_rows_words line)
  -- and until then says so
  pub receiving : StaysOpen s → report_of world ≡ report_saying world id stage device (seen_of s) (codes "receiving")

-- ---- a campaign

-- a device of an honest campaign that has a session: the image's bytes, the lines, how they end, the device and its stage
pub record IsCampaign (image : List ℕ) (lines : List Line) (world : WorldState) (id : ℕ) (stage : Stage) (device : DeviceState) (session : Session) : Type 0 where
  pub bytes : All (λ b. b < 2 ^ 8) image
  pub honest : AreHonest world.server.plan.index lines
  pub accepted : campaign_of image lines ≡ Ok world
  pub stage_is : ledger world.server id ≡ Some stage
  pub device_is : numbered world.devices id ≡ Some device
  pub session_is : session_at device.sessions world.server.plan.index ≡ Some session

-- for any image and any accepted lines of losses, repeats and reorderings, whose keys and addresses fit their fields
pub record Headline : Type 0 where
  -- a device is configured as its line says
  pub configured : (image : List ℕ) (lines : List Line) (world : WorldState) (id : ℕ) (device : DeviceState) → All (λ b. b < 2 ^ 8) image
      → campaign_of image lines ≡ Ok world → numbered world.devices id ≡ Some device
      → IsOfItsLine lines id device.config
  -- where the lines are honest, it has no session but the server's
  pub one : (image : List ℕ) (lines : List Line) (world : WorldState) (id : ℕ) (device : DeviceState) → All (λ b. b < 2 ^ 8) image
      → AllFit world.server.plan.index lines → AreHonest world.server.plan.index lines → campaign_of image lines ≡ Ok world
      → numbered world.devices id ≡ Some device → HasNoOther world.server.plan.index device.sessions
  -- which is the one for the image
  pub served : (image : List ℕ) (lines : List Line) (world : WorldState) (id : ℕ) (stage : Stage) (device : DeviceState) (session : Session)
      → AllFit world.server.plan.index lines → IsCampaign image lines world id stage device session → IsServed image world.server device.config.rows session
  -- it hears what the lines bring
  pub brought : (image : List ℕ) (lines : List Line) (world : WorldState) (id : ℕ) (stage : Stage) (device : DeviceState) (session : Session)
      → AllFit world.server.plan.index lines → IsCampaign image lines world id stage device session → HearsBrought image lines world id session
  -- it is complete exactly when only one file fits, the image, unless the rows are exceeded first
  pub recovered : (image : List ℕ) (lines : List Line) (world : WorldState) (id : ℕ) (stage : Stage) (device : DeviceState) (session : Session)
      → AllFit world.server.plan.index lines → IsCampaign image lines world id stage device session → IsRecovered image session
  -- the report says so
  pub reported : (image : List ℕ) (lines : List Line) (world : WorldState) (id : ℕ) (stage : Stage) (device : DeviceState) (session : Session)
      → AllFit world.server.plan.index lines → IsCampaign image lines world id stage device session → IsReported image world id stage device session
