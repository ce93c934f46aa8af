-- Campaigns worked out: their reports, and the first refused lines of scripts.
use Rattle.std.specs.Prelude.{◌≡◌, ℕ, ◌+◌, Bool, true, false, List, [], ◌∷◌, ◌++◌, map, replicate, codes, Option, None, Some, Result, Ok, Err}
use Rattle.frag_session.specs.declared.answers.Verdict.{Verdict}
use Rattle.frag_session.specs.declared.answers.Verdict.TheVariants as verdict
use Rattle.frag_session.specs.Session.{Session, Seen, view_of}
use Rattle.mc_keys.specs.declared.root_kind.RootKind.{RootKind}
use Rattle.mc_keys.specs.declared.root_kind.RootKind.TheVariants.{V10, V11}
use Rattle.device_core.specs.declared.config.Class.TheVariants as device_class
use Rattle.package_grammar.specs.declared.downlink.To.TheVariants as to
use Rattle.package_grammar.specs.declared.downlink.Downlink.{Downlink}
use Rattle.device_core.specs.Device.{DeviceState}
use Rattle.device_core.specs.Events.{Event, Wakes, Receives, HearsBytes, Migrates}
use Rattle.session_store.specs.Size.{Size}
use Rattle.device_core.specs.WorkedConfig.{worked_config}
use Rattle.campaign_server.specs.declared.plan.Kind.TheVariants as kind
use Rattle.campaign_server.specs.declared.plan.PlanGroup.{PlanGroup}
use Rattle.campaign_server.specs.Framing.{frame_for}
use Rattle.campaign_server.specs.Plan.{Plan}
use Rattle.campaign_server.specs.declared.stage.Stage.TheVariants.{At, Updated, Refused}
use Rattle.campaign_server.specs.declared.stage.Request.TheVariants as request
use Rattle.campaign_server.specs.Server.{ServerState, first_server}
use Rattle.script_lines.specs.declared.forms.Class.{Class}
use Rattle.script_lines.specs.declared.forms.Class.TheVariants as class
use Rattle.script_lines.specs.declared.forms.DeviceLine.{DeviceLine}
use Rattle.script_lines.specs.declared.forms.Form.{Form}
use Rattle.script_lines.specs.declared.forms.Form.TheVariants.{Header, Image, Group, WindowC, WindowB, Device, Wake, Migrate, Frag, Down, Raw, Air, RawAir, End}
use Rattle.image_slots.specs.WorkedImages.{worked_image, ranged_image}
use Rattle.report_lines.specs.declared.faults.LineFault.{LineFault}
use Rattle.report_lines.specs.declared.faults.LineWhy.{LineWhy}
use Rattle.report_lines.specs.declared.faults.LineWhy.TheVariants as why
use Rattle.campaign_world.specs.World.{WorldState, first_plan, first_world}
use Rattle.campaign_world.specs.Said.{line_of, said_in}
use Rattle.campaign_world.specs.Causes.{is_in_order, fits_script, is_due_by, cause_of}
use Rattle.campaign_world.specs.Script.{campaign_of}
use Rattle.campaign_world.specs.declared.summary.Totals.{Totals}
use Rattle.campaign_world.specs.Summary.{heard_by, has_file, one_if, with_device, summary_with}
use Rattle.campaign_world.specs.declared.recovery.NoFile.TheVariants as no_file
use Rattle.campaign_world.specs.declared.section.Section.{Section}
use Rattle.campaign_world.specs.declared.section.Section.TheVariants as section
use Rattle.campaign_world.specs.Making.{config_of, device_of, event_of, after_form}
use Rattle.campaign_world.specs.Recovery.{file_of, recovery_by}
use Rattle.campaign_world.specs.Report.{report_of}

abbrev pub report_or_fault : Result WorldState LineFault → Result (List ℕ) LineFault
report_or_fault (Ok world) = Ok (report_of world)
report_or_fault (Err fault) = Err fault

-- what is said of the worked image and a script
abbrev pub told : (script : List ℕ) → Result (List ℕ) LineFault
told script = report_or_fault (campaign_of worked_image (said_in script))

abbrev pub reported : List ℕ → Result (List ℕ) LineFault
reported text = Ok text

abbrev pub refused : (line : ℕ) → LineWhy → Result (List ℕ) LineFault
refused line cause = Err (record { line = line; why = cause })

-- a plan with one device whose clock is 5 s ahead, and what follows
abbrev pub one_device : List ℕ → List ℕ
one_device events = codes "fuota 1\nimage 13 0\ndevice 1 c 1 0 5 00000000000000000000000000000000\n" ++ events

-- which image formats the devices know after a script
abbrev pub formats_behind : (script : List ℕ) → List ℕ
formats_behind script = known_in (campaign_of worked_image (said_in script))
  where
    known_in : Result WorldState LineFault → List ℕ
    known_in (Err fault) = []
    known_in (Ok world) = map (λ device. device.slots.formats) world.devices

-- which kinds of root keys the plan has after a script, and after them those of the devices
abbrev pub roots_behind : (script : List ℕ) → List RootKind
roots_behind script = roots_in (campaign_of worked_image (said_in script))
  where
    roots_in : Result WorldState LineFault → List RootKind
    roots_in (Err fault) = []
    roots_in (Ok world) =
        map (λ planned. planned.root) world.server.plan.devices ++ map (λ device. device.config.root) world.devices

pub record AreReported : Type 0 where
  -- a device that wakes is corrected once
  pub clock : told (one_device (codes "at 10000\nwake 1\nup 1\ndown 1 1\ndown 1 1\nend\n")) ≡ reported (codes
      "fuota report 1\nimage 52 fragments 4 size 13 padding 0 parity 0\ndevice 1 version clock 0 token 1 running 0 next none\ncounts deaf 0 refused 0 full 0 dropped 0\nend\n")
  -- an uplink that comes late is answered by the time at which it comes: at 20 s the device's time of 15 s is 5 s slow
  pub late : told (one_device (codes "at 10000\nwake 1\nat 20000\nup 1\ndown 1 1\nend\n")) ≡ reported (codes
      "fuota report 1\nimage 52 fragments 4 size 13 padding 0 parity 0\ndevice 1 version clock 10 token 1 running 0 next none\ncounts deaf 0 refused 0 full 0 dropped 0\nend\n")
  -- the answer to an uplink is its own device's
  pub own_answer : told (codes
      "fuota 1\nimage 13 0\ndevice 1 c 1 0 5 00000000000000000000000000000000\ndevice 2 c 1 0 5 00000000000000000000000000000000\nwake 1\nup 1\ndown 1 2\n")
      ≡ refused 7 why.Unsent
  -- the answer of the device's version leads on
  pub version : told (one_device (codes "ask 1\ndown 1 1\nup 1\nask 1\nfrag\nend\n")) ≡ reported (codes
      "fuota report 1\nimage 52 fragments 4 size 13 padding 0 parity 0\ndevice 1 fragments clock 5 token 0 running 0 next none\ncounts deaf 0 refused 0 full 0 dropped 0\nend\n")
  -- uplinks are numbered in the order of their making
  pub numbers : told (one_device (codes "wake 1\nask 1\ndown 1 1\nup 2\nend\n")) ≡ reported (codes
      "fuota report 1\nimage 52 fragments 4 size 13 padding 0 parity 0\ndevice 1 fragments clock 5 token 0 running 0 next none\ncounts deaf 0 refused 0 full 0 dropped 0\nend\n")
  -- power that comes back changes nothing
  pub power : told (codes
      "fuota 1\nimage 13 0\ndevice 1 c 1 0 5 00000000000000000000000000000000 flash\npower 1\nask 1\ndown 1 1\nup 1\npower 1\nask 1\nfrag\nend\n") ≡ reported (codes
      "fuota report 1\nimage 52 fragments 4 size 13 padding 0 parity 0\ndevice 1 fragments clock 5 token 0 running 0 next none\ncounts deaf 0 refused 0 full 0 dropped 0\nend\n")
  -- other hardware is refused, and a device of class A is deaf before its first uplink
  pub others : told (codes
      "fuota 1\nimage 50 2\ndevice 1 c 7 0 0 00000000000000000000000000000000\ndevice 2 a 1 0 0 00000000000000000000000000000000\nask 1\nask 2\ndown 1 1\nup 1\ndown 2 2\nend\n")
      ≡ reported (codes
      "fuota report 1\nimage 52 fragments 2 size 50 padding 48 parity 2\ndevice 1 refused version 1 clock 0 token 0 running 0 next none\ncounts deaf 0 refused 0 full 0 dropped 0\ndevice 2 version clock 0 token 0 running 0 next none\ncounts deaf 1 refused 0 full 0 dropped 0\nend\n")
  -- an image for hardware 1 to 3 goes to hardware 3, and not to hardware 4
  pub ranged : report_or_fault (campaign_of ranged_image (said_in (codes
      "fuota 1\nimage 56 0\ndevice 1 c 3 0 0 00000000000000000000000000000000\ndevice 2 c 4 0 0 00000000000000000000000000000000\nask 1\nask 2\ndown 1 1\ndown 2 2\nup 1\nup 2\nend\n")))
      ≡ reported (codes
      "fuota report 1\nimage 56 fragments 1 size 56 padding 0 parity 0\ndevice 1 fragments clock 0 token 0 running 0 next none\ncounts deaf 0 refused 0 full 0 dropped 0\ndevice 2 refused version 1 clock 0 token 0 running 0 next none\ncounts deaf 0 refused 0 full 0 dropped 0\nend\n")
  -- two of three devices know only format 1 at first, and the last one learns the other
  pub formats : formats_behind (codes
      "fuota 1\nimage 13 0\ndevice 1 c 1 0 0 00000000000000000000000000000000\ndevice 2 c 1 0 0 00000000000000000000000000000000 v1\ndevice 3 c 1 0 0 00000000000000000000000000000000 0000000a v1\nmigrate 3\nend\n")
      ≡ 2 ∷ 1 ∷ 2 ∷ []
  -- the keys of two of three devices are AppKeys of LoRaWAN 1.1, for both ends
  pub roots : roots_behind (codes
      "fuota 1\nimage 13 0\ndevice 1 c 1 0 0 00000000000000000000000000000000\ndevice 2 c 1 0 0 00000000000000000000000000000000 k11\ndevice 3 c 1 0 0 00000000000000000000000000000000 0000000a v1 k11\nend\n")
      ≡ V10 ∷ V11 ∷ V11 ∷ V10 ∷ V11 ∷ V11 ∷ []
  -- a device of a group is asked for it first, and is deaf to the group until it has its session
  pub group : told (codes
      "fuota 1\nimage 52 0\ngroup 11223344 00000000000000000000000000000000 0 10\nwindow c 1000 0 8695250 0\ndevice 1 c 1 0 0 00000000000000000000000000000000\nask 1\ndown 1 1\nup 1\nfrag\nstatus\ndown 2 1\ndown 3 1\nend\n")
      ≡ reported (codes
      "fuota report 1\nimage 52 fragments 1 size 52 padding 0 parity 0\ndevice 1 group clock 0 token 0 running 0 next none\ncounts deaf 2 refused 0 full 0 dropped 0\nend\n")
  -- what asks for the status goes to all devices of the group
  pub status_to_all : told (codes
      "fuota 1\nimage 52 0\ngroup 11223344 00000000000000000000000000000000 0 10\nwindow c 1000 0 8695250 0\ndevice 1 c 1 0 0 00000000000000000000000000000000\ndevice 2 c 1 0 0 00000000000000000000000000000000\nstatus\ndown 1 2\nend\n")
      ≡ reported (codes
      "fuota report 1\nimage 52 fragments 1 size 52 padding 0 parity 0\ndevice 1 version clock 0 token 0 running 0 next none\ncounts deaf 0 refused 0 full 0 dropped 0\ndevice 2 version clock 0 token 0 running 0 next none\ncounts deaf 1 refused 0 full 0 dropped 0\nend\n")
  -- anybody's payloads: two that the device refuses, and a request whose answer leads the server on
  pub strangers : told (one_device (codes "raw 1 201 0801\nraw 1 204 -\nraw 1 203 01\nup 1\nend\n")) ≡ reported (codes
      "fuota report 1\nimage 52 fragments 4 size 13 padding 0 parity 0\ndevice 1 fragments clock 5 token 0 running 0 next none\ncounts deaf 0 refused 2 full 0 dropped 0\nend\n")
  -- bytes of the air that are no frame are not heard: none, and 13 of a device that has no group
  pub strangers_bytes : told (one_device (codes "rawair 1 -\nrawair 1 60443322110001000000000000\nend\n")) ≡ reported (codes
      "fuota report 1\nimage 52 fragments 4 size 13 padding 0 parity 0\ndevice 1 version clock 5 token 0 running 0 next none\ncounts deaf 2 refused 0 full 0 dropped 0\nend\n")

pub record AreRefused : Type 0 where
  pub no_end : told (one_device []) ≡ refused 4 why.Syntax
  pub no_end_behind_events : told (one_device (codes "ask 1\n")) ≡ refused 5 why.Syntax
  pub no_form : told (one_device (codes "stop\n")) ≡ refused 4 why.Syntax
  pub order : told (one_device (codes "image 13 0\n")) ≡ refused 4 why.Order
  pub behind_the_end : told (one_device (codes "end\nend\n")) ≡ refused 5 why.Order
  pub range : told (one_device (codes "at 4294967296000\n")) ≡ refused 4 why.Range
  pub next_id : told (one_device (codes "device 3 c 1 0 0 00000000000000000000000000000000\n")) ≡ refused 4 why.Range
  pub device : told (one_device (codes "ask 2\n")) ≡ refused 4 why.Device
  pub device_to_power : told (one_device (codes "power 2\n")) ≡ refused 4 why.Device
  pub no_flash : told (one_device (codes "power 1\n")) ≡ refused 4 why.Device
  pub fifth_flash : told (codes
      "fuota 1\nimage 13 0\ndevice 1 c 1 0 0 00000000000000000000000000000000 flash\ndevice 2 c 1 0 0 00000000000000000000000000000000 flash\ndevice 3 c 1 0 0 00000000000000000000000000000000 flash\ndevice 4 c 1 0 0 00000000000000000000000000000000 flash\ndevice 5 c 1 0 0 00000000000000000000000000000000 flash\n")
      ≡ refused 7 why.Limit
  pub device_to_migrate : told (one_device (codes "migrate 2\n")) ≡ refused 4 why.Device
  -- the device is asked for before the payload
  pub device_of_no_payload : told (one_device (codes "down 1 2\n")) ≡ refused 4 why.Device
  pub payload : told (one_device (codes "down 1 1\n")) ≡ refused 4 why.Unsent
  -- it was sent to device 1
  pub to_another : told (codes
      "fuota 1\nimage 13 0\ndevice 1 c 1 0 0 00000000000000000000000000000000\ndevice 2 c 1 0 0 00000000000000000000000000000000\nask 1\ndown 1 2\n")
      ≡ refused 6 why.Unsent
  pub device_0 : told (one_device (codes "wake 0\n")) ≡ refused 4 why.Device
  -- the one device that has a flash is the one that loses its power
  pub other_flash : told (codes
      "fuota 1\nimage 13 0\ndevice 1 c 1 0 0 00000000000000000000000000000000\ndevice 2 c 1 0 0 00000000000000000000000000000000 flash\npower 2\npower 1\n")
      ≡ refused 6 why.Device
  -- a window of the group must come
  pub no_window : told (codes
      "fuota 1\nimage 13 0\ngroup 11223344 00000000000000000000000000000000 0 10\ndevice 1 c 1 0 0 00000000000000000000000000000000\n")
      ≡ refused 4 why.Order
  pub uplink : told (one_device (codes "up 1\n")) ≡ refused 4 why.Unsent
  pub time : told (one_device (codes "at 5\nat 4\n")) ≡ refused 5 why.Time
  -- a campaign begins at 0, and the time may stay
  pub time_stays : told (one_device (codes "at 0\nat 4\nat 4\nat 3\n")) ≡ refused 7 why.Time
  pub limit : told (one_device (codes "frag\nfrag\nfrag\nfrag\nfrag\n")) ≡ refused 8 why.Limit
  pub size : told (codes "fuota 1\nimage 240 0\n") ≡ refused 2 why.Range
  -- the group's one frame count is used up
  pub counts : told (codes
      "fuota 1\nimage 13 0\ngroup 11223344 00000000000000000000000000000000 9 10\nwindow b 1000 0 0 8695250 0\ndevice 1 c 1 0 0 00000000000000000000000000000000\nfrag\nstatus\n")
      ≡ refused 7 why.Limit
  -- anybody's payload: its port and word, its device, and last its length
  pub no_port : told (one_device (codes "raw 2 256 00\n")) ≡ refused 4 why.Range
  pub long_word : told (one_device (codes "raw 2 255 00 4294967296\n")) ≡ refused 4 why.Range
  pub strangers_device : told (one_device (codes "raw 2 255 00 4294967295\n")) ≡ refused 4 why.Device
  pub odd_digits : told (one_device (codes "raw 2 256 000\n")) ≡ refused 4 why.Syntax
  pub long_payload : told (one_device (codes "raw 1 201 " ++ (replicate 486 48 ++ codes "\n"))) ≡ refused 4 why.Limit
  pub long_payload_to_nobody : told (one_device (codes "raw 2 201 " ++ (replicate 486 48 ++ codes "\n"))) ≡ refused 4 why.Device
  pub long_payload_on_no_port : told (one_device (codes "raw 1 256 " ++ (replicate 486 48 ++ codes "\n"))) ≡ refused 4 why.Range
  pub longest_payload : told (one_device (codes "raw 1 201 " ++ (replicate 484 48 ++ codes "\n"))) ≡ refused 5 why.Syntax
  -- it is no sent payload, and has no number
  pub no_number : told (one_device (codes "raw 1 201 00\ndown 1 1\n")) ≡ refused 5 why.Unsent
  -- a frame: its word, its device, its payload, and that this one is to the group
  pub air_word : told (one_device (codes "air 1 2 4294967296\n")) ≡ refused 4 why.Range
  pub air_device : told (one_device (codes "air 1 2 4294967295\n")) ≡ refused 4 why.Device
  pub air_of_nothing : told (one_device (codes "air 1 1\n")) ≡ refused 4 why.Unsent
  pub air_of_unicast : told (one_device (codes "ask 1\nair 1 1\n")) ≡ refused 5 why.Unsent
  -- without a group a fragment is no payload to one
  pub air_without_group : told (one_device (codes "frag\nair 1 1\n")) ≡ refused 5 why.Unsent
  -- anybody's bytes: their spelling, the word and the device
  pub odd_bytes : told (one_device (codes "rawair 2 000 4294967296\n")) ≡ refused 4 why.Syntax
  pub bytes_word : told (one_device (codes "rawair 2 00 4294967296\n")) ≡ refused 4 why.Range
  pub bytes_device : told (one_device (codes "rawair 2 00 4294967295\n")) ≡ refused 4 why.Device
  -- as many as a line holds, and no number
  pub long_bytes : told (one_device (codes "rawair 1 " ++ (replicate 590 48 ++ codes "\nair 1 1\n"))) ≡ refused 5 why.Unsent
  -- an uplink comes when it is due, and not before
  pub due : is_due_by 6 (Some (record { device = 1; uplink = record { due = 6; port = 202; payload = [] } })) ≡ true
  pub not_due : is_due_by 5 (Some (record { device = 1; uplink = record { due = 6; port = 202; payload = [] } })) ≡ false

-- ---- the causes in their order, and the limits of a line

-- a device line, with `v1`, `k11` and `flash` or with none of them
abbrev pub worked_line : Class → Option ℕ → Bool → DeviceLine
worked_line class descriptor all = record {
  id = 1;
  class = class;
  hw = 7;
  rows = 3;
  offset = 9;
  key = 8 ∷ [];
  descriptor = descriptor;
  v1 = all;
  k11 = all;
  flash = all;
}

pub record AreCauses : Type 0 where
  -- order before range
  pub order_before_range : told (one_device (codes "image 240 0\n")) ≡ refused 4 why.Order
  -- range before device, device before unsent, and unsent before time and limit
  pub range_before_device : told (one_device (codes "down 1 2 4294967296\n")) ≡ refused 4 why.Range
  pub device_before_unsent : told (one_device (codes "down 9 2\n")) ≡ refused 4 why.Device
  -- a line of 601 bytes and line 20,001 are refused for that, whatever they say
  pub longest_line : cause_of (first_world worked_image) (line_of (replicate 600 48)) ≡ Some why.Syntax
  pub long_line : cause_of (first_world worked_image) (line_of (replicate 601 48)) ≡ Some why.Limit
  pub last_line : cause_of (record (first_world worked_image) { lines = 19999 }) (line_of (codes "fuota 1")) ≡ None
  pub many_lines : cause_of (record (first_world worked_image) { lines = 20000 }) (line_of (codes "fuota 1")) ≡ Some why.Limit
  -- an image of 4,096 fragments at the most, whose bytes are counted before
  pub most_fragments : fits_script 4096 0 (Image 1 0 0) ≡ true
  pub more_fragments : fits_script 4097 0 (Image 1 0 0) ≡ false
  pub more_of_two : fits_script 8193 0 (Image 2 0 0) ≡ false
  -- a group waits for its window, and no device or second group comes before it
  pub group_twice : is_in_order section.Window (Group 0 1 [] 0 1) ≡ false
  pub device_for_window : is_in_order section.Window (Device (worked_line class.A None false)) ≡ false
  pub window_first : is_in_order section.Group (WindowC 0 0 0 0) ≡ false
  pub group_behind : is_in_order section.Device (Group 0 1 [] 0 1) ≡ false
  pub event_first : is_in_order section.Device Frag ≡ false
  pub device_behind : is_in_order section.Events (Device (worked_line class.A None false)) ≡ false
  pub end_of_devices : is_in_order section.Devices End ≡ true
  pub nothing_behind : is_in_order section.Ended End ≡ false

-- ---- how the lines of a plan change it: each number in its place

-- the plan after a form, and what may come next
abbrev pub planned_by : Form → Plan
planned_by form = (after_form (first_world worked_image) form).server.plan

abbrev pub section_behind : Form → Section
section_behind form = (after_form (first_world worked_image) form).section

-- 16 rows for any file
abbrev pub size_16 : Size
size_16 = record { pieces = 4096; words = 1024; bytes = 3824 }

pub record ArePlanned : Type 0 where
  pub image : planned_by (Image 13 4 2) ≡ record first_plan { frag_size = 13; parity = 4; index = 2 }
  pub group : planned_by (Group 2 7 (8 ∷ []) 5 9) ≡ record first_plan { group = Some (record { id = 2; addr = 7; key = 8 ∷ []; min = 5; max = 9 }) }
  pub window_c : planned_by (WindowC 1 3 4 5) ≡ record first_plan { window = Some (record { kind = kind.C; start = 1; timeout = 3; freq = 4; dr = 5 }) }
  pub window_b : planned_by (WindowB 1 2 3 4 5)
      ≡ record first_plan { window = Some (record { kind = kind.B 2; start = 1; timeout = 3; freq = 4; dr = 5 }) }
  pub image_section : section_behind Header ≡ section.Image
  pub group_section : section_behind (Image 13 4 2) ≡ section.Group
  pub window_section : section_behind (Group 2 7 (8 ∷ []) 5 9) ≡ section.Window
  pub device_section : section_behind (WindowC 1 3 4 5) ≡ section.Device
  -- a device of class A with all that a line can say, and one of class C with as little as it can
  pub configured : config_of (worked_line class.A (Some 10) true) ≡ record (worked_config device_class.A 9) {
    hw = 7;
    formats = 1;
    rows = 3;
    key = 8 ∷ [];
    root = V11;
    descriptor = Some 10;
    held = true;
    span = 631573;
    size = size_16;
  }
  pub plain : config_of (worked_line class.C None false)
      ≡ record (worked_config device_class.C 9) { hw = 7; rows = 3; key = 8 ∷ []; size = size_16 }

-- ---- what each line lets happen at a device, at 7 ms and as line 9, with the random word 109

abbrev pub worked_group : PlanGroup
worked_group = record { id = 2; addr = 7; key = 8 ∷ []; min = 5; max = 9 }

abbrev pub worked_down : Downlink
worked_down = record { to = to.Group 7 5; port = 201; payload = 0x01 ∷ 0x00 ∷ [] }

abbrev pub event_by : Form → Option Event
event_by form = event_of (Some worked_group) (record { receiver = None; down = worked_down } ∷ []) 7 9 form

pub record AreEvents : Type 0 where
  pub wakes : event_by (Wake 1) ≡ Some (Wakes 7)
  pub migrates : event_by (Migrate 1) ≡ Some Migrates
  pub brought : event_by (Down 1 1 109) ≡ Some (Receives 7 109 9 worked_down)
  pub unsent : event_by (Down 2 1 109) ≡ None
  pub aired : event_by (Air 1 1 109) ≡ Some (HearsBytes 7 109 9 (frame_for (Some worked_group) worked_down))
  pub payload : event_by (Raw 1 200 (0x00 ∷ []) 109) ≡ Some (Receives 7 109 9 (record { to = to.Unicast; port = 200; payload = 0x00 ∷ [] }))
  pub bytes : event_by (RawAir 1 (0x00 ∷ []) 109) ≡ Some (HearsBytes 7 109 9 (0x00 ∷ []))

-- ---- two sessions of a stranger, and what a summary counts

-- device 2 of three is set up by anybody, with sessions of index 1 and 3
abbrev pub strangers_sessions : List ℕ
strangers_sessions = codes
    "fuota 1\nimage 13 0\ndevice 1 c 1 0 0 00000000000000000000000000000000\ndevice 2 c 1 0 0 00000000000000000000000000000000\ndevice 3 c 1 0 0 00000000000000000000000000000000\nraw 2 201 0210020001000000000000\nraw 2 201 0230010001000000000000\nend\n"

pub record AreSessions : Type 0 where
  pub two : told strangers_sessions ≡ reported (codes
      "fuota report 1\nimage 52 fragments 4 size 13 padding 0 parity 0\ndevice 1 version clock 0 token 0 running 0 next none\ncounts deaf 0 refused 0 full 0 dropped 0\ndevice 2 version clock 0 token 0 running 0 next none\ncounts deaf 0 refused 0 full 0 dropped 0\nsession 1 received 0 missing 2 receiving\nsession 3 received 0 missing 1 receiving\ndevice 3 version clock 0 token 0 running 0 next none\ncounts deaf 0 refused 0 full 0 dropped 0\nend\n")

-- a session 0 that heard two fragments
abbrev pub heard_session : Session
heard_session = record {
  setup = record { index = 0; mask = 0; nb_frag = 1; frag_size = 1; algo = 0; delay = 0; padding = 0; descriptor = 0 };
  rows = 0;
  heard = record { number = 1; part = 0x5a ∷ []; mark = 9 } ∷ record { number = 1; part = 0x5a ∷ []; mark = 8 } ∷ [];
}

abbrev pub counted_device : Option Session → DeviceState
counted_device session =
    let device = device_of (worked_line class.C None false) in
    record device { sessions = record device.sessions { first = session } }

-- what a session shows, with this verdict
abbrev pub shown_with : Verdict → Option Seen
shown_with v = Some (record { received = 4; missing = 0; verdict = v; file = [] })

-- the same with a file of one byte
abbrev pub shown_whole : Verdict → Option Seen
shown_whole v = Some (record { received = 4; missing = 0; verdict = v; file = 7 ∷ [] })

-- a device whose session is of index 1
abbrev pub second_device : Option Session → DeviceState
second_device session =
    let device = device_of (worked_line class.C None false) in
    record device { sessions = record device.sessions { second = session } }

abbrev pub counted_server : ServerState
counted_server = record (first_server worked_image (record first_plan { frag_size = 13 })) {
  stages = Updated ∷ Refused request.Image 1 ∷ At request.Check ∷ Updated ∷ [];
}

abbrev pub some_counted : Totals
some_counted = record { heard = 10; complete = 20; updated = 30 }

pub record AreCounted : Type 0 where
  -- of session 0, what it heard, and whether it is complete
  pub heard : heard_by (shown_with verdict.Receiving) ≡ 4
  pub nothing : heard_by None ≡ 0
  pub complete : has_file (shown_with (verdict.Complete 8)) ≡ true
  pub receiving : has_file (shown_with verdict.Receiving) ≡ false
  pub no_rows : has_file (shown_with (verdict.NoRows 8)) ≡ false
  pub conflict : has_file (shown_with (verdict.Conflict 8)) ≡ false
  pub no_session : has_file None ≡ false
  -- of session 0 what `recover` answers: its file, or where it stands
  pub recovers : file_of (shown_whole (verdict.Complete 8)) ≡ Ok (7 ∷ [])
  pub recovers_none : file_of None ≡ Err no_file.None
  pub recovers_receiving : file_of (shown_whole verdict.Receiving) ≡ Err no_file.Receiving
  pub recovers_no_rows : file_of (shown_whole (verdict.NoRows 8)) ≡ Err no_file.NoRows
  pub recovers_conflict : file_of (shown_whole (verdict.Conflict 8)) ≡ Err no_file.Conflict
  pub recovers_of_0 : recovery_by (Some (second_device (Some heard_session))) ≡ Err no_file.None
  pub recovers_of_nobody : recovery_by None ≡ Err no_file.None
  -- one device more
  pub heard_more : (with_device some_counted (At request.Check) (counted_device (Some heard_session))).heard ≡ 12
  pub complete_more : (with_device some_counted Updated (counted_device (Some heard_session))).complete
      ≡ 20 + one_if (has_file (view_of (Some heard_session)))
  pub one_more : one_if true ≡ 1
  pub no_more : one_if false ≡ 0
  pub updated_more : (with_device some_counted Updated (counted_device None)) ≡ record some_counted { updated = 31 }
  pub refused_no_more : (with_device some_counted (Refused request.Check 1) (counted_device None)) ≡ some_counted
  -- all devices
  pub all : summary_with counted_server 7 (counted_device None ∷ counted_device None ∷ counted_device None ∷ counted_device None ∷ [])
      ≡ codes "image 52 fragments 4\nsent 7 heard 0\ncomplete 0 updated 2\nend\n"
