-- The program answers a campaign with its report, of which the headline speaks, and a replay and a capture with their
-- texts.
use Rattle.std.specs.Prelude.{◌≡◌, ℕ, ◌^◌, ◌<◌, ◌≤◌, List, ◌++◌, length, codes, All, true, Option, Some, Ok, Err}
use Rattle.std.specs.Io.KnownBytes.{Appends}
use Rattle.image_slots.specs.Image.{is_image}
use Rattle.campaign_world.specs.World.{WorldState}
use Rattle.campaign_world.specs.Said.{said_in}
use Rattle.campaign_world.specs.Script.{campaign_of}
use Rattle.campaign_world.specs.Honest.{AreHonest}
use Rattle.campaign_world.specs.Report.{report_of}
use Rattle.campaign_laws.specs.Headline.{IsOfItsLine, HasNoOther, IsServed, HearsBrought, IsRecovered, IsReported, IsCampaign}
use Rattle.device_core.specs.Events.{CameInTurn}
use Rattle.campaign_laws.specs.Verdicts.{Carries, IsToldOf, IsSessionOf}
use Rattle.campaign_laws.specs.Accepted.{IsCampaignOf}
use Rattle.campaign_laws.specs.Ledger.{Runs}
use Rattle.campaign_server.specs.declared.stage.Stage.{Stage}
use Rattle.campaign_server.specs.declared.stage.Stage.TheVariants.{Updated}
use Rattle.campaign_server.specs.Server.{ledger}
use Rattle.wire_base.specs.Numbered.{numbered}
use Rattle.frag_session.specs.Session.{Session}
use Rattle.frag_session.specs.FirstMoment.{IsDecidedAtFirst}
use Rattle.fuota_run.specs.declared.status.Status.{Status}
use Rattle.fuota_run.specs.declared.status.Status.TheVariants as status
use Rattle.fuota_run.specs.Outside.{Held}
use Rattle.fuota_run.specs.Limits.{image_limit, script_limit}
use Rattle.device_core.specs.Device.{DeviceState}
use Rattle.script_lines.specs.Lines.{lines_of}
use Rattle.payload_replay.specs.Replay.{Reaches, Replays, closing_text, replay_text}
use Rattle.payload_replay.specs.Capture.{Caught, CatchesAll, capture_text}
use Rattle.payload_replay.specs.CaptureReplay.{IsReplayOf, entries_text}
use Rattle.payload_replay.specs.ReplayHeadline as replayed
use Rattle.capture_read.specs.declared.answers.Entry.{Entry}
use Rattle.fuota_run.specs.declared.forms.FileForm.{FileForm}
use Rattle.fuota_run.specs.declared.forms.FileForm.TheVariants.{Replay, Capture}
use Rattle.fuota_run.specs.declared.forms.ScriptForm.{ScriptForm}
use Rattle.fuota_run.specs.declared.forms.ScriptForm.TheVariants.{Campaign, Recover}
use Rattle.campaign_world.specs.declared.recovery.NoFile.{NoFile}
use Rattle.campaign_world.specs.Recovery.{recovery}
use Rattle.fuota_run.specs.Words.{plays, payloads, generates, asked}
use Rattle.fuota_run.specs.Answer.{Answer, answer, not_complete, summary_answer, IsAnswer}

-- the words and the files of a form over a campaign: both files are within their limits, and the image is an image file
pub record AreHandedIn (words : List (List ℕ)) (held : Held) (what : ScriptForm) (image script : List ℕ) : Type 0 where
  pub image_name : List ℕ
  pub script_name : List ℕ
  pub form : asked words ≡ Some (plays what image_name script_name)
  pub image_held : held image_name ≡ Some image
  pub script_held : held script_name ≡ Some script
  pub image_short : length image ≤ image_limit
  pub script_short : length script ≤ script_limit
  pub image_fine : is_image image ≡ true

-- for any image and any accepted script, the answer is the report of that campaign
abbrev pub IsReportAnswered : Type 0
IsReportAnswered = (words : List (List ℕ)) (held : Held) (image script : List ℕ) (world : WorldState) → AreHandedIn words held Campaign image script
    → campaign_of image (said_in script) ≡ Ok world → (a : Answer) → IsAnswer words held a → a ≡ answer status.Done (report_of world)

-- for any image and any accepted script, the answer is the file of a device that has one, which is the image where the script is
-- honest; and else it says why there is none
pub record IsRecoveryAnswered : Type 0 where
  pub file_is : (words : List (List ℕ)) (held : Held) (device : ℕ) (image script : List ℕ) (world : WorldState) (file : List ℕ)
      → AreHandedIn words held (Recover device) image script
      → campaign_of image (said_in script) ≡ Ok world → recovery world device ≡ Ok file → (a : Answer) → IsAnswer words held a
      → a ≡ answer status.Done file
  pub image_is : (words : List (List ℕ)) (held : Held) (device : ℕ) (image script : List ℕ) (world : WorldState) (file : List ℕ)
      → All (λ b. b < 2 ^ 8) image → AreHandedIn words held (Recover device) image script → AreHonest 0 (said_in script)
      → campaign_of image (said_in script) ≡ Ok world → recovery world device ≡ Ok file → (a : Answer) → IsAnswer words held a
      → a ≡ answer status.Done image
  pub no_file : (words : List (List ℕ)) (held : Held) (device : ℕ) (image script : List ℕ) (world : WorldState) (why : NoFile)
      → AreHandedIn words held (Recover device) image script
      → campaign_of image (said_in script) ≡ Ok world → recovery world device ≡ Err why → (a : Answer) → IsAnswer words held a
      → a ≡ not_complete device why

-- for any payloads that are replayed to their end, the answer is the text of the device that heard them
abbrev pub IsReplayAnswered : Type 0
IsReplayAnswered = (words : List (List ℕ)) (held : Held) (name file : List ℕ) (device : DeviceState) → asked words ≡ Some (payloads Replay name)
    → held name ≡ Some file → length file ≤ script_limit → Reaches (lines_of file) (Ok device) → (a : Answer) → IsAnswer words held a
    → a ≡ answer status.Done (replay_text device)

-- the words and the file of a form with one file, which is within its limit
pub record IsFileHandedIn (words : List (List ℕ)) (held : Held) (what : FileForm) (file : List ℕ) : Type 0 where
  pub name : List ℕ
  pub form : asked words ≡ Some (payloads what name)
  pub file_held : held name ≡ Some file
  pub short : length file ≤ script_limit

-- for any capture whose lines are all accepted, the answer is the text of what was caught of them; where all its payloads go down
-- on port 201, it has its entries and then, from the counts on, the answer to a replay of them
pub record IsCaptureAnswered : Type 0 where
  pub text_is : (words : List (List ℕ)) (held : Held) (file : List ℕ) (all : Caught)
      → IsFileHandedIn words held Capture file → CatchesAll (lines_of file) (Ok all)
      → (a : Answer) → IsAnswer words held a → a ≡ answer status.Done (capture_text all)
  pub ends_as_replay : (words replay_words : List (List ℕ)) (held : Held) (file replay_file : List ℕ)
      (items : List Entry) → IsFileHandedIn words held Capture file
      → IsFileHandedIn replay_words held Replay replay_file → IsReplayOf file replay_file items
      → (a replay : Answer) → IsAnswer words held a → a.status ≡ status.Done → IsAnswer replay_words held replay
      → (device : DeviceState)
      × (a ≡ answer status.Done (codes "fuota capture 1\n" ++ (entries_text 1 items ++ closing_text device)))
      × (replay ≡ answer status.Done (codes "fuota replay 1\n" ++ closing_text device))

-- so a capture was written whose payloads all go down on port 201: its entries, and then, from the counts on, the text of the
-- replay of the same payloads
pub record IsCaptureWritten (replay_file : List ℕ) (items : List Entry) (old new : Option (List ℕ)) : Type 0 where
  pub device : DeviceState
  pub text : Appends old new (codes "fuota capture 1\n" ++ (entries_text 1 items ++ closing_text device))
  pub replay : Replays replay_file (Ok (codes "fuota replay 1\n" ++ closing_text device))

-- a capture that is not refused is written with what its device heard
abbrev pub IsCaptureRun : List (List ℕ) → Held → Status → Option (List ℕ) → Option (List ℕ) → Type 0
IsCaptureRun words held s old new = (file replay_file : List ℕ) (items : List Entry) → IsFileHandedIn words held Capture file
    → IsReplayOf file replay_file items → s ≡ status.Done → IsCaptureWritten replay_file items old new

-- for any seed, no line of its campaign is refused, and the answer is its summary
abbrev pub IsSeedAnswered : Type 0
IsSeedAnswered = (words : List (List ℕ)) (held : Held) (seed : ℕ) → asked words ≡ Some (generates seed)
    → (world : WorldState) × IsCampaignOf seed world × ((a : Answer) → IsAnswer words held a → a ≡ summary_answer seed world)

-- ---- the same of a run: its status, and the bytes of the sink before and after it

-- what the headline says of a device that has a session
pub record IsHeadline (image script : List ℕ) (world : WorldState) (id : ℕ) (stage : Stage) (device : DeviceState) (session : Session) : Type 0 where
  pub served : IsServed image world.server device.config.rows session
  pub brought : HearsBrought image (said_in script) world id session
  pub recovered : IsRecovered image session
  pub reported : IsReported image world id stage device session

-- what is said of each session of a device, whoever sent what reached it
pub record IsVerdict (image script : List ℕ) (world : WorldState) (id : ℕ) (device : DeviceState) (index : ℕ) (s : Session) : Type 0 where
  pub heard : CameInTurn (Carries (said_in script) world.server.plan.group world.sent id) index (length (said_in script))
      s.heard
  pub decided : IsDecidedAtFirst s
  pub told : (stage : Stage) → ledger world.server id ≡ Some stage → IsToldOf world id stage device index s

-- the whole report of that campaign was appended, and of each device that has a session it says what the headline says, where
-- the script is honest
pub record IsReportWritten (image script : List ℕ) (world : WorldState) (s : Status) (old new : Option (List ℕ)) : Type 0 where
  pub done : s ≡ status.Done
  pub report : Appends old new (report_of world)
  pub configured : (id : ℕ) (device : DeviceState) → numbered world.devices id ≡ Some device
      → IsOfItsLine (said_in script) id device.config
  pub one : (id : ℕ) (device : DeviceState) → AreHonest 0 (said_in script) → numbered world.devices id ≡ Some device → HasNoOther 0 device.sessions
  pub headline : (id : ℕ) (stage : Stage) (device : DeviceState) (session : Session)
      → IsCampaign image (said_in script) world id stage device session → IsHeadline image script world id stage device session
  -- where the server says that a device is updated, the device runs the image, if the script is honest
  pub ledger : (id : ℕ) → AreHonest 0 (said_in script) → ledger world.server id ≡ Some Updated → Runs image world.devices id
  -- and of each session, honest or not, the verdict
  pub verdicts : (id : ℕ) (device : DeviceState) (index : ℕ) (s : Session) → IsSessionOf image (said_in script) world id device index s
      → IsVerdict image script world id device index s

-- so it is for any image and any accepted script that the words ask for
abbrev pub IsCampaignRun : List (List ℕ) → Held → Status → Option (List ℕ) → Option (List ℕ) → Type 0
IsCampaignRun words held s old new = (image script : List ℕ) (world : WorldState) → AreHandedIn words held Campaign image script
    → All (λ b. b < 2 ^ 8) image → campaign_of image (said_in script) ≡ Ok world → IsReportWritten image script world s old new

-- what was appended is this answer's text
abbrev pub IsWritten : Answer → Status → Option (List ℕ) → Option (List ℕ) → Type 0
IsWritten a s old new = (s ≡ a.status) × Appends old new a.text

-- the file of a device that has one was appended, which is the image where the script is honest; else why the device has none
pub record IsRecoveryWritten (image script : List ℕ) (world : WorldState) (device : ℕ) (s : Status) (old new : Option (List ℕ)) : Type 0 where
  pub file_is : (file : List ℕ) → recovery world device ≡ Ok file → IsWritten (answer status.Done file) s old new
  pub image_is : (file : List ℕ) → All (λ b. b < 2 ^ 8) image → AreHonest 0 (said_in script) → recovery world device ≡ Ok file → IsWritten (answer status.Done image) s old new
  pub no_file : (why : NoFile) → recovery world device ≡ Err why → IsWritten (not_complete device why) s old new

-- a script that is not refused gives the file of a device, or says where it stands
abbrev pub IsRecoveryRun : List (List ℕ) → Held → Status → Option (List ℕ) → Option (List ℕ) → Type 0
IsRecoveryRun words held s old new = (device : ℕ) (image script : List ℕ) (world : WorldState) → AreHandedIn words held (Recover device) image script
    → campaign_of image (said_in script) ≡ Ok world → IsRecoveryWritten image script world device s old new

-- what is said of each session of a device that heard the payloads of a file
pub record IsReplayVerdict (file : List ℕ) (device : DeviceState) (index : ℕ) (s : Session) : Type 0 where
  pub heard : CameInTurn (replayed.Carries (lines_of file)) index (length (lines_of file)) s.heard
  pub decided : IsDecidedAtFirst s
  pub told : replayed.IsToldOf device index s

-- the text of that device was appended, and it says of each session what the lines have for it
pub record IsReplayWritten (file : List ℕ) (device : DeviceState) (s : Status) (old new : Option (List ℕ)) : Type 0 where
  pub text : IsWritten (answer status.Done (replay_text device)) s old new
  pub verdicts : (index : ℕ) (session : Session) → replayed.IsReplayed file device index session
      → IsReplayVerdict file device index session

-- payloads that are not refused are reported by their device's session
abbrev pub IsReplayRun : List (List ℕ) → Held → Status → Option (List ℕ) → Option (List ℕ) → Type 0
IsReplayRun words held s old new = (file : List ℕ) (device : DeviceState) → IsFileHandedIn words held Replay file
    → Reaches (lines_of file) (Ok device) → IsReplayWritten file device s old new

-- for any seed no line of its campaign is refused, and its summary was appended
abbrev pub IsSeedRun : List (List ℕ) → Status → Option (List ℕ) → Option (List ℕ) → Type 0
IsSeedRun words s old new = (seed : ℕ) → asked words ≡ Some (generates seed)
    → (world : WorldState) × IsCampaignOf seed world × IsWritten (summary_answer seed world) s old new
