-- The answer of the program: the status and the text that words and files determine, where nothing fails.
use Rattle.std.specs.Prelude.{◌≡◌, ℕ, ◌+◌, Bool, true, false, nat_lt, if◌then◌else◌, List, ◌++◌, length, codes, Option, Some, None, Result, Ok, Err}
use Rattle.std.specs.Fmt.{decimal}
use Rattle.fuota_run.specs.Limits.{image_limit, script_limit}
use Rattle.fuota_run.specs.declared.status.Status.{Status}
use Rattle.fuota_run.specs.declared.status.Status.TheVariants as status
use Rattle.fuota_run.specs.declared.forms.FileForm.{FileForm}
use Rattle.fuota_run.specs.declared.forms.FileForm.TheVariants.{Replay, Decode, Capture}
use Rattle.fuota_run.specs.declared.forms.ScriptForm.{ScriptForm}
use Rattle.fuota_run.specs.declared.forms.ScriptForm.TheVariants.{Campaign, Recover}
use Rattle.report_lines.specs.declared.faults.LineFault.{LineFault}
use Rattle.report_lines.specs.Faults.{fault_line}
use Rattle.fuota_run.specs.Outside.{Held}
use Rattle.fuota_run.specs.Words.{Invocation, plays, payloads, generates, plays_two, asked}
use Rattle.report_lines.specs.Lines.{FileText}
use Rattle.payload_replay.specs.Capture.{Captures}
use Rattle.payload_replay.specs.Decode.{Decodes}
use Rattle.payload_replay.specs.Replay.{Replays}
use Rattle.image_slots.specs.Image.{is_image}
use Rattle.campaign_world.specs.World.{WorldState}
use Rattle.campaign_world.specs.Said.{said_in}
use Rattle.campaign_world.specs.Script.{campaign_of}
use Rattle.campaign_world.specs.Report.{report_of}
use Rattle.campaign_world.specs.Summary.{summary_of}
use Rattle.campaign_generator.specs.Firmware.{image_of}
use Rattle.campaign_generator.specs.Script.{script_of}
use Rattle.campaign_world.specs.declared.recovery.NoFile.{NoFile}
use Rattle.campaign_world.specs.declared.recovery.NoFile.TheVariants as no_file
use Rattle.campaign_world.specs.Recovery.{recovery}
use Rattle.pair_run.specs.Pair.{PairState}
use Rattle.pair_run.specs.PairScript.{campaigns_in}
use Rattle.pair_run.specs.PairReport.{pair_report_of}

-- a status and the text that is written with it
pub record Answer : Type 0 where
  pub status : Status
  pub text : List ℕ

abbrev pub answer : Status → List ℕ → Answer
answer status text = record { status = status; text = text }

abbrev pub usage_text : List ℕ
usage_text = codes "usage: fuota campaign IMAGE SCRIPT, recover IMAGE SCRIPT DEVICE, replay FILE, decode PORT DIR FILE, generate SEED, capture FILE, campaigns IMAGE IMAGE SCRIPT\n"

abbrev pub usage : Answer
usage = answer status.Usage usage_text

-- the answer for a refused line
abbrev pub refused : LineFault → Answer
refused fault = answer status.ScriptRefused (fault_line fault)

-- so many bytes were taken of a source that is longer than its limit
abbrev pub taken_text : ℕ → List ℕ
taken_text taken = codes "too long " ++ decimal taken ++ codes "\n"

-- a source is longer than its limit
abbrev pub too_long : ℕ → Answer
too_long limit = answer (status.TooLong (limit + 1)) (taken_text (limit + 1))

abbrev pub image_refused : Answer
image_refused = answer status.ImageRefused (codes "image refused\n")

abbrev pub read_fault : Answer
read_fault = answer status.ReadFault (codes "read fault\n")

abbrev pub no_file_word : NoFile → List ℕ
no_file_word no_file.None = codes "none"
no_file_word no_file.Receiving = codes "receiving"
no_file_word no_file.NoRows = codes "norows"
no_file_word no_file.Conflict = codes "conflict"

-- the answer for a device without a file: why it has none
abbrev pub not_complete : (device : ℕ) → NoFile → Answer
not_complete device why =
    answer status.NotComplete (codes "device " ++ decimal device ++ (codes " " ++ no_file_word why ++ codes "\n"))

-- the answer with the file that a device recovered
abbrev pub recovered : (device : ℕ) → Result (List ℕ) NoFile → Answer
recovered device (Ok file) = answer status.Done file
recovered device (Err why) = not_complete device why

-- the answer of each form for a campaign
abbrev pub world_answer : ScriptForm → WorldState → Answer
world_answer Campaign world = answer status.Done (report_of world)
world_answer (Recover device) world = recovered device (recovery world device)

-- the summary of the campaign of a seed
abbrev pub summary_answer : (seed : ℕ) → WorldState → Answer
summary_answer seed world = answer status.Done (codes "generate " ++ decimal seed ++ (codes "\n" ++ summary_of world))

-- the report of two campaigns
abbrev pub pair_answer : PairState → Answer
pair_answer pair = answer status.Done (pair_report_of pair)

-- the answer for a campaign, or for two, or for the first refused line
abbrev pub played : {W : Type 0} → (tell : W → Answer) → Result W LineFault → Answer
played tell (Ok world) = tell world
played tell (Err fault) = refused fault

-- for an image, first that it is too long, then that it is no image file; then the answer after it
abbrev pub behind_image : Option (List ℕ) → (List ℕ → Answer) → Answer
behind_image None behind = read_fault
behind_image (Some image) behind =
    if nat_lt image_limit (length image) then too_long image_limit
    else if is_image image then behind image
    else image_refused

-- for a script, first that it is too long; then the answer over it
abbrev pub behind_script : Option (List ℕ) → (List ℕ → Answer) → Answer
behind_script None told = read_fault
behind_script (Some script) told =
    if nat_lt script_limit (length script) then too_long script_limit else told script

-- the answer once the image is an image file
unfoldable pub script_answer : ScriptForm → List ℕ → Option (List ℕ) → Answer
script_answer what image script =
    behind_script script (λ bytes. played (world_answer what) (campaign_of image (said_in bytes)))

-- the answer to `campaign IMAGE SCRIPT` and to `recover IMAGE SCRIPT DEVICE`: for the image, then for the script
unfoldable pub campaign_answer : ScriptForm → Option (List ℕ) → Option (List ℕ) → Answer
campaign_answer what image script = behind_image image (λ bytes. script_answer what bytes script)

-- the answer once both images are image files
unfoldable pub pair_script_answer : (image_a image_b : List ℕ) → Option (List ℕ) → Answer
pair_script_answer image_a image_b script =
    behind_script script (λ bytes. played pair_answer (campaigns_in image_a image_b bytes))

-- the answer to `campaigns IMAGE IMAGE SCRIPT`: for the first image, then for the second one, then for the script
unfoldable pub campaigns_answer : (image_a image_b script : Option (List ℕ)) → Answer
campaigns_answer image_a image_b script =
    behind_image image_a (λ a. behind_image image_b (λ b. pair_script_answer a b script))

-- the text of a file of payloads, form by form
abbrev pub file_text : FileForm → FileText
file_text Replay = Replays
file_text (Decode port direction) = Decodes port direction
file_text Capture = Captures

-- the answer for a file of payloads: its text, or its first refused line
abbrev pub text_answer : Result (List ℕ) LineFault → Answer
text_answer (Ok text) = answer status.Done text
text_answer (Err fault) = refused fault

-- the answer to a file of payloads that was read: it is too long, or its text
abbrev pub IsReadAnswer : FileText → Bool → List ℕ → Answer → Type 0
IsReadAnswer Tells true file a = a ≡ too_long script_limit
IsReadAnswer Tells false file a = (said : Result (List ℕ) LineFault) × Tells file said × (a ≡ text_answer said)

-- the answer to a form with one file of payloads
unfoldable pub IsFileAnswer : FileText → Option (List ℕ) → Answer → Type 0
IsFileAnswer Tells None a = a ≡ read_fault
IsFileAnswer Tells (Some file) a = IsReadAnswer Tells (nat_lt script_limit (length file)) file a

-- the answer to `generate SEED`: the summary of the campaign of the seed's image and script
unfoldable pub generate_answer : (seed : ℕ) → Answer
generate_answer seed = played (summary_answer seed) (campaign_of (image_of seed) (said_in (script_of seed)))

-- the answer to what is asked for, over the files that are held
abbrev pub IsAnswerTo : Option Invocation → Held → Answer → Type 0
IsAnswerTo None held a = a ≡ usage
IsAnswerTo (Some (plays what image script)) held a = a ≡ campaign_answer what (held image) (held script)
IsAnswerTo (Some (payloads what file)) held a = IsFileAnswer (file_text what) (held file) a
IsAnswerTo (Some (generates seed)) held a = a ≡ generate_answer seed
IsAnswerTo (Some (plays_two image_a image_b script)) held a =
    a ≡ campaigns_answer (held image_a) (held image_b) (held script)

-- the answer to the words
unfoldable pub IsAnswer : List (List ℕ) → Held → Answer → Type 0
IsAnswer words held a = IsAnswerTo (asked words) held a

-- no words have two answers over the files that are held
abbrev pub HasOneAnswer : Type 0
HasOneAnswer = (words : List (List ℕ)) (held : Held) (one other : Answer) → IsAnswer words held one → IsAnswer words held other → one ≡ other

-- and all have one
abbrev pub HasAnAnswer : Type 0
HasAnAnswer = (words : List (List ℕ)) (held : Held) → (a : Answer) × IsAnswer words held a
