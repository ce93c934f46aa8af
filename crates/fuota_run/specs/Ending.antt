-- How a run of the program ends, and why: what each status says of the files and of the sink.
use Rattle.std.specs.Prelude.{◌≡◌, ◌≢◌, ◌↔◌, ◌⊎◌, ℕ, ◌≤◌, length, Bool, true, false, List, ⊤, Option, None, Some, IfSome, Result, Ok, Err}
use Rattle.std.specs.Io.KnownBytes.{Keeps, Appends, IsAtEnd}
use Rattle.fuota_run.specs.declared.status.Status.{Status}
use Rattle.fuota_run.specs.declared.status.Status.TheVariants as status
use Rattle.report_lines.specs.declared.faults.LineError.{LineError}
use Rattle.report_lines.specs.declared.faults.LineError.TheVariants as error
use Rattle.report_lines.specs.declared.faults.LineFault.{LineFault}
use Rattle.fuota_run.specs.Outside.{Held, HoldsName, HasRisen, AppendsFront}
use Rattle.campaign_world.specs.World.{WorldState}
use Rattle.image_slots.specs.Image.{is_image}
use Rattle.fuota_run.specs.Limits.{image_limit}
use Rattle.fuota_run.specs.Source.{IsSource, IsTakenOf}
use Rattle.fuota_run.specs.Words.{Invocation, plays, payloads, generates, plays_two, asked, asks_files}
use Rattle.fuota_run.specs.Answer.{Answer, answer, read_fault, usage, file_text, campaign_answer, campaigns_answer, generate_answer, IsFileAnswer, IsAnswerTo, IsAnswer}

-- where it is known what the files hold, something is held under the names of the files that are asked for
abbrev pub HoldsInvocation : Option Held → Option Invocation → Type 0
HoldsInvocation held None = ⊤
HoldsInvocation held (Some (plays what image script)) = HoldsName held image × HoldsName held script
HoldsInvocation held (Some (payloads what file)) = HoldsName held file
HoldsInvocation held (Some (generates seed)) = ⊤
HoldsInvocation held (Some (plays_two image_a image_b script)) =
    HoldsName held image_a × HoldsName held image_b × HoldsName held script

-- where the files are told there is one under each name that the words ask for
abbrev pub HoldsForm : Option Held → List (List ℕ) → Type 0
HoldsForm None words = ⊤
HoldsForm (Some held) words = HoldsInvocation (Some held) (asked words)

-- the answer for a campaign, or its first refused line
abbrev pub IsPlayed : (tell : WorldState → Answer) → Result WorldState LineFault → Result Answer LineError → Type 0
IsPlayed tell outcome (Ok a) = (world : WorldState) × (outcome ≡ Ok world) × (a ≡ tell world)
IsPlayed tell outcome (Err (error.Line fault)) = outcome ≡ Err fault
IsPlayed tell outcome (Err error.Memory) = ⊤

-- a status that has a text: all but these two
abbrev pub HasText : Status → Type 0
HasText status.WriteFault = ⊥
HasText status.Memory = ⊥
HasText s = ⊤

-- with these statuses the file chosen last was read to its end
abbrev pub ends_source : Status → Bool
ends_source status.Done = true
ends_source status.ImageRefused = true
ends_source status.ScriptRefused = true
ends_source status.NotComplete = true
ends_source s = false

-- the answer to what is asked for, for any bytes of the files
abbrev pub IsAnswerToSome : Option Invocation → Answer → Type 0
IsAnswerToSome None a = a ≡ usage
IsAnswerToSome (Some (plays what image_name script_name)) a =
    (image : List ℕ) × (script : List ℕ) × (a ≡ campaign_answer what (Some image) (Some script))
IsAnswerToSome (Some (payloads what name)) a = (file : List ℕ) × IsFileAnswer (file_text what) (Some file) a
IsAnswerToSome (Some (generates seed)) a = a ≡ generate_answer seed
IsAnswerToSome (Some (plays_two name_a name_b script_name)) a =
    (image_a : List ℕ) × (image_b : List ℕ) × (script : List ℕ)
    × (a ≡ campaigns_answer (Some image_a) (Some image_b) (Some script))

-- the answer is what the words ask of the files, or of some files where none are told
abbrev pub Gives : Option Held → Option Invocation → Answer → Type 0
Gives None what a = IsAnswerToSome what a
Gives (Some held) what a = IsAnswerTo what held a

-- an answer that must be given, or that reading failed, and the count of faults rose
abbrev pub IsGivenOrFault : Type 0 → (before now : ℕ) → Answer → Type 0
IsGivenOrFault gives before now a = gives ⊎ ((a ≡ read_fault) × HasRisen before now)

-- the answer is that reading failed only where the count of faults rose
abbrev pub IsCaused : (before now : ℕ) → Answer → Type 0
IsCaused before now a = a.status ≡ status.ReadFault → HasRisen before now × (a ≡ read_fault)

-- where there are files, and the one chosen last was read to its end, nothing is left of it
abbrev pub IsReadUp : (has_files : Bool) → Status → Option (List ℕ) → Type 0
IsReadUp true s left = ends_source s ≡ true → IsAtEnd left
IsReadUp false s left = ⊤

-- the files around a call: what they hold, their counts of faults before and after, and what is left of the file chosen last
pub record OutsideFiles : Type 0 where
  pub held : Option Held
  pub before : ℕ
  pub after : ℕ
  pub left : Option (List ℕ)

-- what holds for an answer to what is asked for, over the files
pub record IsSoundAnswer (what : Option Invocation) (files : OutsideFiles) (a : Answer) : Type 0 where
  pub answered : IsGivenOrFault (Gives files.held what a) files.before files.after a
  pub has_text : HasText a.status
  -- the answer is that reading failed exactly where a call failed
  pub caused : IsCaused files.before files.after a
  pub quiet : a.status ≢ status.ReadFault → files.after ≡ files.before
  pub read_up : IsReadUp (asks_files what) a.status files.left
  -- the answer is the usage exactly where nothing is asked for
  pub usage : (a.status ≡ status.Usage) ↔ (what ≡ None)
  -- so many bytes were taken of a source that is too long
  pub taken : (taken : ℕ) → a.status ≡ status.TooLong taken → IsTakenOf files.held what taken files.left

-- what holds for an answer over files that hold this, whose count of faults was the one and is the other; this is left of the
-- file chosen last
abbrev pub IsSoundOver : Option Held → (before after : ℕ) → Option (List ℕ) → Option Invocation → Answer → Type 0
IsSoundOver held before after left what a =
    IsSoundAnswer what (record { held = held; before = before; after = after; left = left }) a

-- an image file that was read under a name, within its limit
pub record IsImageRead (held : Option Held) (name image : List ℕ) : Type 0 where
  pub source : IsSource held name image_limit image
  pub within : length image ≤ image_limit
  pub file : is_image image ≡ true

-- ---- the run as a whole

-- where it is known what the files hold, no count of faults rose and memory sufficed, this holds for what they hold
abbrev pub WhereNoneFails : Option Held → (files_before files_after out_before out_after : ℕ) → Status → (Held → Type 0) → Type 0
WhereNoneFails held files_before files_after out_before out_after s Claim = IfSome held (λ h.
    ¬ HasRisen files_before files_after → ¬ HasRisen out_before out_after → s ≢ status.Memory → Claim h)

-- the status is that of the answer, and its text was appended; where no file is known, that of an answer to some bytes
abbrev pub AppendsAnswer : Option Held → List (List ℕ) → Status → Option (List ℕ) → Option (List ℕ) → Type 0
AppendsAnswer None words s old new = (text : List ℕ) × IsAnswerToSome (asked words) (answer s text) × Appends old new text
AppendsAnswer (Some held) words s old new = (a : Answer) × IsAnswer words held a × (s ≡ a.status) × Appends old new a.text

-- a front of an answer's text was appended
abbrev pub AppendsAnswerFront : Option Held → List (List ℕ) → Option (List ℕ) → Option (List ℕ) → Type 0
AppendsAnswerFront None words old new = (a : Answer) × IsAnswerToSome (asked words) a × AppendsFront old new a.text
AppendsAnswerFront (Some held) words old new = (a : Answer) × IsAnswer words held a × AppendsFront old new a.text

-- the counts of faults before and after, and the sink's bytes
pub record Effects : Type 0 where
  pub files_before : ℕ
  pub files_after : ℕ
  pub out_before : ℕ
  pub out_after : ℕ
  pub old : Option (List ℕ)
  pub new : Option (List ℕ)

-- what each status says: a fault of reading is a rise of the files' count; a fault of writing is a rise of the sink's, and left a
-- front of the text; where memory was missing nothing was written; each other status is the answer's, with its text
abbrev pub Ends : Option Held → List (List ℕ) → Effects → Status → Type 0
Ends held words e status.ReadFault = HasRisen e.files_before e.files_after × Appends e.old e.new read_fault.text
Ends held words e status.WriteFault =
    HasRisen e.out_before e.out_after
    × (AppendsAnswerFront held words e.old e.new ⊎ (HasRisen e.files_before e.files_after × AppendsFront e.old e.new read_fault.text))
Ends held words e status.Memory = Keeps e.old e.new
Ends held words e status.Done = AppendsAnswer held words status.Done e.old e.new
Ends held words e status.Usage = AppendsAnswer held words status.Usage e.old e.new
Ends held words e status.ImageRefused = AppendsAnswer held words status.ImageRefused e.old e.new
Ends held words e status.ScriptRefused = AppendsAnswer held words status.ScriptRefused e.old e.new
Ends held words e status.NotComplete = AppendsAnswer held words status.NotComplete e.old e.new
Ends held words e (status.TooLong taken) = AppendsAnswer held words (status.TooLong taken) e.old e.new

-- the answer to words that are no form, unless writing failed or memory was missing
abbrev pub IsNoForm : Status → Type 0
IsNoForm status.Usage = ⊤
IsNoForm status.WriteFault = ⊤
IsNoForm status.Memory = ⊤
IsNoForm status.Done = ⊥
IsNoForm status.ImageRefused = ⊥
IsNoForm status.ScriptRefused = ⊥
IsNoForm status.NotComplete = ⊥
IsNoForm status.ReadFault = ⊥
IsNoForm (status.TooLong taken) = ⊥

-- the sink's last call was a finish that was Ok, except where writing failed or memory was missing
abbrev pub IsFinished : Status → Bool → Type 0
IsFinished status.WriteFault finished = ⊤
IsFinished status.Memory finished = ⊤
IsFinished status.Done finished = finished ≡ true
IsFinished status.Usage finished = finished ≡ true
IsFinished status.ImageRefused finished = finished ≡ true
IsFinished status.ScriptRefused finished = finished ≡ true
IsFinished status.NotComplete finished = finished ≡ true
IsFinished status.ReadFault finished = finished ≡ true
IsFinished (status.TooLong taken) finished = finished ≡ true

-- ---- a run that nothing outside can fail

-- the status is the answer's
abbrev pub IsAnswered : Held → List (List ℕ) → Status → Type 0
IsAnswered held words s = (text : List ℕ) × IsAnswer words held (answer s text)

-- no fault comes, only missing memory may
abbrev pub IsSure : Held → List (List ℕ) → Status → Type 0
IsSure held words status.Memory = Unit {0}
IsSure held words status.ReadFault = ⊥
IsSure held words status.WriteFault = ⊥
IsSure held words status.Done = IsAnswered held words status.Done
IsSure held words status.Usage = IsAnswered held words status.Usage
IsSure held words status.ImageRefused = IsAnswered held words status.ImageRefused
IsSure held words status.ScriptRefused = IsAnswered held words status.ScriptRefused
IsSure held words status.NotComplete = IsAnswered held words status.NotComplete
IsSure held words (status.TooLong taken) = IsAnswered held words (status.TooLong taken)

-- ---- no fault is passed over

-- a status that says nothing of a fault, nor of memory
abbrev pub IsFaultless : Status → Type 0
IsFaultless status.ReadFault = ⊥
IsFaultless status.WriteFault = ⊥
IsFaultless status.Memory = ⊥
IsFaultless s = ⊤
