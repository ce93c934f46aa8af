-- A capture is answered with its text, and ends as the answer to a replay.
use Rattle.std.proofs.Common.{◌≡◌, ℕ, Bool, false, nat_lt, List, ◌++◌, length, codes, Option, Some, Result, Ok, Err, refl, le-ltb, sym, ap, ◌∙◌, subst}
use Rattle.std.specs.Io.KnownBytes.{Appends}
use Rattle.device_core.specs.Device.{DeviceState}
use Rattle.script_lines.specs.Lines.{lines_of}
use Rattle.report_lines.specs.declared.faults.LineFault.{LineFault}
use Rattle.capture_read.specs.declared.answers.Entry.{Entry}
use Rattle.payload_replay.specs.Replay.{closing_text}
use Rattle.payload_replay.specs.Capture.{Caught, CatchesAll, Captures, capture_text}
use Rattle.payload_replay.specs.CaptureReplay.{IsReplayOf, entries_text}
use Rattle.payload_replay.proofs.CaptureLaw.{ends_as_replay}
use Rattle.payload_replay.proofs.CaptureLines.{capture_one}
use Rattle.payload_replay.proofs.ReplayLines.{replay_one}
use Rattle.fuota_run.specs.declared.forms.FileForm.{FileForm}
use Rattle.fuota_run.specs.declared.forms.FileForm.TheVariants.{Replay, Capture}
use Rattle.fuota_run.specs.declared.status.Status.{Status}
use Rattle.fuota_run.specs.declared.status.Status.TheVariants as status
use Rattle.fuota_run.specs.Ending.{AppendsAnswer}
use Rattle.fuota_run.specs.Outside.{Held}
use Rattle.fuota_run.specs.Words.{Invocation}
use Rattle.fuota_run.specs.Answer.{Answer, answer, file_text, text_answer, IsReadAnswer, IsFileAnswer, IsAnswerTo, IsAnswer}
use Rattle.fuota_run.specs.Headline.{IsFileHandedIn, IsCaptureAnswered, IsCaptureRun}

-- the answer to the words is that for a file within its limit
file_answered : (words : List (List ℕ)) (held : Held) (what : FileForm) (file : List ℕ) → IsFileHandedIn words held what file
    → (a : Answer) → IsAnswer words held a → (said : Result (List ℕ) LineFault) × file_text what file said × (a ≡ text_answer said)
unfolding IsAnswer IsFileAnswer
file_answered words held what file its a given =
    let here : IsFileAnswer (file_text what) (held its.name) a = subst (λ (o : Option Invocation). IsAnswerTo o held a) its.form given in
    let read : IsFileAnswer (file_text what) (Some file) a =
    subst (λ (f : Option (List ℕ)). IsFileAnswer (file_text what) f a) its.file_held here in
    let fine : nat_lt 1048576 (length file) ≡ false = le-ltb _ _ its.short in
    subst (λ (b : Bool). IsReadAnswer (file_text what) b file a) fine read

text_is : (words : List (List ℕ)) (held : Held) (file : List ℕ) (all : Caught) → IsFileHandedIn words held Capture file
    → CatchesAll (lines_of file) (Ok all) → (a : Answer) → IsAnswer words held a → a ≡ answer status.Done (capture_text all)
unfolding Captures
text_is words held file all its catches a given =
    let said = file_answered words held Capture file its a given in
    let text : Result (List ℕ) LineFault = Ok (capture_text all) in
    said.2 ∙ ap text_answer (capture_one file said.0 text said.1 (Ok all, catches, refl))

-- an answer that is done is a text
done_text : (said : Result (List ℕ) LineFault) (a : Answer) → a ≡ text_answer said → a.status ≡ status.Done
    → (text : List ℕ) × (said ≡ Ok text) × (a ≡ answer status.Done text)
done_text (Ok text) a is done = (text, refl, is)
done_text (Err fault) a is done = absurd (let other = sym (ap (λ (x : Answer). x.status) is) ∙ done in cc)

ends : (words replay_words : List (List ℕ)) (held : Held) (file replay_file : List ℕ) (items : List Entry)
    → IsFileHandedIn words held Capture file → IsFileHandedIn replay_words held Replay replay_file → IsReplayOf file replay_file items
    → (a replay : Answer) → IsAnswer words held a → a.status ≡ status.Done → IsAnswer replay_words held replay
    → (device : DeviceState)
    × (a ≡ answer status.Done (codes "fuota capture 1\n" ++ (entries_text 1 items ++ closing_text device)))
    × (replay ≡ answer status.Done (codes "fuota replay 1\n" ++ closing_text device))
ends words replay_words held file replay_file items its other same a replay given done there =
    let said = file_answered words held Capture file its a given in
    let text = done_text said.0 a said.2 done in
    let captures : Captures file (Ok text.0) = subst (λ (r : Result (List ℕ) LineFault). Captures file r) text.1 said.1 in
    let end = ends_as_replay file replay_file text.0 items same captures in
    let heard = file_answered replay_words held Replay replay_file other replay there in
    let second : Result (List ℕ) LineFault = Ok (codes "fuota replay 1\n" ++ closing_text end.0) in (
      end.0,
      text.2 ∙ ap (λ (t : List ℕ). answer status.Done t) end.1,
      heard.2 ∙ ap text_answer (replay_one replay_file heard.0 second heard.1 end.2),
    )

-- and so it was written
pub capture_run : (words : List (List ℕ)) (held : Held) (s : Status) (old new : Option (List ℕ)) → AppendsAnswer (Some held) words s old new
    → IsCaptureRun words held s old new
capture_run words held s old new given file replay_file items its same done =
    let said = file_answered words held Capture file its given.0 given.1 in
    let text = done_text said.0 given.0 said.2 (sym given.2 ∙ done) in
    let captures : Captures file (Ok text.0) = subst (λ (r : Result (List ℕ) LineFault). Captures file r) text.1 said.1 in
    let end = ends_as_replay file replay_file text.0 items same captures in
    record {
      device = end.0;
      text = subst (λ (t : List ℕ). Appends old new t) (ap (λ (a : Answer). a.text) text.2 ∙ end.1) given.3;
      replay = end.2;
    }

pub capture_answered : IsCaptureAnswered
capture_answered = record { text_is = text_is; ends_as_replay = ends }
