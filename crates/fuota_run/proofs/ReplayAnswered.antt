-- A replay is answered with the text of the device that heard its payloads.
use Rattle.std.proofs.Common.{◌≡◌, ℕ, ◌≤◌, Bool, false, nat_lt, List, length, Option, Some, Result, Ok, le-ltb, ap, ◌∙◌, subst}
use Rattle.device_core.specs.Device.{DeviceState}
use Rattle.script_lines.specs.Lines.{lines_of}
use Rattle.report_lines.specs.declared.faults.LineFault.{LineFault}
use Rattle.report_lines.specs.Lines.{text_at_end}
use Rattle.payload_replay.specs.Replay.{Reaches, Replays, replay_text}
use Rattle.payload_replay.proofs.ReplayLines.{reaches_once}
use Rattle.fuota_run.specs.declared.forms.FileForm.TheVariants.{Replay}
use Rattle.fuota_run.specs.declared.status.Status.TheVariants as status
use Rattle.fuota_run.specs.Outside.{Held}
use Rattle.fuota_run.specs.Words.{Invocation, payloads, asked}
use Rattle.fuota_run.specs.Answer.{Answer, answer, text_answer, IsReadAnswer, IsFileAnswer, IsAnswerTo, IsAnswer}

pub answered : (words : List (List ℕ)) (held : Held) (name file : List ℕ) (device : DeviceState)
    → asked words ≡ Some (payloads Replay name) → held name ≡ Some file → length file ≤ 1048576
    → Reaches (lines_of file) (Ok device) → (a : Answer) → IsAnswer words held a
    → a ≡ answer status.Done (replay_text device)
unfolding IsAnswer IsFileAnswer Replays
answered words held name file device form source short reaches a given =
    let here : IsFileAnswer Replays (held name) a = subst (λ (o : Option Invocation). IsAnswerTo o held a) form given in
    let read : IsFileAnswer Replays (Some file) a =
    subst (λ (f : Option (List ℕ)). IsFileAnswer Replays f a) source here in
    let fine : nat_lt 1048576 (length file) ≡ false = le-ltb _ _ short in
    let its : IsReadAnswer Replays false file a = subst (λ (b : Bool). IsReadAnswer Replays b file a) fine read in
    let one : its.1.0 ≡ Ok device = reaches_once (lines_of file) its.1.0 (Ok device) its.1.1 reaches in
    its.2 ∙ ap text_answer its.1.2 ∙ ap (λ (o : Result DeviceState LineFault). text_answer (text_at_end (λ d. replay_text d) o)) one
