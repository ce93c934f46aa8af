-- The words have an answer over the files that are held, and no other.
use Rattle.std.proofs.Common.{◌≡◌, ℕ, Bool, true, false, nat_lt, List, length, Option, Some, None, Result, refl, sym, ap, ◌∙◌}
use Rattle.report_lines.specs.declared.faults.LineFault.{LineFault}
use Rattle.fuota_run.specs.Limits.{script_limit}
use Rattle.fuota_run.specs.declared.forms.FileForm.{FileForm}
use Rattle.fuota_run.specs.declared.forms.FileForm.TheVariants.{Replay, Decode, Capture}
use Rattle.fuota_run.specs.Outside.{Held}
use Rattle.report_lines.specs.Lines.{FileText, HasOneText, HasAText}
use Rattle.fuota_run.specs.Words.{Invocation, plays, payloads, generates, plays_two, asked}
use Rattle.fuota_run.specs.Answer.{Answer, usage, read_fault, too_long, campaign_answer, campaigns_answer, generate_answer, file_text, text_answer, IsReadAnswer, IsFileAnswer, IsAnswerTo, IsAnswer, HasOneAnswer, HasAnAnswer}
use Rattle.payload_replay.proofs.CaptureLines.{capture_one, capture_always}
use Rattle.payload_replay.proofs.Payloads.{decode_one, decode_always}
use Rattle.payload_replay.proofs.ReplayLines.{replay_one, replay_always}

read_one : (Tells : FileText) (is_long : Bool) (file : List ℕ) (one other : Answer) → HasOneText Tells
    → IsReadAnswer Tells is_long file one → IsReadAnswer Tells is_long file other → one ≡ other
read_one Tells true file one other once first second = first ∙ sym second
read_one Tells false file one other once first second =
    first.2 ∙ ap (λ (said : Result (List ℕ) LineFault). text_answer said) (once file first.0 second.0 first.1 second.1)
    ∙ sym second.2

file_one : (Tells : FileText) (file : Option (List ℕ)) (one other : Answer) → HasOneText Tells
    → IsFileAnswer Tells file one → IsFileAnswer Tells file other → one ≡ other
unfolding IsFileAnswer
file_one Tells None one other once first second = first ∙ sym second
file_one Tells (Some file) one other once first second =
    read_one Tells (nat_lt script_limit (length file)) file one other once first second

file_text_one : (what : FileForm) → HasOneText (file_text what)
file_text_one Replay = replay_one
file_text_one (Decode port dir) = decode_one port dir
file_text_one Capture = capture_one

to_one : (what : Option Invocation) (held : Held) (one other : Answer) → IsAnswerTo what held one
    → IsAnswerTo what held other → one ≡ other
to_one None held one other first second = first ∙ sym second
to_one (Some (plays what image script)) held one other first second = first ∙ sym second
to_one (Some (generates seed)) held one other first second = first ∙ sym second
to_one (Some (plays_two image_a image_b script)) held one other first second = first ∙ sym second
to_one (Some (payloads what file)) held one other first second =
    file_one (file_text what) (held file) one other (file_text_one what) first second

pub one_answer : HasOneAnswer
unfolding IsAnswer
one_answer words held one other first second = to_one (asked words) held one other first second

-- ---- and all words have one

read_always : (Tells : FileText) (is_long : Bool) (file : List ℕ) → HasAText Tells → (a : Answer) × IsReadAnswer Tells is_long file a
read_always Tells true file always = (too_long script_limit, refl)
read_always Tells false file always = let said = always file in (text_answer said.0, (said.0, said.1, refl))

file_always : (Tells : FileText) (file : Option (List ℕ)) → HasAText Tells → (a : Answer) × IsFileAnswer Tells file a
unfolding IsFileAnswer
file_always Tells None always = (read_fault, refl)
file_always Tells (Some file) always = read_always Tells (nat_lt script_limit (length file)) file always

file_text_always : (what : FileForm) → HasAText (file_text what)
file_text_always Replay = replay_always
file_text_always (Decode port dir) = decode_always port dir
file_text_always Capture = capture_always

to_always : (what : Option Invocation) (held : Held) → (a : Answer) × IsAnswerTo what held a
to_always None held = (usage, refl)
to_always (Some (plays what image script)) held = (campaign_answer what (held image) (held script), refl)
to_always (Some (generates seed)) held = (generate_answer seed, refl)
to_always (Some (plays_two image_a image_b script)) held = (campaigns_answer (held image_a) (held image_b) (held script), refl)
to_always (Some (payloads what file)) held = file_always (file_text what) (held file) (file_text_always what)

pub always_answered : HasAnAnswer
unfolding IsAnswer
always_answered words held = to_always (asked words) held
