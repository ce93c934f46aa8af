-- A file of payloads that a device hears.
use Rattle.std.proofs.Common.{◌≡◌, ℕ, ◌+◌, List, Option, Some, None, Result, Ok, Err, IfOk, IfErr, refl, sym, ap, subst, ◌∙◌, codes}
use Rattle.std.specs.Global.{Global}
use Rattle.std.specs.declared.vec.Vec.{Vec}
use Rattle.device_core.specs.Device.{DeviceState}
use Rattle.flash_session.specs.Flashes.{Cells}
use Rattle.device_core.specs.HeldDevice.{HeldDevice, DeviceStands, Becomes}
use Rattle.script_lines.specs.Lines.{lines_of}
use Rattle.report_lines.specs.declared.faults.LineWhy.TheVariants as why
use Rattle.report_lines.specs.declared.faults.LineFault.{LineFault}
use Rattle.report_lines.specs.declared.faults.LineError.{LineError}
use Rattle.report_lines.specs.declared.faults.LineError.TheVariants as error
use Rattle.report_lines.specs.Texts.{seen_text}
use Rattle.report_lines.specs.Lines.{text_at_end, IsLineRefused, IsFileText}
use Rattle.payload_replay.specs.PayloadLines.{payload_of}
use Rattle.payload_replay.specs.Replay.{replay_device, Hears, Reaches, replay_text, after_payload, Replays, ReplaysOnce, ReplaysAlways}
use Rattle.payload_replay.specs.HeldHeaded.{HeldHeaded, IsBegun}
use Rattle.payload_replay.specs.HeldReplaying.{ReplayingStands, HearsReplayed}
use Rattle.payload_replay.proofs.PayloadLines.{payload_cut}
use Rattle.payload_replay.proofs.HeadedLines.{file_once, file_leads, headed_begun, headed_unbegun, headed_heard, headed_refused, headed_kept, headed_state, headed_nothing, headed_fault}

-- ---- a file has one outcome, since each payload leads to one device

pub reaches_once : (lines : List (List ℕ)) (one other : Result DeviceState LineFault) → Reaches lines one
    → Reaches lines other → one ≡ other
reaches_once lines one other =
    file_once (codes "replay") payload_of Hears (λ rows. replay_device rows) lines one other
    (λ n payload device one other heard again. heard ∙ sym again)

pub replay_one : ReplaysOnce
unfolding Replays
replay_one file one other first second =
    first.2 ∙ ap (text_at_end (λ device. replay_text device))
    (reaches_once (lines_of file) first.0 second.0 first.1 second.1) ∙ sym second.2

pub replay_always : ReplaysAlways
unfolding Replays
replay_always file =
    let t = file_leads (codes "replay") payload_of Hears (λ rows. replay_device rows) (lines_of file)
    (λ n payload device. (after_payload n payload device, refl)) in
    (text_at_end (λ device. replay_text device) t.0, (t.0, t.1, refl))

-- ---- a replay hears a line

-- the header
pub replayed_begun : (old : HeldHeaded (HeldDevice Cells)) (line : List ℕ) (held : HeldDevice Cells) → old.kept ≡ None → old.state ≡ None
    → IsBegun (codes "replay") (λ rows. replay_device rows) DeviceStands line (Ok held)
    → HearsReplayed old line (record old { lines = 1; state = Some held })
replayed_begun = headed_begun (codes "replay") payload_of Hears (λ rows. replay_device rows) DeviceStands

-- a header that is refused, or there is no memory
pub replayed_unbegun : (old : HeldHeaded (HeldDevice Cells)) (line : List ℕ) (e : LineError) → old.kept ≡ None → old.state ≡ None
    → IsBegun (codes "replay") (λ rows. replay_device rows) (DeviceStands {F = Cells}) line (Err e)
    → HearsReplayed old line (record old { kept = Some e })
replayed_unbegun = headed_unbegun (codes "replay") payload_of Hears (λ rows. replay_device rows) DeviceStands

-- a line whose payload the device hears
pub replayed_heard : (old : HeldHeaded (HeldDevice Cells)) (before after : HeldDevice Cells) (line payload : List ℕ) → old.kept ≡ None
    → old.state ≡ Some before → payload_of old.lines line ≡ Ok payload
    → Becomes before after (λ device. after_payload (old.lines + 1) payload device)
    → HearsReplayed old line (record old { lines = old.lines + 1; state = Some after })
replayed_heard old before after line payload none some is becomes =
    headed_heard (codes "replay") payload_of Hears (λ rows. replay_device rows) DeviceStands old before after line payload payload_cut
    none some is (λ device stands. (after_payload (old.lines + 1) payload device, refl, becomes device stands))

-- one that is refused, or there is no memory
pub replayed_refused : (old : HeldHeaded (HeldDevice Cells)) (before : HeldDevice Cells) (after : Option (HeldDevice Cells)) (line : List ℕ) (e : LineError)
    → old.kept ≡ None → old.state ≡ Some before → IsLineRefused payload_of old.lines line e
    → HearsReplayed old line (record old { state = after; kept = Some e })
replayed_refused old before after line e =
    headed_refused (codes "replay") payload_of Hears (λ rows. replay_device rows) DeviceStands old before after line e payload_cut

-- after a refused line, or missing memory
pub replayed_kept : (old : HeldHeaded (HeldDevice Cells)) (line : List ℕ) (e : LineError) → old.kept ≡ Some e → HearsReplayed old line old
replayed_kept = headed_kept (codes "replay") payload_of Hears (λ rows. replay_device rows) DeviceStands

-- ---- what it tells after all lines

-- the text of the device after them
pub replayed_text : (held : HeldHeaded (HeldDevice Cells)) (device : HeldDevice Cells) (file : List ℕ) (r : Result (Vec ℕ Global) LineError)
    → held.kept ≡ None → held.state ≡ Some device
    → ((d : DeviceState) → DeviceStands device d → IfOk r (λ text. text.items ≡ replay_text d)) → IfErr r (λ e. e ≡ error.Memory)
    → ReplayingStands held (lines_of file) → IsFileText Replays file (seen_text r)
unfolding Replays
replayed_text held device file (Ok text) none some text_is memory stands =
    let its = headed_state (codes "replay") payload_of Hears (λ rows. replay_device rows) DeviceStands held device (lines_of file) none some stands in (
      Ok its.0,
      its.1,
      ap (λ (t : List ℕ). let answer : Result (List ℕ) LineFault = Ok t in answer) (text_is its.0 its.2),
    )
replayed_text held device file (Err e) none some text_is memory stands =
    subst (λ (x : LineError). IsFileText Replays file (Err x)) (sym memory) tt

-- there was no line
pub replayed_nothing : (held : HeldHeaded (HeldDevice Cells)) (file : List ℕ) → held.kept ≡ None → held.state ≡ None
    → ReplayingStands held (lines_of file) → IsFileText Replays file (Err (error.Line (record { line = 1; why = why.Syntax })))
unfolding Replays
replayed_nothing held file none nothing stands = (
  Err (record { line = 1; why = why.Syntax }),
  headed_nothing (codes "replay") payload_of Hears (λ rows. replay_device rows) DeviceStands held (lines_of file) none nothing stands,
  refl,
)

-- a line was refused, or memory was missing
pub replayed_error : (held : HeldHeaded (HeldDevice Cells)) (file : List ℕ) (e : LineError) → held.kept ≡ Some e
    → ReplayingStands held (lines_of file) → IsFileText Replays file (Err e)
unfolding Replays
replayed_error held file (error.Line fault) kept stands =
    (Err fault, headed_fault (codes "replay") payload_of Hears (λ rows. replay_device rows) DeviceStands held fault (lines_of file) kept stands, refl)
replayed_error held file error.Memory kept stands = tt
