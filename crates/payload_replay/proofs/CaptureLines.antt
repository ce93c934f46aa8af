-- A file of JSON lines that is heard.
use Rattle.std.proofs.Common.{◌≡◌, ℕ, ◌+◌, Bool, true, ◌++◌, List, Option, Some, None, Result, Ok, Err, IfOk, IfErr, refl, sym, ap, subst, ◌∙◌, codes, append_assoc}
use Rattle.std.specs.Global.{Global}
use Rattle.std.specs.declared.vec.Vec.{Vec}
use Rattle.capture_read.specs.declared.answers.Entry.{Entry}
use Rattle.script_lines.specs.Lines.{lines_of}
use Rattle.report_lines.specs.declared.faults.LineWhy.TheVariants as why
use Rattle.report_lines.specs.declared.faults.LineFault.{LineFault}
use Rattle.report_lines.specs.declared.faults.LineError.{LineError}
use Rattle.report_lines.specs.declared.faults.LineError.TheVariants as error
use Rattle.report_lines.specs.Texts.{seen_text}
use Rattle.report_lines.specs.Lines.{text_at_end, IsLineRefused, IsFileText}
use Rattle.payload_replay.specs.PayloadLines.{is_beyond}
use Rattle.payload_replay.specs.Replay.{closing_text}
use Rattle.payload_replay.specs.Capture.{Caught, line_entry, Catches, caught_next, first_caught, CatchesAll, capture_text, Captures, CapturesOnce, CapturesAlways}
use Rattle.payload_replay.specs.HeldHeaded.{HeldHeaded, IsBegun}
use Rattle.payload_replay.specs.HeldCapturing.{HeldCaught, CaughtStands, CaughtBecomes, CapturingStands, HearsCaptured}
use Rattle.payload_replay.proofs.PayloadLines.{reads_cut}
use Rattle.payload_replay.proofs.HeadedLines.{file_once, file_leads, headed_begun, headed_unbegun, headed_heard, headed_refused, headed_kept, headed_state, headed_nothing, headed_fault}

-- ---- a file has one outcome, since each entry leads to one text and one device

catches_once : (lines : List (List ℕ)) (one other : Result Caught LineFault) → CatchesAll lines one → CatchesAll lines other → one ≡ other
catches_once lines one other =
    file_once (codes "capture") line_entry Catches (λ rows. first_caught rows) lines one other
    (λ n item all one other caught again. caught ∙ sym again)

pub capture_one : CapturesOnce
unfolding Captures
capture_one file one other first second =
    first.2 ∙ ap (text_at_end (λ all. capture_text all))
    (catches_once (lines_of file) first.0 second.0 first.1 second.1) ∙ sym second.2

pub capture_always : CapturesAlways
unfolding Captures
capture_always file =
    let t = file_leads (codes "capture") line_entry Catches (λ rows. first_caught rows) (lines_of file)
    (λ n item all. (caught_next n item all, refl)) in
    (text_at_end (λ all. capture_text all) t.0, (t.0, t.1, refl))

-- ---- a capture hears a line

entry_beyond : (lines : ℕ) (line : List ℕ) → is_beyond lines line ≡ true → line_entry lines line ≡ Err why.Limit
unfolding line_entry
entry_beyond lines line beyond = rw beyond refl

-- the header
pub captured_begun : (old : HeldHeaded HeldCaught) (line : List ℕ) (held : HeldCaught) → old.kept ≡ None → old.state ≡ None
    → IsBegun (codes "capture") (λ rows. first_caught rows) CaughtStands line (Ok held)
    → HearsCaptured old line (record old { lines = 1; state = Some held })
captured_begun = headed_begun (codes "capture") line_entry Catches (λ rows. first_caught rows) CaughtStands

-- a header that is refused, or there is no memory
pub captured_unbegun : (old : HeldHeaded HeldCaught) (line : List ℕ) (e : LineError) → old.kept ≡ None → old.state ≡ None
    → IsBegun (codes "capture") (λ rows. first_caught rows) CaughtStands line (Err e)
    → HearsCaptured old line (record old { kept = Some e })
captured_unbegun = headed_unbegun (codes "capture") line_entry Catches (λ rows. first_caught rows) CaughtStands

-- a line with an entry
pub captured_heard : (old : HeldHeaded HeldCaught) (before after : HeldCaught) (line : List ℕ) (item : Entry) → old.kept ≡ None
    → old.state ≡ Some before → line_entry old.lines line ≡ Ok item
    → CaughtBecomes before after (λ all. caught_next (old.lines + 1) item all)
    → HearsCaptured old line (record old { lines = old.lines + 1; state = Some after })
captured_heard old before after line item none some is becomes =
    headed_heard (codes "capture") line_entry Catches (λ rows. first_caught rows) CaughtStands old before after line item
    (reads_cut line_entry entry_beyond) none some is (λ all stands. (caught_next (old.lines + 1) item all, refl, becomes all stands))

-- one that is refused, or there is no memory
pub captured_refused : (old : HeldHeaded HeldCaught) (before : HeldCaught) (after : Option HeldCaught) (line : List ℕ) (e : LineError)
    → old.kept ≡ None → old.state ≡ Some before → IsLineRefused line_entry old.lines line e
    → HearsCaptured old line (record old { state = after; kept = Some e })
captured_refused old before after line e =
    headed_refused (codes "capture") line_entry Catches (λ rows. first_caught rows) CaughtStands old before after line e
    (reads_cut line_entry entry_beyond)

-- after a refused line, or missing memory
pub captured_kept : (old : HeldHeaded HeldCaught) (line : List ℕ) (e : LineError) → old.kept ≡ Some e → HearsCaptured old line old
captured_kept = headed_kept (codes "capture") line_entry Catches (λ rows. first_caught rows) CaughtStands

-- ---- what it tells after all lines

-- the text of what was caught after them
pub captured_text : (held : HeldHeaded HeldCaught) (state : HeldCaught) (file : List ℕ) (r : Result (Vec ℕ Global) LineError)
    → held.kept ≡ None → held.state ≡ Some state
    → ((all : Caught) → CaughtStands state all → IfOk r (λ text. text.items ≡ capture_text all)) → IfErr r (λ e. e ≡ error.Memory)
    → CapturingStands held (lines_of file) → IsFileText Captures file (seen_text r)
unfolding Captures
captured_text held state file (Ok text) none some text_is memory stands =
    let its = headed_state (codes "capture") line_entry Catches (λ rows. first_caught rows) CaughtStands held state (lines_of file) none some stands in (
      Ok its.0,
      its.1,
      ap (λ (t : List ℕ). let answer : Result (List ℕ) LineFault = Ok t in answer) (text_is its.0 its.2),
    )
captured_text held state file (Err e) none some text_is memory stands =
    subst (λ (x : LineError). IsFileText Captures file (Err x)) (sym memory) tt

-- the closing lines go after what is held
pub text_behind : (held : HeldCaught) (all : Caught) → CaughtStands held all
    → held.text ++ closing_text all.device ≡ capture_text all
unfolding capture_text
text_behind held all stands =
    ap (λ (t : List ℕ). t ++ closing_text all.device) stands.text
    ∙ append_assoc (codes "fuota capture 1\n") all.text (closing_text all.device)

-- there was no line
pub captured_nothing : (held : HeldHeaded HeldCaught) (file : List ℕ) → held.kept ≡ None → held.state ≡ None
    → CapturingStands held (lines_of file) → IsFileText Captures file (Err (error.Line (record { line = 1; why = why.Syntax })))
unfolding Captures
captured_nothing held file none nothing stands = (
  Err (record { line = 1; why = why.Syntax }),
  headed_nothing (codes "capture") line_entry Catches (λ rows. first_caught rows) CaughtStands held (lines_of file) none nothing stands,
  refl,
)

-- a line was refused, or memory was missing
pub captured_error : (held : HeldHeaded HeldCaught) (file : List ℕ) (e : LineError) → held.kept ≡ Some e
    → CapturingStands held (lines_of file) → IsFileText Captures file (Err e)
unfolding Captures
captured_error held file (error.Line fault) kept stands =
    (Err fault, headed_fault (codes "capture") line_entry Catches (λ rows. first_caught rows) CaughtStands held fault (lines_of file) kept stands, refl)
captured_error held file error.Memory kept stands = tt
