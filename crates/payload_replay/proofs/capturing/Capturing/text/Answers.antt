use Rattle.std.proofs.Common.{◌≡◌, None, Some, sym, ap, ◌∙◌}
use Rattle.payload_replay.specs.HeldHeaded.{HeldHeaded}
use Rattle.payload_replay.specs.HeldCapturing.{HeldCaught}
use Rattle.payload_replay.proofs.CaptureLines.{captured_text, captured_nothing, captured_error}
use Rattle.payload_replay.proofs.capturing.Capturing.text.Goals as goal

pub returns-in-Some : goal.returns-in-Some
returns-in-Some c = λ file stands.
    let kept : c.args.self.kept ≡ Some c.in-Some.error = ap (λ (h : HeldHeaded HeldCaught). h.kept) (sym c.self.view_is) ∙ c.in-Some.is in
    captured_error c.args.self file c.in-Some.error kept stands

pub returns-in-Some-caught : goal.returns-in-Some-caught
returns-in-Some-caught c = λ file stands.
    let none : c.args.self.kept ≡ None = ap (λ (h : HeldHeaded HeldCaught). h.kept) (sym c.self.view_is) ∙ c.in-None.is in
    let some : c.args.self.state ≡ Some c.in-Some-caught.caught = ap (λ (h : HeldHeaded HeldCaught). h.state) (sym c.self.view_is) ∙ c.in-Some-caught.is in
    captured_text c.args.self c.in-Some-caught.caught file c.told.result none some c.told.ensures.text c.told.ensures.memory stands

pub returns-in-None-caught : goal.returns-in-None-caught
returns-in-None-caught c = λ file stands.
    let none : c.args.self.kept ≡ None = ap (λ (h : HeldHeaded HeldCaught). h.kept) (sym c.self.view_is) ∙ c.in-None.is in
    let nothing : c.args.self.state ≡ None = ap (λ (h : HeldHeaded HeldCaught). h.state) (sym c.self.view_is) ∙ c.in-None-caught.is in
    rw c.refused_behind.ensures (captured_nothing c.args.self file none nothing stands)
