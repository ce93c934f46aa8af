use Rattle.std.proofs.Common.{◌≡◌, ◌∙◌, Some, sym, ap}
use Rattle.report_lines.proofs.Outcomes.{some_of}
use Rattle.payload_replay.specs.HeldCapturing.{HeldCaught}
use Rattle.payload_replay.specs.HeldHeaded.{HeldHeaded}
use Rattle.payload_replay.proofs.CaptureLines.{captured_kept}
use Rattle.payload_replay.proofs.capturing.CapturingHearsLine.is_over.Goals as goal

pub returns : goal.returns
returns c = λ over line.
    let one = some_of c.self.inside.kept (rw (← c.is_some.ensures) over) in
    let kept : c.args.self.now.kept ≡ Some one.0 = ap (λ (h : HeldHeaded HeldCaught). h.kept) (sym c.self.view_is) ∙ one.1 in
    captured_kept c.args.self.now line one.0 kept
