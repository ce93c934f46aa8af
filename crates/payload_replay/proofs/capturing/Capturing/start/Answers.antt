use Rattle.std.proofs.Common.{◌≡◌, None, Some, ap, ◌∙◌, subst}
use Rattle.payload_replay.specs.HeldHeaded.{HeldHeaded}
use Rattle.payload_replay.specs.HeldCapturing.{HeldCaught, HearsCaptured}
use Rattle.payload_replay.proofs.CaptureLines.{captured_begun, captured_unbegun}
use Rattle.payload_replay.proofs.capturing.Capturing.start.Goals as goal

pub returns-in-Ok : goal.returns-in-Ok
returns-in-Ok c =
    let old : HeldHeaded HeldCaught = record { lines = c.self.inside.lines; state = c.self.inside.caught; kept = c.self.inside.kept } in
    let fine : old.kept ≡ None = ap (λ (h : HeldHeaded HeldCaught). h.kept) c.self.view_is ∙ c.requires.fine in
    let first : old.state ≡ None = ap (λ (h : HeldHeaded HeldCaught). h.state) c.self.view_is ∙ c.requires.first in
    subst (λ (h : HeldHeaded HeldCaught). HearsCaptured h c.args.header.now (record old { lines = 1; state = Some c.in-Ok.caught })) c.self.view_is
    (captured_begun old c.args.header.now c.in-Ok.caught fine first c.in-Ok.ensures)

pub returns-in-Err : goal.returns-in-Err
returns-in-Err c =
    let old : HeldHeaded HeldCaught = record { lines = c.self.inside.lines; state = c.self.inside.caught; kept = c.self.inside.kept } in
    let fine : old.kept ≡ None = ap (λ (h : HeldHeaded HeldCaught). h.kept) c.self.view_is ∙ c.requires.fine in
    let first : old.state ≡ None = ap (λ (h : HeldHeaded HeldCaught). h.state) c.self.view_is ∙ c.requires.first in
    subst (λ (h : HeldHeaded HeldCaught). HearsCaptured h c.args.header.now (record old { kept = Some c.in-Err.error })) c.self.view_is
    (captured_unbegun old c.args.header.now c.in-Err.error fine first c.in-Err.ensures)
