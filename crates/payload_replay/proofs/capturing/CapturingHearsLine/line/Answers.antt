use Rattle.std.proofs.Common.{◌≡◌, ◌+◌, ◌∙◌, Some, sym, ap, subst}
use Rattle.payload_replay.specs.HeldHeaded.{HeldHeaded}
use Rattle.payload_replay.specs.HeldCapturing.{HeldCaught, HearsCaptured}
use Rattle.payload_replay.proofs.CaptureLines.{captured_heard, captured_refused, captured_kept}
use Rattle.payload_replay.proofs.capturing.CapturingHearsLine.line.Goals as goal

pub returns-in-Some : goal.returns-in-Some
returns-in-Some c =
    let kept : c.args.self.now.kept ≡ Some c.in-Some.field-0 = ap (λ (h : HeldHeaded HeldCaught). h.kept) (sym c.self.view_is) ∙ c.in-Some.is in
    captured_kept c.args.self.now c.args.line.now c.in-Some.field-0 kept

pub returns-in-Ok : goal.returns-in-Ok
returns-in-Ok c =
    let old : HeldHeaded HeldCaught = record { lines = c.self.inside.lines; state = c.self.inside.caught; kept = c.self.inside.kept } in
    let made = c.in-Ok.ensures.caught in
    let new : HeldHeaded HeldCaught = record old { lines = old.lines + 1; state = Some c.catch_line.new.caught } in
    subst (λ (h : HeldHeaded HeldCaught). HearsCaptured h c.args.line.now new) c.self.view_is
    (captured_heard old c.in-Some-caught.caught c.catch_line.new.caught c.args.line.now made.0 c.in-None.is c.in-Some-caught.is made.1 made.2)

pub returns-in-Err : goal.returns-in-Err
returns-in-Err c =
    let old : HeldHeaded HeldCaught = record { lines = c.self.inside.lines; state = c.self.inside.caught; kept = c.self.inside.kept } in
    let new : HeldHeaded HeldCaught = record old { state = Some c.catch_line.new.caught; kept = Some c.in-Err.error } in
    subst (λ (h : HeldHeaded HeldCaught). HearsCaptured h c.args.line.now new) c.self.view_is
    (captured_refused old c.in-Some-caught.caught (Some c.catch_line.new.caught) c.args.line.now c.in-Err.error c.in-None.is c.in-Some-caught.is c.in-Err.ensures.refused)

pub returns-in-None-caught : goal.returns-in-None-caught
returns-in-None-caught c = subst (λ (h : HeldHeaded HeldCaught). HearsCaptured h c.args.line.now c.start.new.self) c.self.view_is c.start.ensures
