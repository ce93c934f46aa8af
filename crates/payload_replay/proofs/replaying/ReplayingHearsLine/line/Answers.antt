use Rattle.std.proofs.Common.{◌≡◌, ◌+◌, ◌∙◌, Some, sym, ap, subst}
use Rattle.flash_session.specs.Flashes.{Cells}
use Rattle.device_core.specs.HeldDevice.{HeldDevice}
use Rattle.payload_replay.specs.HeldHeaded.{HeldHeaded}
use Rattle.payload_replay.specs.HeldReplaying.{HearsReplayed}
use Rattle.payload_replay.proofs.ReplayLines.{replayed_heard, replayed_refused, replayed_kept}
use Rattle.payload_replay.proofs.replaying.ReplayingHearsLine.line.Goals as goal

pub returns-in-Some : goal.returns-in-Some
returns-in-Some c =
    let kept : c.args.self.now.kept ≡ Some c.in-Some.field-0 = ap (λ (h : HeldHeaded (HeldDevice Cells)). h.kept) (sym c.self.view_is) ∙ c.in-Some.is in
    replayed_kept c.args.self.now c.args.line.now c.in-Some.field-0 kept

pub returns-in-Ok : goal.returns-in-Ok
returns-in-Ok c =
    let old : HeldHeaded (HeldDevice Cells) = record { lines = c.self.inside.lines; state = c.self.inside.device; kept = c.self.inside.kept } in
    let made = c.in-Ok.ensures.heard in
    let new : HeldHeaded (HeldDevice Cells) = record old { lines = old.lines + 1; state = Some c.hear_line.new.device } in
    subst (λ (h : HeldHeaded (HeldDevice Cells)). HearsReplayed h c.args.line.now new) c.self.view_is
    (replayed_heard old c.in-Some-device.device c.hear_line.new.device c.args.line.now made.0 c.in-None.is c.in-Some-device.is made.1 made.2)

pub returns-in-Err : goal.returns-in-Err
returns-in-Err c =
    let old : HeldHeaded (HeldDevice Cells) = record { lines = c.self.inside.lines; state = c.self.inside.device; kept = c.self.inside.kept } in
    let new : HeldHeaded (HeldDevice Cells) = record old { state = Some c.hear_line.new.device; kept = Some c.in-Err.error } in
    subst (λ (h : HeldHeaded (HeldDevice Cells)). HearsReplayed h c.args.line.now new) c.self.view_is
    (replayed_refused old c.in-Some-device.device (Some c.hear_line.new.device) c.args.line.now c.in-Err.error c.in-None.is c.in-Some-device.is c.in-Err.ensures.refused)

pub returns-in-None-device : goal.returns-in-None-device
returns-in-None-device c = subst (λ (h : HeldHeaded (HeldDevice Cells)). HearsReplayed h c.args.line.now c.start.new.self) c.self.view_is c.start.ensures
