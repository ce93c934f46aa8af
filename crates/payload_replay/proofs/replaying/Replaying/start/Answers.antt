use Rattle.std.proofs.Common.{◌≡◌, None, Some, ap, ◌∙◌, subst}
use Rattle.flash_session.specs.Flashes.{Cells}
use Rattle.device_core.specs.HeldDevice.{HeldDevice}
use Rattle.payload_replay.specs.HeldHeaded.{HeldHeaded}
use Rattle.payload_replay.specs.HeldReplaying.{HearsReplayed}
use Rattle.payload_replay.proofs.ReplayLines.{replayed_begun, replayed_unbegun}
use Rattle.payload_replay.proofs.replaying.Replaying.start.Goals as goal

pub returns-in-Ok : goal.returns-in-Ok
returns-in-Ok c =
    let old : HeldHeaded (HeldDevice Cells) = record { lines = c.self.inside.lines; state = c.self.inside.device; kept = c.self.inside.kept } in
    let fine : old.kept ≡ None = ap (λ (h : HeldHeaded (HeldDevice Cells)). h.kept) c.self.view_is ∙ c.requires.fine in
    let first : old.state ≡ None = ap (λ (h : HeldHeaded (HeldDevice Cells)). h.state) c.self.view_is ∙ c.requires.first in
    subst (λ (h : HeldHeaded (HeldDevice Cells)). HearsReplayed h c.args.header.now (record old { lines = 1; state = Some c.in-Ok.device })) c.self.view_is
    (replayed_begun old c.args.header.now c.in-Ok.device fine first c.in-Ok.ensures)

pub returns-in-Err : goal.returns-in-Err
returns-in-Err c =
    let old : HeldHeaded (HeldDevice Cells) = record { lines = c.self.inside.lines; state = c.self.inside.device; kept = c.self.inside.kept } in
    let fine : old.kept ≡ None = ap (λ (h : HeldHeaded (HeldDevice Cells)). h.kept) c.self.view_is ∙ c.requires.fine in
    let first : old.state ≡ None = ap (λ (h : HeldHeaded (HeldDevice Cells)). h.state) c.self.view_is ∙ c.requires.first in
    subst (λ (h : HeldHeaded (HeldDevice Cells)). HearsReplayed h c.args.header.now (record old { kept = Some c.in-Err.error })) c.self.view_is
    (replayed_unbegun old c.args.header.now c.in-Err.error fine first c.in-Err.ensures)
