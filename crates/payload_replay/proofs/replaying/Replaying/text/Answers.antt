use Rattle.std.proofs.Common.{◌≡◌, None, Some, sym, ap, ◌∙◌}
use Rattle.flash_session.specs.Flashes.{Cells}
use Rattle.device_core.specs.HeldDevice.{HeldDevice}
use Rattle.payload_replay.specs.HeldHeaded.{HeldHeaded}
use Rattle.payload_replay.proofs.ReplayLines.{replayed_text, replayed_nothing, replayed_error}
use Rattle.payload_replay.proofs.replaying.Replaying.text.Goals as goal

pub returns-in-Some : goal.returns-in-Some
returns-in-Some c = λ file stands.
    let kept : c.args.self.now.kept ≡ Some c.in-Some.error = ap (λ (h : HeldHeaded (HeldDevice Cells)). h.kept) (sym c.self.view_is) ∙ c.in-Some.is in
    replayed_error c.args.self.now file c.in-Some.error kept stands

pub returns-in-Some-device : goal.returns-in-Some-device
returns-in-Some-device c = λ file stands.
    let none : c.args.self.now.kept ≡ None = ap (λ (h : HeldHeaded (HeldDevice Cells)). h.kept) (sym c.self.view_is) ∙ c.in-None.is in
    let some : c.args.self.now.state ≡ Some c.in-Some-device.device = ap (λ (h : HeldHeaded (HeldDevice Cells)). h.state) (sym c.self.view_is) ∙ c.in-Some-device.is in
    replayed_text c.args.self.now c.in-Some-device.device file c.told.result none some c.told.ensures.text c.told.ensures.memory stands

pub returns-in-None-device : goal.returns-in-None-device
returns-in-None-device c = λ file stands.
    let none : c.args.self.now.kept ≡ None = ap (λ (h : HeldHeaded (HeldDevice Cells)). h.kept) (sym c.self.view_is) ∙ c.in-None.is in
    let no_device : c.args.self.now.state ≡ None = ap (λ (h : HeldHeaded (HeldDevice Cells)). h.state) (sym c.self.view_is) ∙ c.in-None-device.is in
    rw c.refused_behind.ensures (replayed_nothing c.args.self.now file none no_device stands)
