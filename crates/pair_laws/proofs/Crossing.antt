-- A payload for another index changes only a device's counters, where no reboot will come.
use Rattle.std.proofs.Common.{◌≡◌, ℕ, true, None, refl, sym, ap, ◌∙◌, subst}
use Rattle.wire_base.specs.declared.refusal.Direction.TheVariants.{Down}
use Rattle.package_grammar.specs.declared.downlink.Downlink.{Downlink}
use Rattle.package_grammar.specs.Reading.{reading_of}
use Rattle.device_core.specs.Device.{DeviceState}
use Rattle.device_core.specs.Firmware.{after_due_reboot}
use Rattle.device_core.specs.Deliver.{heard_delivery, delivery}
use Rattle.campaign_world.specs.Honest.{are_for_others}
use Rattle.campaign_laws.specs.Headline.{HasNoOther}
use Rattle.campaign_laws.proofs.Crossing.{crossing}
use Rattle.pair_run.specs.Counting.{IsAlike}
use Rattle.pair_laws.specs.Crossing.{CrossingIsCountedAlone}

undue : (t : ℕ) (d : DeviceState) → d.reboot ≡ None → after_due_reboot t d ≡ d
unfolding after_due_reboot
undue t d none = rw none refl

heard_alike : (own t word line : ℕ) (down : Downlink) (d : DeviceState) → are_for_others own (reading_of down.port Down down.payload) ≡ true
    → HasNoOther own d.sessions → d.reboot ≡ None → IsAlike d (heard_delivery t word line down d).device
heard_alike own t word line down d other alone none =
    subst (λ (m : DeviceState). IsAlike m (heard_delivery t word line down m).device) (undue t d none) (crossing own t word line down d other alone)

pub counted_alone : CrossingIsCountedAlone
unfolding delivery
counted_alone own t word line down d other alone none =
    let alike = heard_alike own t word line down d other alone none in
    let e : DeviceState = (heard_delivery t word line down d).device in
    let rests : e.reboot ≡ None = sym (ap (λ (x : DeviceState). x.reboot) alike) ∙ none in
    subst (λ (m : DeviceState). IsAlike d (after_due_reboot t (heard_delivery t word line down m).device)) (sym (undue t d none))
    (subst (λ (m : DeviceState). IsAlike d m) (sym (undue t e rests)) alike)
