-- A call that changes one counter, and a payload that is not heard.
use Rattle.std.proofs.Common.{◌≡◌, ℕ, Bool, false, refl, sym, ap, subst, ◌∙◌}
use Rattle.package_grammar.specs.declared.downlink.Downlink.{Downlink}
use Rattle.package_grammar.specs.declared.downlink.To.{To}
use Rattle.device_core.specs.declared.counts.Counts.{Counts}
use Rattle.device_core.specs.declared.delivered.Delivered.{Delivered}
use Rattle.device_core.specs.declared.delivered.Delivered.TheVariants.{Deaf}
use Rattle.device_core.specs.ClassSessions.{hears}
use Rattle.device_core.specs.Deliver.{Outcome, heard_delivery}
use Rattle.device_core.specs.Device.{DeviceState, after_deaf, with_counts}
use Rattle.device_core.specs.HeldDevice.{HeldDevice, device_of, DeviceStands, Becomes, Makes}
use Rattle.device_core.specs.SessionTable.{SessionTable}

-- a call that makes this of each record that it stands for
pub made_as : {F : Type 0} (old new : HeldDevice F) (d : Delivered) (call : DeviceState → Outcome Delivered) (after : DeviceState → DeviceState)
    → ((device : DeviceState) → DeviceStands old device → call device ≡ record { device = after device; answer = d })
    → Becomes old new after → Makes Delivered old new d call
made_as old new d call after is becomes = record {
  stands = λ device stands. subst (λ (o : Outcome Delivered). DeviceStands new o.device) (sym (is device stands)) (becomes device stands);
  answers = λ device stands. sym (ap (λ (o : Outcome Delivered). o.answer) (is device stands));
}

pub counted : {F : Type 0} (old new : HeldDevice F) (after : Counts → Counts) → new ≡ record old { counts = after old.counts }
    → Becomes old new (with_counts after)
counted {F} old new after is device stands =
    subst (λ (h : HeldDevice F). DeviceStands h (with_counts after device)) (sym is)
    (record { sessions = stands.sessions; rest = ap (λ (d : DeviceState). with_counts after d) stands.rest })

pub hears_as : {F : Type 0} (held : HeldDevice F) (t : ℕ) (to : To) (down : Downlink) (b c : Bool) → to ≡ down.to
    → ((table : SessionTable) → b ≡ hears (device_of held table) t to) → b ≡ c
    → (device : DeviceState) → DeviceStands held device → hears device t down.to ≡ c
hears_as held t to down b c same is value device stands =
    ap (λ (d : DeviceState). hears d t down.to) stands.rest
    ∙ subst (λ (x : To). hears (device_of held device.sessions) t x ≡ c) same (sym (is device.sessions) ∙ value)

-- a payload that is not heard
pub heard_deaf : (t word mark : ℕ) (down : Downlink) (device : DeviceState) → hears device t down.to ≡ false
    → heard_delivery t word mark down device ≡ record { device = with_counts after_deaf device; answer = Deaf }
unfolding heard_delivery
heard_deaf t word mark down device is = rw is refl

pub made_deaf : {F : Type 0} (old new : HeldDevice F) (t word mark : ℕ) (down : Downlink)
    → ((device : DeviceState) → DeviceStands old device → hears device t down.to ≡ false)
    → new ≡ record old { counts = after_deaf old.counts } → Makes Delivered old new Deaf (heard_delivery t word mark down)
made_deaf old new t word mark down deaf is =
    made_as old new Deaf (heard_delivery t word mark down) (λ d. with_counts after_deaf d)
    (λ device stands. heard_deaf t word mark down device (deaf device stands)) (counted old new after_deaf is)
