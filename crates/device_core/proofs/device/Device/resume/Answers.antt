use Rattle.std.proofs.Common.{◌≡◌, ℕ, ◌≤◌, true, false, sym, ap, subst, ◌∙◌, arith}
use Rattle.session_store.specs.declared.state.CompleteFlags.{CompleteFlags}
use Rattle.device_core.specs.Device.{DeviceState}
use Rattle.device_core.specs.HeldDevice.{device_of}
use Rattle.device_core.specs.Saving.{saved_of}
use Rattle.device_core.specs.SavingInside.{flags_in}
use Rattle.device_core.specs.SessionTable.{no_sessions}
use Rattle.device_core.proofs.Saved.{saved_long}
use Rattle.device_core.proofs.Restored.{told_record, restored, can_take, saved_again}
use Rattle.device_core.proofs.device.Device.resume.Goals as goal
use Rattle.device_core.proofs.device.Device.resume.Goals.{then-saved-ne-MAX_SAVED_DEVICE-via-then-saved-ne-MAX_SAVED_DEVICE, then-saved-ne-MAX_SAVED_DEVICE-via-else-saved-ne-MAX_SAVED_DEVICE+then-not-take_saved}

pub returns-then-saved-ne-MAX_SAVED_DEVICE : goal.returns-then-saved-ne-MAX_SAVED_DEVICE
returns-then-saved-ne-MAX_SAVED_DEVICE g c = λ config flash starts device flags is. elim c.then-saved-ne-MAX_SAVED_DEVICE.branch [
  | then-saved-ne-MAX_SAVED_DEVICE-via-then-saved-ne-MAX_SAVED_DEVICE w ↦
      w.if-saved-ne-MAX_SAVED_DEVICE.true (saved_long config c.args.saved.now c.args.running.now c.args.next.now device flags is)
  | then-saved-ne-MAX_SAVED_DEVICE-via-else-saved-ne-MAX_SAVED_DEVICE+then-not-take_saved w ↦
      w.take_saved.ensures.unfit w.if-not-take_saved.true
      (can_take config flash c.args.self.now c.args.saved.now c.args.running.now c.args.next.now device flags starts is)
]

pub returns-then-not-is_same : goal.returns-then-not-is_same
returns-then-not-is_same g c = λ config flash starts device flags is.
    let wrote : c.saved_with-again.result.items ≡ saved_of (device_of c.take_saved.new.self no_sessions) (flags_in c.args.saved.now) =
    c.saved_with-again.ensures.bytes no_sessions
    ∙ ap (λ (f : CompleteFlags). saved_of (device_of c.take_saved.new.self no_sessions) f) c.flags_in.ensures in
    let again = saved_again config flash c.args.self.now c.take_saved.new.self c.args.saved.now c.args.running.now c.args.next.now
    c.saved_with-again.result.items c.take_saved.result device flags starts c.take_saved.ensures c.if-not-take_saved.false wrote is in
    let equal : c.is_same.result ≡ true = c.is_same.ensures.1 (c.as_slice.ensures.value ∙ again) in
    let no : true ≡ false = sym equal ∙ c.if-not-is_same.true in
    absurd cc

pub returns : goal.returns
returns g c = λ config flash starts.
    let same : c.saved_with-again.result.items ≡ c.args.saved.now = sym c.as_slice.ensures.value ∙ c.is_same.ensures.0 c.if-not-is_same.false in
    let wrote : c.saved_with-again.result.items ≡ saved_of (device_of c.take_saved.new.self no_sessions) (flags_in c.args.saved.now) =
    c.saved_with-again.ensures.bytes no_sessions
    ∙ ap (λ (f : CompleteFlags). saved_of (device_of c.take_saved.new.self no_sessions) f) c.flags_in.ensures in
    let told = told_record config flash c.args.self.now c.take_saved.new.self c.args.saved.now c.args.running.now c.args.next.now
    c.take_saved.result starts c.take_saved.ensures c.if-not-take_saved.false in
    let few : config.groups ≤ 4 = subst (λ (n : ℕ). n ≤ 4) (ap (λ (d : DeviceState). d.config.groups) told)
    (c.saved_with-again.ensures.over no_sessions).few_places in
    restored config flash c.args.self.now c.take_saved.new.self c.args.saved.now c.args.running.now c.args.next.now
    c.saved_with-again.result.items c.take_saved.result starts c.take_saved.ensures c.if-not-take_saved.false (λ k. (c.type_inv.saved k).fits)
    (omega (arith, c.if-saved-ne-MAX_SAVED_DEVICE.false)) few wrote same
