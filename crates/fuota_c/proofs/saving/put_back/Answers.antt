use Rattle.std.proofs.Common.{◌≡◌, true, false, inr, refl, sym, ap, subst, ◌∙◌}
use Rattle.std.specs.Prelude.{Bool}
use Rattle.flash_session.specs.Flashes.{Cells}
use Rattle.session_store.specs.Size.{size_with}
use Rattle.device_core.specs.Configuration.{configured}
use Rattle.device_core.specs.HeldDevice.{HeldDevice, Starts}
use Rattle.device_core.specs.HeldSaving.{Restores, Resumes}
use Rattle.fuota_c.specs.Size.{sessions_of}
use Rattle.fuota_c.proofs.saving.put_back.Goals as goal

pub returns-then-not-resume : goal.returns-then-not-resume
returns-then-not-resume c =
    let new = c.in-Ok.ensures in
    let config = configured (size_with (sessions_of new.2.0)) c.args.config in
    let flash = c.in-Ok.device.value.sessions.flash in
    let starts = subst (λ (x : HeldDevice Cells). Starts config flash x) (sym c.deref_mut.ensures.value) new.2.2.starts in
    let none = subst (λ (b : Bool). Resumes config flash c.args.saved.now c.args.running.now c.args.next.now c.resume.new.self b) c.if-not-resume.true
    (c.resume.ensures config flash starts) in
    rw (c.fuota_device_free.ensures) (inr (inr (refl, new.1, (new.2.0, new.2.1, none))))

pub returns-else-not-resume : goal.returns-else-not-resume
returns-else-not-resume c =
    let new = c.in-Ok.ensures in
    let config = configured (size_with (sessions_of new.2.0)) c.args.config in
    let flash = c.in-Ok.device.value.sessions.flash in
    let starts = subst (λ (x : HeldDevice Cells). Starts config flash x) (sym c.deref_mut.ensures.value) new.2.2.starts in
    let back = subst (λ (b : Bool). Resumes config flash c.args.saved.now c.args.running.now c.args.next.now c.resume.new.self b) c.if-not-resume.false
    (c.resume.ensures config flash starts) in
    rw (c.replace.ensures.new, c.of.ensures, c.deref_mut.ensures.writes_back) (
      refl,
      new.1,
      (
        new.2.0,
        new.2.1,
        record {
          flash_is = ap (λ (f : Cells). f.bytes) back.flash_is ∙ new.2.2.flash;
          restores = subst (λ (f : Cells). Restores config f c.args.saved.now c.args.running.now c.args.next.now c.resume.new.self) (sym back.flash_is) back;
        },
      ),
    )
