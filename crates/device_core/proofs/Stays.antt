-- What a due reboot and a waking leave of a device: its configuration and its sessions.
use Rattle.std.proofs.Common.{◌≡◌, ℕ, Bool, true, false, cond, [], Option, Result, refl, ap, ◌∙◌}
use Rattle.frag_session.specs.Session.{Session}
use Rattle.device_core.specs.Configuration.{Configuration}
use Rattle.device_core.specs.declared.delivered.OutboxFull as outbox
use Rattle.device_core.specs.SessionTable.{SessionTable, session_at, with_session}
use Rattle.device_core.specs.Device.{DeviceState}
use Rattle.device_core.specs.Answers.{after_answers}
use Rattle.device_core.specs.Firmware.{after_due_reboot}
use Rattle.device_core.specs.Deliver.{Outcome, time_asking, with_due_reboot, waking}

-- its configuration stays, and so do its sessions
pub record Stays (d e : DeviceState) : Type 0 where
  pub config : e.config ≡ d.config
  pub sessions : e.sessions ≡ d.sessions

-- its configuration stays, and its session of an index becomes what this says
pub record Moves (index : ℕ) (F : Configuration → Option Session → Option Session) (d e : DeviceState) : Type 0 where
  pub config : e.config ≡ d.config
  pub sessions : e.sessions ≡ with_session d.sessions index (F d.config (session_at d.sessions index))

pub stays_on : (d e f : DeviceState) → Stays d e → Stays e f → Stays d f
stays_on d e f one more = record { config = more.config ∙ one.config; sessions = more.sessions ∙ one.sessions }

-- ---- a reboot that is due

pub record IsLike (d e : DeviceState) : Type 0 where
  pub config : e.config ≡ d.config
  pub sessions : e.sessions ≡ d.sessions
  pub outbox : e.outbox ≡ d.outbox

like_by : (d e : DeviceState) (b : Bool) → IsLike d e → IsLike d (cond b e d)
like_by d e true like = like
like_by d e false like = record { config = refl; sessions = refl; outbox = refl }

pub reboot_keeps : (t : ℕ) (d : DeviceState) → IsLike d (after_due_reboot t d)
unfolding after_due_reboot
reboot_keeps t d = like_by d _ _ (record { config = refl; sessions = refl; outbox = refl })

-- what is made between two reboots is what is made
pub between : {A : Type 0} (index : ℕ) (F : Configuration → Option Session → Option Session) (t : ℕ) (d : DeviceState) (o : Outcome A)
    → Moves index F (after_due_reboot t d) o.device
    → Moves index F d (record (with_due_reboot t o).device { outbox = [] })
between index F t d o h =
    let m : DeviceState = after_due_reboot t d in
    let k = reboot_keeps t d in
    let r = reboot_keeps t o.device in
    record {
      config = r.config ∙ h.config ∙ k.config;
      sessions = r.sessions ∙ h.sessions
          ∙ ap (λ (x : Configuration). with_session m.sessions index (F x (session_at m.sessions index))) k.config
          ∙ ap (λ (x : SessionTable). with_session x index (F d.config (session_at x index))) k.sessions;
    }

pub still_between : {A : Type 0} (t : ℕ) (d : DeviceState) (o : Outcome A) → Stays (after_due_reboot t d) o.device
    → Stays d (record (with_due_reboot t o).device { outbox = [] })
still_between t d o h =
    let k = reboot_keeps t d in
    let r = reboot_keeps t o.device in
    record { config = r.config ∙ h.config ∙ k.config; sessions = r.sessions ∙ h.sessions ∙ k.sessions }

-- ---- a device wakes

asked_by : (m : DeviceState) (one other : Outcome (Result (Unit {0}) outbox.OutboxFull)) (b : Bool) → Stays m one.device
    → Stays m other.device → Stays m (cond {A = Outcome (Result (Unit {0}) outbox.OutboxFull)} b one other).device
asked_by m one other true k l = k
asked_by m one other false k l = l

asking_stays : (t : ℕ) (m : DeviceState) → Stays m (time_asking t m).device
unfolding time_asking after_answers
asking_stays t m = asked_by m _ _ _ (record { config = refl; sessions = refl }) (record { config = refl; sessions = refl })

pub waking_stays : (t : ℕ) (d : DeviceState) → Stays d (record (waking t d).device { outbox = [] })
unfolding waking
waking_stays t d = still_between t d (time_asking t (after_due_reboot t d)) (asking_stays t (after_due_reboot t d))
