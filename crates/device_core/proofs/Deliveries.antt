-- Reboots that are due, and payloads that do not act.
use Rattle.std.proofs.Common.{◌≡◌, ℕ, ◌+◌, ◌<◌, ◌≤◌, Bool, true, false, leb, length, List, Ok, Err, inl, inr, refl}
use Rattle.std.proofs.lemmas.Bool.{cases_lt, le-leb, lt-leb}
use Rattle.std.specs.Prelude.{nat_lt, IsErr}
use Rattle.wire_base.specs.declared.refusal.Direction.TheVariants.{Down}
use Rattle.wire_base.specs.declared.refusal.Refusal.{Refusal}
use Rattle.package_grammar.specs.declared.command.Command.{Command}
use Rattle.package_grammar.specs.declared.downlink.Downlink.{Downlink}
use Rattle.clock_sync.specs.Clock.{device_time}
use Rattle.device_core.specs.declared.arrival.Arrival.{Arrival}
use Rattle.device_core.specs.declared.counts.Counts.{Counts}
use Rattle.device_core.specs.declared.delivered.Delivered.{Delivered}
use Rattle.device_core.specs.declared.delivered.Delivered.TheVariants.{Deaf, Refused, OutboxFull}
use Rattle.device_core.specs.Device.{DeviceState, after_deaf, after_refused, after_full, with_counts}
use Rattle.device_core.specs.ClassSessions.{hears}
use Rattle.device_core.specs.Firmware.{is_due, after_due_reboot}
use Rattle.device_core.specs.Step.{weights}
use Rattle.package_grammar.specs.Reading.{Reading, reading_of}
use Rattle.device_core.specs.Deliver.{Outcome, message_delivery, read_delivery, heard_delivery, delivery, time_asking, waking}

-- a reboot that is due by now stays due or not where the clock and the moment stay
pub reboot_once : (t : ℕ) (device : DeviceState) → after_due_reboot t (after_due_reboot t device) ≡ after_due_reboot t device
unfolding after_due_reboot
reboot_once t device = by_due (is_due (device_time device.clock t) device.reboot) refl
  where
    by_due : (b : Bool) → is_due (device_time device.clock t) device.reboot ≡ b → after_due_reboot t (after_due_reboot t device) ≡ after_due_reboot t device
    by_due true is = rw is refl
    by_due false is = rw (is, is) refl

-- counters have no part in a reboot
abbrev counted_as : DeviceState → Counts → DeviceState
counted_as device counts = record device { counts = counts }

counts_stay : (t : ℕ) (device : DeviceState) (counts : Counts) → after_due_reboot t (counted_as device counts) ≡ counted_as (after_due_reboot t device) counts
unfolding after_due_reboot
counts_stay t device counts = by_due (is_due (device_time device.clock t) device.reboot) refl
  where
    by_due : (b : Bool) → is_due (device_time device.clock t) device.reboot ≡ b
        → after_due_reboot t (counted_as device counts) ≡ counted_as (after_due_reboot t device) counts
    by_due true is = rw is refl
    by_due false is = rw is refl

-- a delivery that does not act changes only its counter
pub record IsCounted (old : DeviceState) (made : Outcome Delivered) : Type 0 where
  pub deaf : made.answer ≡ Deaf → made.device ≡ with_counts after_deaf old
  pub refused : (refusal : Refusal) → made.answer ≡ Refused refusal → made.device ≡ with_counts after_refused old
  pub full : (n : ℕ) → made.answer ≡ OutboxFull n → made.device ≡ with_counts after_full old

message_counted : (here : Arrival) (device : DeviceState) (cs : List Command) → IsCounted device (message_delivery here device cs)
unfolding message_delivery
message_counted here device cs = by_room (nat_lt 8 (length device.outbox + weights cs)) refl
  where
    by_room : (b : Bool) → nat_lt 8 (length device.outbox + weights cs) ≡ b → IsCounted device (message_delivery here device cs)
    by_room true is = rw is (record { deaf = λ h. absurd cc; refused = λ r h. absurd cc; full = λ n h. refl })
    by_room false is = rw is (record { deaf = λ h. absurd cc; refused = λ r h. absurd cc; full = λ n h. absurd cc })

read_counted : (here : Arrival) (device : DeviceState) (reading : Reading) → IsCounted device (read_delivery here device reading)
unfolding read_delivery
read_counted here device (Ok cs) = message_counted here device cs
read_counted here device (Err refusal) = record { deaf = λ h. absurd cc; refused = λ r h. refl; full = λ n h. absurd cc }

heard_counted : (t word mark : ℕ) (down : Downlink) (device : DeviceState) → IsCounted device (heard_delivery t word mark down device)
unfolding heard_delivery
heard_counted t word mark down device = by_hearing (hears device t down.to) refl
  where
    by_hearing : (b : Bool) → hears device t down.to ≡ b → IsCounted device (heard_delivery t word mark down device)
    by_hearing true is = rw is (read_counted _ device (reading_of down.port Down down.payload))
    by_hearing false is = rw is (record { deaf = λ h. refl; refused = λ r h. absurd cc; full = λ n h. absurd cc })

pub counted : (t word mark : ℕ) (down : Downlink) (device : DeviceState) → IsCounted (after_due_reboot t device) (delivery t word mark down device)
unfolding delivery
counted t word mark down device =
    let start = after_due_reboot t device in
    let heard = heard_counted t word mark down start in
    record {
      deaf = λ h. rw (heard.deaf h, counts_stay t start (with_counts after_deaf start).counts, reboot_once t device) refl;
      refused = λ r h. rw (heard.refused r h, counts_stay t start (with_counts after_refused start).counts, reboot_once t device) refl;
      full = λ n h. rw (heard.full n h, counts_stay t start (with_counts after_full start).counts, reboot_once t device) refl;
    }

-- ---- waking

outbox_stays : (t : ℕ) (device : DeviceState) → (after_due_reboot t device).outbox ≡ device.outbox
unfolding after_due_reboot
outbox_stays t device = by_due (is_due (device_time device.clock t) device.reboot) refl
  where
    by_due : (b : Bool) → is_due (device_time device.clock t) device.reboot ≡ b
        → (after_due_reboot t device).outbox ≡ device.outbox
    by_due true is = rw is refl
    by_due false is = rw is refl

-- where the outbox is full it only reboots
pub full_wakes : (t : ℕ) (device : DeviceState) → 8 ≤ length device.outbox
    → waking t device ≡ record { device = after_due_reboot t device; answer = Err (record {}) }
unfolding waking time_asking
full_wakes t device held =
    let full : leb 8 (length (after_due_reboot t device).outbox) ≡ true = le-leb _ _ (rw (outbox_stays t device) held) in
    rw (full, reboot_once t device) refl

-- and elsewhere it asks
pub free_wakes : (t : ℕ) (device : DeviceState) → length device.outbox < 8 → (waking t device).answer ≡ Ok tt
unfolding waking time_asking
free_wakes t device room =
    let free : leb 8 (length (after_due_reboot t device).outbox) ≡ false = lt-leb _ _ (rw (outbox_stays t device) room) in
    rw free refl

pub wakes_full : (t : ℕ) (device : DeviceState) → IsErr (waking t device).answer → 8 ≤ length device.outbox
wakes_full t device err = elim (cases_lt (length device.outbox) 8) [
  | inl room ↦ absurd (let no = rw (free_wakes t device room) at err in cc)
  | inr held ↦ held
]
