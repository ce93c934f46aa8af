-- A payload that another campaign's server sent to all changes nothing of a device but its counters, between two reboots that
-- may be due.
use Rattle.std.proofs.Common.{◌≡◌, ℕ, ◌+◌, ◌==◌, not, ◌&&◌, Bool, true, false, cond, List, [], ◌∷◌, length, nat_lt, Option, None, is_none, Ok, Err, refl, sym, ap, ◌∙◌, subst, append-nil}
use Rattle.std.proofs.lemmas.Bool.{and_parts, ltb-true, eqb-false}
use Rattle.wire_base.specs.declared.refusal.Direction.TheVariants.{Down as Downwards}
use Rattle.frag_session.specs.Session.{Session, drop_cause, status_of}
use Rattle.cast_wire.specs.declared.cmd.Cmd.TheVariants.{FragSessionStatusReq, DataFragment}
use Rattle.package_grammar.specs.declared.command.Command.{Command}
use Rattle.package_grammar.specs.declared.command.Command.TheVariants.{Cast}
use Rattle.package_grammar.specs.declared.downlink.Downlink.{Downlink}
use Rattle.package_grammar.specs.Reading.{Reading, reading_of}
use Rattle.device_core.specs.declared.arrival.Arrival.{Arrival}
use Rattle.device_core.specs.declared.delivered.Delivered.{Delivered}
use Rattle.device_core.specs.declared.delivered.Delivered.TheVariants.{Deaf, OutboxFull, Done}
use Rattle.device_core.specs.SessionTable.{SessionTable, session_at}
use Rattle.device_core.specs.Device.{DeviceState, outbox_size, with_counts, after_deaf, after_full, after_dropped}
use Rattle.device_core.specs.Answers.{no_answer, after_answers}
use Rattle.device_core.specs.ClassSessions.{hears}
use Rattle.device_core.specs.Firmware.{after_due_reboot}
use Rattle.device_core.specs.Fragments.{heard_step, status_step, status_answers, fragment_step}
use Rattle.device_core.specs.Step.{command_step, step, after_commands, weights}
use Rattle.device_core.specs.Deliver.{Outcome, message_delivery, read_delivery, arrival, heard_delivery, delivery}
use Rattle.campaign_world.specs.Honest.{is_for_others, are_for_others}
use Rattle.campaign_laws.specs.Headline.{HasNoOther}
use Rattle.device_core.proofs.Stays.{Stays, reboot_keeps, still_between}
use Rattle.device_core.proofs.Acting.{fragment_acts}
use Rattle.campaign_laws.proofs.HeadlineCommands.{Cut}
use Rattle.campaign_laws.proofs.OwnGroups.{reboot_groups}
use Rattle.campaign_laws.proofs.Calm.{IsUntouched, due_calm}
use Rattle.campaign_laws.proofs.LedgerDevices.{IsSound, Goes, goes_on, reboot_goes}
use Rattle.campaign_laws.proofs.HeadlinePayloads.{status_acts}

-- one is the other except for its counters
abbrev pub IsAlike : (d e : DeviceState) → Type 0
IsAlike d e = record d { counts = e.counts } ≡ e

-- ---- a command

-- a device that has only the session of one index has none of another
apart : (own : ℕ) (table : SessionTable) (index : ℕ) → (nat_lt index 4 && not (index == own)) ≡ true → HasNoOther own table
    → session_at table index ≡ None
apart own table index other alone =
    let parts = and_parts (nat_lt index 4) (not (index == own)) other in
    alone index (ltb-true _ _ parts.0) (differs (index == own) refl parts.1)
  where
    differs : (b : Bool) → (index == own) ≡ b → not b ≡ true → (index ≡ own → ⊥)
    differs true is not is_own = cc
    differs false is not is_own = eqb-false _ _ is is_own

unanswered : (d : DeviceState) → IsAlike d (after_answers (no_answer d))
unfolding after_answers
unanswered d = rw (append-nil d.outbox) refl

undropped : (d : DeviceState) → IsAlike d (after_answers (no_answer (with_counts after_dropped d)))
unfolding after_answers
undropped d = rw (append-nil d.outbox) refl

fragment_crosses : (at : Arrival) (d : DeviceState) (index n : ℕ) (part : List ℕ) → session_at d.sessions index ≡ None
    → IsAlike d (after_answers (command_step at d (Cast (DataFragment index n part))))
unfolding command_step fragment_step drop_cause
fragment_crosses at d index n part none =
    subst (λ (s : Option Session). IsAlike d (after_answers (no_answer (cond {A = DeviceState} (is_none (drop_cause s at.via n part))
    (heard_step at d index n part) (with_counts after_dropped d))))) (sym none) (undropped d)

status_crosses : (at : Arrival) (d : DeviceState) (index : ℕ) (all : Bool) → session_at d.sessions index ≡ None
    → IsAlike d (after_answers (command_step at d (Cast (FragSessionStatusReq index all))))
unfolding command_step status_step status_of
status_crosses at d index all none =
    subst (λ (s : Option Session). IsAlike d (after_answers (record { device = d; answers = status_answers at index (status_of s at.via all) })))
    (sym none) (unanswered d)

step_crosses : (own : ℕ) (at : Arrival) (d : DeviceState) (x : Command) → is_for_others own x ≡ true → HasNoOther own d.sessions
    → IsAlike d (after_answers (step at d x))
unfolding step
step_crosses own at d (Cast (DataFragment index n part)) other alone =
    subst (λ (b : Bool). IsAlike d (after_answers (cond b (command_step at d (Cast (DataFragment index n part))) (no_answer d))))
    (sym (fragment_acts at.via index n part)) (fragment_crosses at d index n part (apart own d.sessions index other alone))
step_crosses own at d (Cast (FragSessionStatusReq index all)) other alone =
    subst (λ (b : Bool). IsAlike d (after_answers (cond b (command_step at d (Cast (FragSessionStatusReq index all))) (no_answer d))))
    (sym (status_acts at.via index all)) (status_crosses at d index all (apart own d.sessions index other alone))
step_crosses own at d x other alone = absurd cc

-- ---- a payload

outcome_by : (d : DeviceState) (b : Bool) (one other : Outcome Delivered) → IsAlike d one.device → IsAlike d other.device
    → IsAlike d (cond {A = Outcome Delivered} b one other).device
outcome_by d true one other k l = k
outcome_by d false one other k l = l

read_crosses : (own : ℕ) (at : Arrival) (d : DeviceState) (r : Reading) → are_for_others own r ≡ true → HasNoOther own d.sessions
    → IsAlike d (read_delivery at d r).device
unfolding read_delivery message_delivery after_commands
read_crosses own at d (Ok (x ∷ [])) other alone =
    let n : ℕ = length d.outbox + weights (x ∷ []) in
    outcome_by d (nat_lt outbox_size n) (record { device = with_counts after_full d; answer = OutboxFull n })
    (record { device = after_answers (step at d x); answer = Done }) refl (step_crosses own at d x other alone)
read_crosses own at d (Ok []) other alone = absurd cc
read_crosses own at d (Ok (x ∷ y ∷ xs)) other alone = absurd cc
read_crosses own at d (Err refusal) other alone = absurd cc

heard_crosses : (own t word mark : ℕ) (down : Downlink) (d : DeviceState)
    → are_for_others own (reading_of down.port Downwards down.payload) ≡ true → HasNoOther own d.sessions
    → IsAlike d (heard_delivery t word mark down d).device
unfolding heard_delivery
heard_crosses own t word mark down d other alone =
    outcome_by d (hears d t down.to) (read_delivery (arrival t word mark down d) d (reading_of down.port Downwards down.payload))
    (record { device = with_counts after_deaf d; answer = Deaf })
    (read_crosses own (arrival t word mark down d) d (reading_of down.port Downwards down.payload) other alone) refl

-- after a reboot that is due nothing changes but its counters
pub crossing : (own t word mark : ℕ) (down : Downlink) (d : DeviceState)
    → are_for_others own (reading_of down.port Downwards down.payload) ≡ true → HasNoOther own d.sessions
    → IsAlike (after_due_reboot t d) (heard_delivery t word mark down (after_due_reboot t d)).device
crossing own t word mark down d other alone =
    heard_crosses own t word mark down (after_due_reboot t d) other
    (subst (HasNoOther own) (sym (reboot_keeps t d).sessions) alone)

alike_stays : (d e : DeviceState) → IsAlike d e → Stays d e
alike_stays d e alike =
    record { config = sym (ap (λ (x : DeviceState). x.config) alike); sessions = sym (ap (λ (x : DeviceState). x.sessions) alike) }

-- so its configuration and its sessions stay
pub crossing_stays : (own t word mark : ℕ) (down : Downlink) (d : DeviceState)
    → are_for_others own (reading_of down.port Downwards down.payload) ≡ true → HasNoOther own d.sessions
    → Stays d (record (delivery t word mark down d).device { outbox = [] })
unfolding delivery
crossing_stays own t word mark down d other alone =
    let m : DeviceState = after_due_reboot t d in
    let o : Outcome Delivered = heard_delivery t word mark down m in
    still_between t d o (alike_stays m o.device (crossing own t word mark down d other alone))

-- and its groups
pub crossing_groups : (own t word mark : ℕ) (down : Downlink) (d : DeviceState)
    → are_for_others own (reading_of down.port Downwards down.payload) ≡ true → HasNoOther own d.sessions
    → (delivery t word mark down d).device.groups ≡ d.groups
unfolding delivery
crossing_groups own t word mark down d other alone =
    let m : DeviceState = after_due_reboot t d in
    let e : DeviceState = (heard_delivery t word mark down m).device in
    reboot_groups t e ∙ sym (ap (λ (x : DeviceState). x.groups) (crossing own t word mark down d other alone)) ∙ reboot_groups t d

-- where it runs no file and no reboot is set, it is as untouched as it was
alike_untouched : (d e : DeviceState) → IsAlike d e → IsUntouched d → IsUntouched e
alike_untouched d e alike k = record {
  reboot = sym (ap (λ (x : DeviceState). x.reboot) alike) ∙ k.reboot;
  version = sym (ap (λ (x : DeviceState). x.slots.version) alike) ∙ k.version;
}

pub crossing_calm : (own t word mark : ℕ) (down : Downlink) (d : DeviceState)
    → are_for_others own (reading_of down.port Downwards down.payload) ≡ true → HasNoOther own d.sessions
    → IsUntouched d → IsUntouched (delivery t word mark down d).device
unfolding delivery
crossing_calm own t word mark down d other alone k =
    let m : DeviceState = after_due_reboot t d in
    let e : DeviceState = (heard_delivery t word mark down m).device in
    due_calm t e (alike_untouched m e (crossing own t word mark down d other alone) (due_calm t d k))

-- and what it is told truly of stays so
pub crossing_goes : (image : List ℕ) (cut : Cut) (own t word mark : ℕ) (down : Downlink) (d : DeviceState)
    → are_for_others own (reading_of down.port Downwards down.payload) ≡ true → HasNoOther own d.sessions
    → IsSound image cut d → Goes image cut d (delivery t word mark down d).device
unfolding delivery
crossing_goes image cut own t word mark down d other alone k =
    let m : DeviceState = after_due_reboot t d in
    let e : DeviceState = (heard_delivery t word mark down m).device in
    let before = reboot_goes image cut t d k in
    let heard = alike_goes image cut m e (crossing own t word mark down d other alone) before.sound in
    goes_on image cut d m _ before (goes_on image cut m e _ heard (reboot_goes image cut t e heard.sound))
  where
    alike_goes : (image : List ℕ) (cut : Cut) (d e : DeviceState) → IsAlike d e → IsSound image cut d → Goes image cut d e
    alike_goes image cut d e alike k = subst (Goes image cut d) alike (counted image cut d e k)
      where
        counted : (image : List ℕ) (cut : Cut) (d e : DeviceState) → IsSound image cut d
            → Goes image cut d (record d { counts = e.counts })
        counted image cut d e k = record {
          sound = record { hardware = k.hardware; session = k.session; slots = k.slots; outbox = k.outbox };
          runs = λ r. r;
        }
