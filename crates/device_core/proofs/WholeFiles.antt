-- A whole file comes to the next slot once.
use Rattle.std.proofs.Common.{◌≡◌, ℕ, Bool, true, false, List, Some, None, refl, sym, ◌∙◌}
use Rattle.std.specs.Prelude.{◌≢◌, is_none}
use Rattle.frag_session.specs.declared.answers.Verdict.{Verdict}
use Rattle.frag_session.specs.declared.answers.Verdict.TheVariants.{Receiving, Complete, NoRows, Conflict}
use Rattle.frag_session.specs.Session.{Seen, drop_cause, view_of}
use Rattle.image_slots.specs.Slots.{Slots}
use Rattle.device_core.specs.declared.arrival.Arrival.{Arrival}
use Rattle.device_core.specs.SessionTable.{session_at}
use Rattle.device_core.specs.Device.{DeviceState}
use Rattle.device_core.specs.Fragments.{is_complete, whole_file, slots_after, heard_step, fragment_step}
use Rattle.device_core.specs.Step.{command_step}
use Rattle.device_core.specs.WholeFiles.{after_data_fragment, IsSeen, WholeFiles}

not_complete : (v : Verdict) → ((mark : ℕ) → v ≢ Complete mark) → is_complete v ≡ false
not_complete Receiving never = refl
not_complete (Complete mark) never = absurd (never mark refl)
not_complete (NoRows mark) never = refl
not_complete (Conflict mark) never = refl

same_slots : (hw : ℕ) (b : Bool) (slots : Slots) → slots_after hw b None slots ≡ slots
same_slots hw true slots = refl
same_slots hw false slots = refl

-- a file that is offered or not, as the session was whole before
kept : (hw : ℕ) (seen : Seen) (slots : Slots) (b : Bool) → is_complete seen.verdict ≡ b → slots ≡ slots_after hw b (whole_file (Some seen)) slots
kept hw seen slots true is = refl
kept hw seen slots false is = rw is refl

-- the slots after a fragment, whether it is heard or dropped
slots_after_fragment : (here : Arrival) (device : DeviceState) (index n : ℕ) (part : List ℕ) (before after : Seen) → IsSeen here device index n part before after
    → (after_data_fragment here device index n part).slots ≡ slots_after device.config.hw (is_complete before.verdict) (whole_file (Some after)) device.slots
unfolding command_step fragment_step heard_step
slots_after_fragment here device index n part before after is = by_cause (is_none (drop_cause (session_at device.sessions index) here.via n part)) refl
  where
    by_cause : (b : Bool) → is_none (drop_cause (session_at device.sessions index) here.via n part) ≡ b
        → (after_data_fragment here device index n part).slots ≡ slots_after device.config.hw (is_complete before.verdict) (whole_file (Some after)) device.slots
    by_cause true heard =
        let last : view_of (session_at (heard_step here device index n part).sessions index) ≡ Some after = rw heard at is.last in
        rw (heard, is.first, last) refl
    by_cause false dropped =
        let last : view_of (session_at device.sessions index) ≡ Some after = rw dropped at is.last in
        let both : Some before ≡ Some after = sym is.first ∙ last in
        let same : before ≡ after = cc in
        rw (dropped, ← same) (kept device.config.hw before device.slots (is_complete before.verdict) refl)

pub whole_files : WholeFiles
whole_files = record {
  brought = λ here device index n mark part before after is first last. slots_after_fragment here device index n part before after is ∙ rw (first, last) refl;
  once = λ here device index n mark part before after is first. slots_after_fragment here device index n part before after is ∙ rw first refl;
  no_file = λ here device index n part before after is never.
      slots_after_fragment here device index n part before after is ∙ rw (not_complete after.verdict never) (same_slots device.config.hw (is_complete before.verdict) device.slots);
}
