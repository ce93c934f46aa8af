-- Power at a device that was up.
use Rattle.std.proofs.Common.{◌≡◌, ℕ, Bool, true, false, List, Option, Some, None, refl, ap, ◌∙◌}
use Rattle.std.specs.Prelude.{if◌then◌else◌}
use Rattle.frag_session.specs.Session.{Seen, view_of}
use Rattle.image_slots.specs.Slots.{Slots}
use Rattle.session_store.specs.CompleteFlags.{flags_of}
use Rattle.device_core.specs.Fragments.{is_complete, is_whole, whole_file, slots_after}
use Rattle.device_core.specs.SessionTable.{SessionTable}
use Rattle.device_core.specs.Power.{powered, after_power, PowerIsQuiet}

by_verdict : (hw : ℕ) (b : Bool) (file : List ℕ) (slots : Slots) → slots_after hw b (if b then Some file else None) slots ≡ slots
by_verdict hw true file slots = refl
by_verdict hw false file slots = refl

-- a file that was whole is not offered again
one_quiet : (hw : ℕ) (seen : Option Seen) (slots : Slots) → slots_after hw (is_whole seen) (whole_file seen) slots ≡ slots
one_quiet hw None slots = refl
one_quiet hw (Some seen) slots = by_verdict hw (is_complete seen.verdict) seen.file slots

all_quiet : (hw : ℕ) (table : SessionTable) (slots : Slots) → powered hw (flags_of table) table slots ≡ slots
all_quiet hw table slots =
    one_quiet hw (view_of table.fourth) _ ∙ one_quiet hw (view_of table.third) _ ∙ one_quiet hw (view_of table.second) _
    ∙ one_quiet hw (view_of table.first) slots

pub power_is_quiet : PowerIsQuiet
unfolding after_power
power_is_quiet device = ap (λ (x : Slots). record device { slots = x }) (all_quiet device.config.hw device.sessions device.slots)
