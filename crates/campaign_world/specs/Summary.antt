-- The summary of a campaign (this project's profile).
use Rattle.std.specs.Prelude.{ℕ, ◌+◌, Bool, true, false, if◌then◌else◌, List, ◌∷◌, length, codes, Option, Some, None}
use Rattle.std.specs.Fmt.{decimal}
use Rattle.frag_encoder.specs.Encoding.{nb_frag_of}
use Rattle.frag_session.specs.declared.answers.Verdict.{Verdict}
use Rattle.frag_session.specs.declared.answers.Verdict.TheVariants as verdict
use Rattle.frag_session.specs.Session.{Seen, view_of}
use Rattle.device_core.specs.Device.{DeviceState}
use Rattle.campaign_server.specs.declared.stage.Stage.{Stage}
use Rattle.campaign_server.specs.declared.stage.Stage.TheVariants.{Updated}
use Rattle.campaign_server.specs.Server.{ServerState}
use Rattle.campaign_world.specs.declared.summary.Totals.{Totals}
use Rattle.campaign_world.specs.World.{WorldState}
use Rattle.report_lines.specs.Devices.{◌⧺◌}

-- ---- what it counts

-- the fragments that a session heard, and whether it has its file
abbrev pub heard_by : Option Seen → ℕ
heard_by None = 0
heard_by (Some seen) = seen.received

abbrev pub is_complete : Verdict → Bool
is_complete (verdict.Complete line) = true
is_complete other = false

-- the session is decided, by its whole file
abbrev pub has_file : Option Seen → Bool
has_file None = false
has_file (Some seen) = is_complete seen.verdict

-- whether the server knows that the device runs the image
abbrev pub is_updated : Stage → Bool
is_updated Updated = true
is_updated other = false

abbrev pub one_if : Bool → ℕ
one_if holds = if holds then 1 else 0

-- one device more, of which session 0 counts
unfoldable pub with_device : Totals → Stage → DeviceState → Totals
with_device totals stage device =
    let seen = view_of device.sessions.first in
    record { heard = totals.heard + heard_by seen; complete = totals.complete + one_if (has_file seen); updated = totals.updated + one_if (is_updated stage) }

-- these and all devices more
unfoldable pub totals_from : Totals → List Stage → List DeviceState → Totals
totals_from totals (stage ∷ stages) (device ∷ devices) = totals_from (with_device totals stage device) stages devices
totals_from totals stages devices = totals

abbrev pub nothing_counted : Totals
nothing_counted = record { heard = 0; complete = 0; updated = 0 }

-- ---- its lines

-- image SIZE fragments M
abbrev pub size_line : (size fragments : ℕ) → List ℕ
size_line size fragments = codes "image " ⧺ decimal size ⧺ codes " fragments " ⧺ decimal fragments ⧺ codes "\n"

-- sent S heard H, and complete C updated U
abbrev pub totals_lines : (sent : ℕ) → Totals → List ℕ
totals_lines sent totals =
    codes "sent " ⧺ decimal sent ⧺ codes " heard " ⧺ decimal totals.heard
    ⧺ codes "\ncomplete " ⧺ decimal totals.complete ⧺ codes " updated " ⧺ decimal totals.updated ⧺ codes "\n"

-- the summary of a server, so many payloads sent, and its devices
abbrev pub summary_with : ServerState → (sent : ℕ) → List DeviceState → List ℕ
summary_with server sent devices =
    let size = length server.image in
    size_line size (nb_frag_of size server.plan.frag_size) ⧺ totals_lines sent (totals_from nothing_counted server.stages devices) ⧺ codes "end\n"

unfoldable pub summary_of : WorldState → List ℕ
summary_of world = summary_with world.server (length world.sent) world.devices
