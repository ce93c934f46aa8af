-- What becomes of two worlds where a line goes to one of them, or to both.
use Rattle.std.proofs.Common.{◌≡◌, ℕ, true, List, Option, Some, Ok, refl, sym, ap, ◌∙◌, subst}
use Rattle.device_core.specs.Device.{DeviceState}
use Rattle.script_lines.specs.declared.forms.Form.{Form}
use Rattle.script_lines.specs.declared.forms.Form.TheVariants as form
use Rattle.campaign_world.specs.declared.numbered.SentPayload.{SentPayload}
use Rattle.campaign_world.specs.declared.section.Section.{Section}
use Rattle.campaign_world.specs.Causes.{has_begun, has_ended}
use Rattle.campaign_world.specs.World.{WorldState}
use Rattle.campaign_world.specs.Said.{Own, Reached}
use Rattle.campaign_world.specs.Making.{after_form}
use Rattle.campaign_world.specs.Script.{after_line}
use Rattle.campaign_world.specs.HeldWorld.{HeldWorld, DevicesRest, WorldBecomes, KeepsEnds}
use Rattle.pair_run.specs.Sides.{is_quiet}
use Rattle.pair_run.specs.PairMaking.{reached_by}
use Rattle.campaign_world.proofs.Sections.{by_section, never}

-- nothing happened
pub keeps_same : (held : HeldWorld) → KeepsEnds held held
keeps_same held world stands = record { devices = stands.devices; server = ap (λ (w : WorldState). w.server) stands.rest }

record Quiet (world behind : WorldState) : Type 0 where
  devices : behind.devices ≡ world.devices
  server : behind.server ≡ world.server

quiet_ends : (world : WorldState) (f : Form) → is_quiet f ≡ true → Quiet world (after_line world (Ok (Own f)))
unfolding after_form
quiet_ends world form.Header quiet = record { devices = refl; server = refl }
quiet_ends world (form.At time) quiet = record { devices = refl; server = refl }
quiet_ends world form.End quiet = record { devices = refl; server = refl }
quiet_ends world f quiet = absurd cc

-- a line that both take leaves devices and servers as they are
pub quiet_keeps : (old new : HeldWorld) (f : Form) → is_quiet f ≡ true → WorldBecomes old new (λ world. after_line world (Ok (Own f))) → KeepsEnds old new
quiet_keeps old new f quiet becomes world stands =
    let behind = becomes world stands in
    let same = quiet_ends world f quiet in
    record {
      devices = subst (λ (ds : List DeviceState). DevicesRest new.devices ds) same.devices behind.devices;
      server = sym same.server ∙ ap (λ (w : WorldState). w.server) behind.rest;
    }

-- a payload that was sent crosses over
pub reached_is : (device word : ℕ) (found : Option SentPayload) (sent : SentPayload) → found ≡ Some sent
    → reached_by device word found ≡ Reached device word sent.down
reached_is device word found sent is = rw is refl

-- where the end has come, events have
pub ended_begun : (s : Section) → has_ended s ≡ true → has_begun s ≡ true
ended_begun = by_section (λ (s : Section). has_ended s ≡ true → has_begun s ≡ true) never never never never never never never (λ is. refl)
