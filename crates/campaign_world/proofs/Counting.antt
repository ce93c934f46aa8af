-- What is counted of devices, one after another.
use Rattle.std.proofs.Common.{◌≡◌, ℕ, ◌≤◌, ◌+◌, List, [], ◌∷◌, length, drop, slice_get, Some, refl, sym, ap, ◌∙◌, subst}
use Rattle.device_core.specs.Device.{DeviceState}
use Rattle.campaign_server.specs.declared.stage.Stage.{Stage}
use Rattle.campaign_server.specs.Server.{ServerState}
use Rattle.wire_base.specs.Numbered.{numbered}
use Rattle.campaign_world.specs.declared.summary.Totals.{Totals}
use Rattle.campaign_world.specs.HeldWorld.{HeldWorld, WorldStands, world_of}
use Rattle.campaign_world.specs.World.{WorldState}
use Rattle.campaign_world.specs.Summary.{with_device, totals_from, summary_with, summary_of}
use Rattle.campaign_world.proofs.Lines.{drop_at, drop_all, got_at}

none_counted : (totals : Totals) (stages : List Stage) → totals_from totals stages [] ≡ totals
unfolding totals_from
none_counted totals [] = refl
none_counted totals (stage ∷ stages) = refl

pub all_counted : (totals all : Totals) (i : ℕ) (stages : List Stage) (ds : List DeviceState) → length ds ≤ i
    → totals_from totals stages (drop i ds) ≡ all → totals ≡ all
all_counted totals all i stages ds past so_far = rw (drop_all ds i past, none_counted totals stages) at so_far

pub one_counted : (totals new all : Totals) (id i : ℕ) (stages : List Stage) (ds : List DeviceState) (stage : Stage) (d : DeviceState)
    → id ≡ i + 1 → numbered stages id ≡ Some stage → slice_get ds i ≡ Some d → new ≡ with_device totals stage d
    → totals_from totals (drop i stages) (drop i ds) ≡ all → totals_from new (drop (i + 1) stages) (drop (i + 1) ds) ≡ all
unfolding totals_from
one_counted totals new all id i stages ds stage d id_is staged there new_is so_far =
    let cut_stages = drop_at stages i (i + 1) stage refl (got_at stages id i stage id_is staged) in
    let cut_devices = drop_at ds i (i + 1) d refl there in
    rw (new_is) (rw (cut_stages, cut_devices) at so_far)

-- ---- the summary of a world that stands for a campaign

told_of_held : (held : HeldWorld) (ds : List DeviceState) (server : ServerState) (text : List ℕ) → server ≡ held.server
    → text ≡ summary_with server (length held.sent) ds → text ≡ summary_of (world_of held ds)
unfolding summary_of
told_of_held held ds server text same is = rw (← same) is

pub summary_told : (held : HeldWorld) (world : WorldState) (server : ServerState) (sent : ℕ) (text : List ℕ) → WorldStands held world → server ≡ held.server
    → sent ≡ length held.sent → text ≡ summary_with server sent world.devices → text ≡ summary_of world
summary_told held world server sent text stands same many is =
    subst (λ (w : WorldState). text ≡ summary_of w) (sym stands.rest)
    (told_of_held held world.devices server text same (is ∙ ap (λ (n : ℕ). summary_with server n world.devices) many))
