-- Restarts change nothing: power gives a restored device the record that was saved.
use Rattle.std.proofs.Common.{List, [], ◌∷◌, ap, ◌∙◌, subst}
use Rattle.device_core.specs.Device.{DeviceState}
use Rattle.device_core.specs.Running.{after_call}
use Rattle.device_core.proofs.Restarts.{lasts}
use Rattle.restart_laws.specs.Steps.{Told, told_by, Calls, Restarts, Leads, RestartsChangeNothing}

pub restarts_change_nothing : RestartsChangeNothing
restarts_change_nothing config device [] told last leads = leads
restarts_change_nothing config device (Calls call ∷ steps) told last (rest, is, leads) =
    let more = restarts_change_nothing config (after_call device call) steps rest last leads in
    (is ∙ ap (λ (others : List Told). told_by device call ∷ others) more.0, more.1)
restarts_change_nothing config device (Restarts ∷ steps) told last (again, whole, saved, running, next, r, leads) =
    restarts_change_nothing config device steps told last
    (subst (λ (d : DeviceState). Leads config d steps told last) (lasts.same config saved running next device again whole r.was r.is) leads)
