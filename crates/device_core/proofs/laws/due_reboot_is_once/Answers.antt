use Rattle.device_core.proofs.Deliveries.{reboot_once}
use Rattle.device_core.proofs.laws.due_reboot_is_once.Goals as goal

pub returns : goal.returns
returns c = reboot_once
