use Rattle.std.proofs.Common.{refl}
use Rattle.device_core.proofs.Deliveries.{full_wakes, wakes_full}
use Rattle.device_core.proofs.laws.a_full_device_wakes_for_its_reboot_alone.Goals as goal

pub returns-clause-exact : goal.returns-clause-exact
returns-clause-exact c = λ t device. (wakes_full t device, λ held. rw (full_wakes t device held) refl)

pub returns-clause-unchanged : goal.returns-clause-unchanged
returns-clause-unchanged c = λ t device err. rw (full_wakes t device (wakes_full t device err)) refl
