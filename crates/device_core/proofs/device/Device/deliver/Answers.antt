use Rattle.device_core.proofs.device.Device.deliver.Goals as goal

pub returns : goal.returns
returns g c = rw (← c.of.ensures) c.receive.ensures
