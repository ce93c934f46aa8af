use Rattle.device_core.specs.Deliver.{read_delivery}
use Rattle.device_core.specs.Passed.{read_tables}
use Rattle.device_core.proofs.Messages.{message_read, refusal_read, refused_hears}
use Rattle.device_core.proofs.device.Device.read.Goals as goal

pub returns-in-Ok : goal.returns-in-Ok
unfolding read_delivery read_tables
returns-in-Ok g c = rw (message_read _ _ _ c.in-Ok.ensures.reading) c.take.ensures

pub returns-in-Err : goal.returns-in-Err
returns-in-Err g c =
    refused_hears g.F.Flash.seen c.args.self.now c.count_refused.new.self c.args.here _ c.in-Err.refusal
    (refusal_read _ _ _ c.in-Err.ensures.reading) c.count_refused.ensures c.requires.up
