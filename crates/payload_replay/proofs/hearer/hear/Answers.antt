use Rattle.std.proofs.Common.{[], subst}
use Rattle.package_grammar.specs.declared.downlink.Downlink.{Downlink}
use Rattle.device_core.specs.Deliver.{delivery}
use Rattle.device_core.specs.HeldDevice.{DeviceStands}
use Rattle.device_core.proofs.Keeping.{no_rise}
use Rattle.payload_replay.specs.Replay.{after_payload}
use Rattle.payload_replay.proofs.hearer.hear.Goals as goal

pub returns : goal.returns
unfolding after_payload
returns c = λ before stands.
    let heard = (c.receive-delivered.ensures.makes (λ is. no_rise (c.receive-delivered.ensures.fault is))).stands before stands in
    subst (λ (down : Downlink). DeviceStands c.drop_uplinks.new.self (record (delivery 0 0 c.args.mark down before).device { outbox = [] })) c.new-down.ensures
    (c.drop_uplinks.ensures.becomes _ heard)
