use Rattle.std.proofs.Common.{◌≡◌, ◌-◌, ◌++◌}
use Rattle.campaign_generator.specs.Draws.{after_draws}
use Rattle.campaign_generator.specs.Firmware.{bytes_from}
use Rattle.campaign_generator.proofs.image.body.Given as goal

abbrev pub invariant-loop-k : goal.invariant-loop-k
invariant-loop-k l = record {
  bytes : l.bytes.items ++ bytes_from l.draws.state (l.size - l._k) ≡ bytes_from l.fn.draws.state l.size;
  state : after_draws l.draws.state (l.size - l._k) ≡ after_draws l.fn.draws.state l.size;
}
