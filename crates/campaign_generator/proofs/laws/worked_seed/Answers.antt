use Rattle.std.specs.Fmt.{digits}
use Rattle.campaign_generator.specs.Draws.{stepped, drawn, after_draws}
use Rattle.campaign_generator.specs.Firmware.{body_of, size_of, firmware_of_seed, bytes_from, fragments_of, fragments_of_size}
use Rattle.campaign_generator.specs.Script.{devices_from, turns, rounds, frags, downs_from, deliveries, script_from, sent_of}
use Rattle.campaign_generator.proofs.laws.worked_seed.Goals as goal

pub returns-clause-seed : goal.returns-clause-seed
unfolding after_draws stepped drawn body_of size_of firmware_of_seed bytes_from fragments_of fragments_of_size sent_of
returns-clause-seed c = search

pub returns-clause-script : goal.returns-clause-script
unfolding stepped drawn after_draws devices_from turns rounds frags downs_from deliveries script_from digits
returns-clause-script c = search
