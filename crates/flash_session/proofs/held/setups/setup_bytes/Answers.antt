use Rattle.std.proofs.Common.{refl}
use Rattle.flash_session.specs.Body.{setup_bytes}
use Rattle.flash_session.proofs.held.setups.setup_bytes.Goals as goal

pub returns : goal.returns
unfolding setup_bytes
returns c = refl
