use Rattle.std.proofs.Common.{refl}
use Rattle.campaign_world.specs.Summary.{with_device}
use Rattle.campaign_world.proofs.summary.with_device.Goals as goal

pub returns-clause-counted : goal.returns-clause-counted
unfolding with_device
returns-clause-counted c = λ d stands.
    rw (c.from.ensures, c.one_if.ensures, c.one_if-2.ensures, c.first_session-heard.ensures.heard d stands, c.first_session-heard.ensures.file d stands, c.is_updated.ensures) refl
