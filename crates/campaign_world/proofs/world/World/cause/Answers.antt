use Rattle.std.proofs.Common.{◌≡◌, ◌∙◌, sym, subst}
use Rattle.campaign_world.specs.HeldLate.{DeviceRests}
use Rattle.campaign_world.specs.World.{WorldState}
use Rattle.campaign_world.specs.Causes.{form_cause}
use Rattle.campaign_world.proofs.Zips.{zip_long}
use Rattle.campaign_world.proofs.world.World.cause.Goals as goal

pub returns-clause-cause : goal.returns-clause-cause
returns-clause-cause c = λ world stands.
    subst (λ (w : WorldState). c.first_cause.result ≡ form_cause w c.args.form.now) (sym stands.rest)
    (c.first_cause.ensures world.devices (zip_long DeviceRests c.args.self.now.devices world.devices stands.devices))

pub returns-clause-fine : goal.returns-clause-fine
returns-clause-fine c = λ none devices count. sym (c.first_cause.ensures devices count) ∙ none
