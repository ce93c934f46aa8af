use Rattle.std.proofs.Common.{◌∙◌, sym, arith}
use Rattle.image_slots.proofs.ImageLemmas.{image_short}
use Rattle.campaign_world.proofs.FormCauses.{size_in_range}
use Rattle.campaign_world.proofs.world.planning.Planning.first_cause.Goals as goal

pub fits_script-requires-clause-len : goal.fits_script-requires-clause-len
fits_script-requires-clause-len c = omega (arith, c.len-2.ensures, c.args.self.now.image.ok.0, image_short _ c.requires.image_is)

pub fits_script-requires-clause-size : goal.fits_script-requires-clause-size
fits_script-requires-clause-size c = size_in_range _ (sym c.in_range.ensures ∙ c.if-not-in_range.false)
