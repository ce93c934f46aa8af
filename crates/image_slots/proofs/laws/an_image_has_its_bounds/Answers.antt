use Rattle.image_slots.proofs.ImageLemmas.{image_long, image_short, image_of_parts}
use Rattle.image_slots.proofs.laws.an_image_has_its_bounds.Goals as goal

pub returns-clause-long : goal.returns-clause-long
returns-clause-long c = image_long

pub returns-clause-short : goal.returns-clause-short
returns-clause-short c = image_short

pub returns-clause-all : goal.returns-clause-all
returns-clause-all c = image_of_parts
