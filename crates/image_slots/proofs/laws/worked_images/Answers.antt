use Rattle.image_slots.proofs.WorkedImages.{images, slots}
use Rattle.image_slots.proofs.laws.worked_images.Goals as goal

pub returns-clause-images : goal.returns-clause-images
returns-clause-images c = images

pub returns-clause-slots : goal.returns-clause-slots
returns-clause-slots c = slots
