use Rattle.campaign_generator.proofs.ImageFile.{image_files}
use Rattle.campaign_generator.proofs.laws.image_files.Goals as goal

pub returns : goal.returns
returns c = image_files
