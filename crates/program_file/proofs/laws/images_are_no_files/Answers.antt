use Rattle.program_file.proofs.NoImages.{no_image}
use Rattle.program_file.proofs.laws.images_are_no_files.Goals as goal

pub returns : goal.returns
returns c = no_image
