use Rattle.fk_elf.proofs.Files as files
use Rattle.fk_elf.proofs.laws.one_image.Goals as goal

pub returns : goal.returns
returns c = files.one_image
