use Rattle.fk_image.proofs.Same as same
use Rattle.fk_image.proofs.laws.one_image.Goals as goal

pub returns : goal.returns
returns c = same.one_image
