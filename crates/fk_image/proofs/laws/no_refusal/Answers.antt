use Rattle.fk_image.proofs.Accepted as accepted
use Rattle.fk_image.proofs.laws.no_refusal.Goals as goal

pub returns : goal.returns
returns c = accepted.no_refusal
