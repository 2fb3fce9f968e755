use Rattle.fk_meaning.proofs.Bodies as bodies
use Rattle.fk_meaning.proofs.laws.sites_have_their_kinds.Goals as goal

pub returns : goal.returns
returns c = bodies.sites_have_their_kinds
