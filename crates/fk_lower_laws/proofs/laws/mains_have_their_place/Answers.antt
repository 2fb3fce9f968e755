use Rattle.fk_lower_laws.proofs.Programs.{mains_have_their_place}
use Rattle.fk_lower_laws.proofs.laws.mains_have_their_place.Goals as goal

pub returns : goal.returns
returns c = mains_have_their_place
