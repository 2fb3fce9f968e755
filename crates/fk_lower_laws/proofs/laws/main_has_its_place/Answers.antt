use Rattle.fk_lower_laws.proofs.Mains.{main_has_its_place}
use Rattle.fk_lower_laws.proofs.laws.main_has_its_place.Goals as goal

pub returns : goal.returns
returns c = main_has_its_place
