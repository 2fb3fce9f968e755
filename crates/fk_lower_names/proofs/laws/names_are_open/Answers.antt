use Rattle.fk_lower_names.proofs.OpenPrograms.{names_are_open}
use Rattle.fk_lower_names.proofs.laws.names_are_open.Goals as goal

pub returns : goal.returns
returns c = names_are_open
