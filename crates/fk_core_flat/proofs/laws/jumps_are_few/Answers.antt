use Rattle.fk_core_flat.proofs.Counts.{jumps_are_few}
use Rattle.fk_core_flat.proofs.laws.jumps_are_few.Goals as goal

pub returns : goal.returns
returns c = jumps_are_few
