use Rattle.fk_core_flat.proofs.FlatPrograms.{flat_programs_keep_runs}
use Rattle.fk_core_flat.proofs.laws.flat_programs_keep_runs.Goals as goal

pub returns : goal.returns
returns c = flat_programs_keep_runs
