use Rattle.fk_sim_runs.proofs.Begins.{uniters_begin}
use Rattle.fk_sim_runs.proofs.laws.uniters_begin.Goals as goal

pub returns : goal.returns
returns c = uniters_begin
