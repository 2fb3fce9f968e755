use Rattle.fk_sim_rounds.proofs.Landed.{landed_runs_are_runs}
use Rattle.fk_sim_rounds.proofs.laws.landed_runs_are_runs.Goals as goal

pub returns : goal.returns
returns c = landed_runs_are_runs
