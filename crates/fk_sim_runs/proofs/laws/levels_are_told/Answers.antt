use Rattle.fk_sim_runs.proofs.Levels.{levels_are_told}
use Rattle.fk_sim_runs.proofs.laws.levels_are_told.Goals as goal

pub returns : goal.returns
returns c = levels_are_told
