use Rattle.fk_sim_runs.proofs.Begins.{reached_beginners_are_in_root}
use Rattle.fk_sim_runs.proofs.laws.reached_beginners_are_in_root.Goals as goal

pub returns : goal.returns
returns c = reached_beginners_are_in_root
