use Rattle.fk_sim_runs.proofs.Opening.{openings_are_followed}
use Rattle.fk_sim_runs.proofs.laws.openings_are_followed.Goals as goal

pub returns : goal.returns
returns c = openings_are_followed
