use Rattle.fk_sim_runs.proofs.Pace.{paces_go_on}
use Rattle.fk_sim_runs.proofs.laws.paces_go_on.Goals as goal

pub returns : goal.returns
returns c = paces_go_on
