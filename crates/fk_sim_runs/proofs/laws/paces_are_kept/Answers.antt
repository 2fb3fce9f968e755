use Rattle.fk_sim_runs.proofs.Pace.{paces_are_kept}
use Rattle.fk_sim_runs.proofs.laws.paces_are_kept.Goals as goal

pub returns : goal.returns
returns c = paces_are_kept
