use Rattle.fk_sim_runs.proofs.Begins.{reached_waiters_resume}
use Rattle.fk_sim_runs.proofs.laws.reached_waiters_resume.Goals as goal

pub returns : goal.returns
returns c = reached_waiters_resume
