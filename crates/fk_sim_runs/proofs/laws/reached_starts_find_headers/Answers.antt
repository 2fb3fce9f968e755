use Rattle.fk_sim_runs.proofs.Ready.{reached_starts_find_headers}
use Rattle.fk_sim_runs.proofs.laws.reached_starts_find_headers.Goals as goal

pub returns : goal.returns
returns c = reached_starts_find_headers
