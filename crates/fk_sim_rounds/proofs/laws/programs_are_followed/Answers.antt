use Rattle.fk_sim_rounds.proofs.Programs.{programs_are_followed}
use Rattle.fk_sim_rounds.proofs.laws.programs_are_followed.Goals as goal

pub returns : goal.returns
returns c = programs_are_followed c.flat_lists_keep_runs.ensures
