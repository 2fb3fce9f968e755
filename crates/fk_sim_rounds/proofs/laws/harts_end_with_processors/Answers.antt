use Rattle.fk_sim_rounds.proofs.Ended.{harts_end_with_processors}
use Rattle.fk_sim_rounds.proofs.laws.harts_end_with_processors.Goals as goal

pub returns : goal.returns
returns c = harts_end_with_processors
