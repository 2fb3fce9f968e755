use Rattle.fk_sim_match.proofs.Meeters.{cycles_are_rounds}
use Rattle.fk_sim_match.proofs.laws.cycles_are_rounds.Goals as goal

pub returns : goal.returns
returns c = cycles_are_rounds
