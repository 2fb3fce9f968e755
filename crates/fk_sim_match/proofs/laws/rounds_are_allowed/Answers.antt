use Rattle.fk_sim_match.proofs.Rounds.{rounds_are_allowed}
use Rattle.fk_sim_match.proofs.laws.rounds_are_allowed.Goals as goal

pub returns : goal.returns
returns c = rounds_are_allowed
