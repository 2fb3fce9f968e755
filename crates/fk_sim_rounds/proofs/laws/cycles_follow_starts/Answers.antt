use Rattle.fk_sim_rounds.proofs.StartsInRuns.{cycles_follow_starts}
use Rattle.fk_sim_rounds.proofs.laws.cycles_follow_starts.Goals as goal

pub returns : goal.returns
returns c = cycles_follow_starts
