use Rattle.fk_sim_rounds.proofs.Comes.{groups_come_to_commits}
use Rattle.fk_sim_rounds.proofs.laws.groups_come_to_commits.Goals as goal

pub returns : goal.returns
returns c = groups_come_to_commits
