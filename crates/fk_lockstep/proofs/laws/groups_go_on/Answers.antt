use Rattle.fk_lockstep.proofs.Rounds.{groups_go_on}
use Rattle.fk_lockstep.proofs.laws.groups_go_on.Goals as goal

pub returns : goal.returns
returns c = groups_go_on
