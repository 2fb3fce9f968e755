use Rattle.fk_lockstep.proofs.SpaceRuns as whole
use Rattle.fk_lockstep.proofs.laws.groups_have_one_space.Goals as goal

pub returns : goal.returns
returns g c = whole.groups_have_one_space g.row.W.Denot
