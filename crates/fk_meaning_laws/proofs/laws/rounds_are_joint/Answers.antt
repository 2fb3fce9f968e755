use Rattle.fk_meaning_laws.proofs.Joint as joint
use Rattle.fk_meaning_laws.proofs.laws.rounds_are_joint.Goals as goal

pub returns : goal.returns
returns g c = joint.rounds_are_joint g.row.W.Denot
