use Rattle.fk_lockstep_tree.proofs.Waiters as known
use Rattle.fk_lockstep_tree.proofs.laws.waiters_resume.Goals as goal

pub returns : goal.returns
returns g c = known.waiters_resume g.row.W.Denot
