use Rattle.fk_replay_stops.proofs.There as there
use Rattle.fk_replay_stops.proofs.laws.faults_of_the_last_stop.Goals as goal

pub returns : goal.returns
returns g c = there.faults_of_the_last_stop g.row.W.Denot
