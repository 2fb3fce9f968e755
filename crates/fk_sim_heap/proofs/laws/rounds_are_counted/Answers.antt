use Rattle.fk_sim_heap.proofs.Rounds as whole
use Rattle.fk_sim_heap.proofs.laws.rounds_are_counted.Goals as goal

pub returns : goal.returns
returns c = whole.rounds_are_counted
