use Rattle.fk_sim_heap.proofs.Requests as whole
use Rattle.fk_sim_heap.proofs.laws.requests_are_counted.Goals as goal

pub returns : goal.returns
returns c = whole.requests_are_counted
