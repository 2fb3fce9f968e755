use Rattle.fk_sim_heap.proofs.Requests as whole
use Rattle.fk_sim_heap.proofs.laws.heaps_begin_uncounted.Goals as goal

pub returns : goal.returns
returns c = whole.heaps_begin_uncounted
