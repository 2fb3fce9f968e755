use Rattle.fk_gen_access.proofs.HeapCode as whole
use Rattle.fk_gen_access.proofs.laws.heap_code_hires.Goals as goal

pub returns : goal.returns
returns c = whole.heap_code_hires
