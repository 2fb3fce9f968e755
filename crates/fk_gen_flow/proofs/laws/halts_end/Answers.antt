use Rattle.fk_gen_flow.proofs.Law.{halts_end}
use Rattle.fk_gen_flow.proofs.laws.halts_end.Goals as goal

pub returns : goal.returns
returns c = halts_end
