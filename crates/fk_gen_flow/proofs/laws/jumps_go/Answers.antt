use Rattle.fk_gen_flow.proofs.Law.{jumps_go}
use Rattle.fk_gen_flow.proofs.laws.jumps_go.Goals as goal

pub returns : goal.returns
returns c = jumps_go
