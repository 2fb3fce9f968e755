use Rattle.fk_gen_flow.proofs.Law.{harts_begin}
use Rattle.fk_gen_flow.proofs.laws.harts_begin.Goals as goal

pub returns : goal.returns
returns c = harts_begin
