use Rattle.fk_sim_rounds.proofs.HomesBegin.{homes_begin}
use Rattle.fk_sim_rounds.proofs.laws.homes_begin.Goals as goal

pub returns : goal.returns
returns c = homes_begin
