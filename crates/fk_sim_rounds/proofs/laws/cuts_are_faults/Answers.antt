use Rattle.fk_sim_rounds.proofs.Results.{cuts_are_faults}
use Rattle.fk_sim_rounds.proofs.laws.cuts_are_faults.Goals as goal

pub returns : goal.returns
returns c = cuts_are_faults
