use Rattle.fk_sharing.proofs.Lockstep.{splits-synchronous}
use Rattle.fk_sharing.proofs.laws.splits_in_lockstep.Goals as goal

pub returns : goal.returns
returns c = splits-synchronous
