use Rattle.fk_lockstep.proofs.Parts.{rounds_go_through_parts}
use Rattle.fk_lockstep.proofs.laws.rounds_go_through_parts.Goals as goal

pub returns : goal.returns
returns c = rounds_go_through_parts
