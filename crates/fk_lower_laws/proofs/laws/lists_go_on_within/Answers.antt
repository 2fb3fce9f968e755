use Rattle.fk_lower_laws.proofs.Free.{lists_go_on_within}
use Rattle.fk_lower_laws.proofs.laws.lists_go_on_within.Goals as goal

pub returns : goal.returns
returns c = lists_go_on_within
