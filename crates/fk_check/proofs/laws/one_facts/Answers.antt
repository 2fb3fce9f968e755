use Rattle.fk_check.proofs.OneFacts.{one_facts}
use Rattle.fk_check.proofs.laws.one_facts.Goals as goal

pub returns : goal.returns
returns c = one_facts
