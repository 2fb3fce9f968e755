use Rattle.fk_tickets.proofs.Histories.{excludes}
use Rattle.fk_tickets.proofs.laws.one_at_most_is_inside.Goals as goal

pub returns : goal.returns
returns c = excludes
