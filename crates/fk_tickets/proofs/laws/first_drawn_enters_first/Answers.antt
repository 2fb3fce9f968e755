use Rattle.fk_tickets.proofs.Histories as histories
use Rattle.fk_tickets.proofs.laws.first_drawn_enters_first.Goals as goal

pub returns : goal.returns
returns c = histories.first_drawn_enters_first
