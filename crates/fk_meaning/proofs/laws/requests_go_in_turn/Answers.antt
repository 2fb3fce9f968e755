use Rattle.fk_meaning.proofs.Turns as turns
use Rattle.fk_meaning.proofs.laws.requests_go_in_turn.Goals as goal

pub returns : goal.returns
returns g c = turns.requests_go_in_turn g.row.W.Denot
