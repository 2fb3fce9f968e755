use Rattle.fk_sim_match.proofs.Words as words
use Rattle.fk_sim_match.proofs.laws.words_of_nobody_stay.Goals as goal

pub returns : goal.returns
returns g c = words.words_of_nobody_stay g.row.S.Denot g.row.P.Denot g.row.D.Denot
