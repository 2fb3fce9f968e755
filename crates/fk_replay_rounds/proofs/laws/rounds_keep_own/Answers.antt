use Rattle.fk_replay_rounds.proofs.Own.{keep}
use Rattle.fk_replay_rounds.proofs.laws.rounds_keep_own.Goals as goal

pub returns : goal.returns
returns g c = λ next set round s own. keep next set round s own
