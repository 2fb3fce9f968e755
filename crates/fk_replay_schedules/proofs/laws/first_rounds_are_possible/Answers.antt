use Rattle.fk_replay_schedules.proofs.Prefixes.{first_possible}
use Rattle.fk_replay_schedules.proofs.laws.first_rounds_are_possible.Goals as goal

pub returns : goal.returns
returns g c = λ next setting schedule opening n passed. first_possible next setting schedule opening n passed.possible
