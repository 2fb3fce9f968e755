use Rattle.fk_replay_schedules.proofs.Lawful.{lawful}
use Rattle.fk_replay_schedules.proofs.laws.good_schedules_are_lawful.Goals as goal

pub returns : goal.returns
returns g c = λ next setting schedule opening good none. lawful next setting schedule opening good none
