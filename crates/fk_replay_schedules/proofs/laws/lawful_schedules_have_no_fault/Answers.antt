use Rattle.fk_replay_schedules.proofs.Lawful.{no_fault}
use Rattle.fk_replay_schedules.proofs.laws.lawful_schedules_have_no_fault.Goals as goal

pub returns : goal.returns
returns g c = λ next setting schedule opening is. no_fault next setting schedule opening is
