use Rattle.fk_replay_schedules.proofs.Idle.{are_idle, idle_possible, idle_result}
use Rattle.fk_replay_schedules.proofs.laws.empty_rounds_change_nothing.Goals as goal

pub returns : goal.returns
returns g c = λ next setting round s running many none.
    let x = are_idle next setting round s.runners many none in
    (idle_possible next setting round s x running, idle_result next setting round s x running)
