use Rattle.fk_replay_schedules.proofs.Paced.{kept}
use Rattle.fk_replay_schedules.proofs.laws.absences_are_kept.Goals as goal

pub returns : goal.returns
returns g c = λ next setting schedule opening n round old left new is paced leaves begins.
    kept next setting schedule opening n round old left is paced leaves new begins
