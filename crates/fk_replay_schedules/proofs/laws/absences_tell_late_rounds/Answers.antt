use Rattle.fk_replay_schedules.proofs.Paced.{told_is_late, late_is_told}
use Rattle.fk_replay_schedules.proofs.laws.absences_tell_late_rounds.Goals as goal

pub returns : goal.returns
returns g c = λ next setting schedule opening n round old new is paced passed left h. (
  λ told. told_is_late next setting schedule opening n round old new is paced left h told.0 told.1 told.2,
  λ late. late_is_told next setting schedule opening n round old new is paced left passed h late,
)
