use Rattle.fk_meaning.proofs.Stopped as stopped
use Rattle.fk_meaning.proofs.laws.stopped_rounds_fault.Goals as goal

pub returns : goal.returns
returns g c = λ next set round s h. stopped.stopped_faults next set round s h
