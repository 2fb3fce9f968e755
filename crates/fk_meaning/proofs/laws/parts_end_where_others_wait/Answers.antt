use Rattle.fk_meaning.proofs.Steps.{all_go_on}
use Rattle.fk_meaning.proofs.laws.parts_end_where_others_wait.Goals as goal

pub returns : goal.returns
returns c = λ bodies all_bodies main ways step e. all_go_on bodies all_bodies (bodies main) (all_bodies main) ways step e
