use Rattle.fk_lower_names.proofs.Near.{all_near}
use Rattle.fk_lower_names.proofs.laws.members_are_close.Goals as goal

pub returns : goal.returns
returns c = all_near
