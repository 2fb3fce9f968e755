use Rattle.fk_check_laws.proofs.Programs.{conditions_begin}
use Rattle.fk_check_laws.proofs.laws.conditions_begin.Goals as goal

pub returns : goal.returns
returns c = conditions_begin
