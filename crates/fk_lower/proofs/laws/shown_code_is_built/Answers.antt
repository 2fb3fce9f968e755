use Rattle.fk_lower.proofs.Built.{code_is_built}
use Rattle.fk_lower.proofs.laws.shown_code_is_built.Goals as goal

pub returns : goal.returns
returns g c = code_is_built g.row.A.Denot
