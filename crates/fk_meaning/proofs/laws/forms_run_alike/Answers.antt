use Rattle.fk_meaning.proofs.Span as span
use Rattle.fk_meaning.proofs.laws.forms_run_alike.Goals as goal

pub returns : goal.returns
returns g c = span.forms_run_alike g.row.V.Denot g.row.W.Denot
