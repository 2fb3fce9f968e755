use Rattle.fk_trace_laws.proofs.Traced.{trace_is_lawful}
use Rattle.fk_trace_laws.proofs.laws.trace_is_lawful.Goals as goal

pub returns : goal.returns
returns c = trace_is_lawful
