use Rattle.fk_trace_laws.proofs.OneTrace.{texts_tell_one_trace}
use Rattle.fk_trace_laws.proofs.laws.texts_tell_one_trace.Goals as goal

pub returns : goal.returns
returns c = texts_tell_one_trace
