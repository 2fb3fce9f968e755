use Rattle.fk_types_forms.proofs.PartLemmas.{least-same}
use Rattle.fk_types_checker.proofs.values.constant_fault.Goals as goal

pub returns : goal.returns
returns c = λ is. least-same _ _ _ _ _ _ c.fault_if.ensures is.first c.is_more.ensures
