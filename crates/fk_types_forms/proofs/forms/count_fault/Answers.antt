use Rattle.std.proofs.Common.{refl}
use Rattle.fk_check_rules.proofs.LeastLemmas.{IsLeast-either}
use Rattle.fk_types_forms.proofs.PartLemmas.{least-same}
use Rattle.fk_types_forms.proofs.forms.count_fault.Goals as goal

pub returns : goal.returns
returns c = λ env t is. IsLeast-either _ _ _ _ _ (least-same _ _ _ _ _ _ c.fault_if-target.ensures refl is.target)
    (IsLeast-either _ _ _ _ _ (least-same _ _ _ _ _ _ c.fault_if-whole.ensures refl (cc)) (least-same _ _ _ _ _ _ c.fault_if-own.ensures refl (cc)) c.first_of.ensures) c.first_of-2.ensures
