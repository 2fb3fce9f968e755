use Rattle.std.proofs.Common.{refl}
use Rattle.fk_check_rules.proofs.LeastLemmas.{IsLeast-either}
use Rattle.fk_types_forms.proofs.PartLemmas.{least-same}
use Rattle.fk_types_forms.proofs.forms.called_name_fault.Goals as goal

pub returns : goal.returns
returns c = IsLeast-either _ _ _ _ _ (least-same _ _ _ _ _ _ c.fault_if-undeclared.ensures refl c.is_undeclared.ensures) (least-same _ _ _ _ _ _ c.fault_if.ensures refl c.is_main.ensures) c.first_of.ensures
