use Rattle.std.proofs.Common.{refl}
use Rattle.fk_check_rules.proofs.LeastLemmas.{IsLeast-either}
use Rattle.fk_types_judgments.specs.Term as m
use Rattle.fk_types_forms.proofs.PartLemmas.{least-same, made-part}
use Rattle.fk_types_forms.proofs.forms.dereference.Goals as goal

pub returns : goal.returns
returns c = λ env t is. made-part env (m.Dereference c.args.spot t) _ _ _ _ _ c.stored.ensures (cc) refl refl refl refl
    (IsLeast-either _ _ _ _ _ (c.as_value.ensures env t is) (least-same _ _ _ _ _ _ c.fault_if-own.ensures refl (cc)) c.first_of.ensures)
