use Rattle.std.proofs.Common.{refl, ap, ◌∙◌}
use Rattle.fk_check_rules.proofs.LeastLemmas.{IsLeast-either}
use Rattle.fk_types_judgments.specs.Term as m
use Rattle.fk_types_judgments.specs.Typing as y
use Rattle.fk_types_forms.proofs.PartLemmas.{least-same, made-part, both-same}
use Rattle.fk_types_forms.proofs.forms.index.Goals as goal

pub returns : goal.returns
returns c = λ env w t iw it. made-part env (m.Index c.args.spot w t) _ _ _ _ _ c.stored.ensures
    (c.element.ensures ∙ both-same y.element _ _ _ _ (c.value-3.ensures ∙ ap y.value_in iw.type) (c.value-4.ensures ∙ ap y.value_in it.type))
    iw.first refl refl refl
    (IsLeast-either _ _ _ _ _ (IsLeast-either _ _ _ _ _ (c.as_value.ensures env w iw) (c.as_value-2.ensures env t it) c.first_of-inner.ensures)
    (IsLeast-either _ _ _ _ _ (least-same _ _ _ _ _ _ c.fault_if-pointer.ensures refl (cc)) (least-same _ _ _ _ _ _ c.fault_if-integer.ensures refl (cc)) c.first_of.ensures) c.first_of-fault.ensures)
