use Rattle.std.proofs.Common.{refl, ap, ◌∙◌}
use Rattle.fk_check_rules.proofs.LeastLemmas.{IsLeast-either}
use Rattle.fk_types_operators.specs.Signs.{chosen}
use Rattle.fk_types_judgments.specs.Term as m
use Rattle.fk_types_judgments.specs.Typing as y
use Rattle.fk_types_judgments.specs.Broken as b
use Rattle.fk_types_forms.proofs.PartLemmas.{least-same, made-part, both-same, three-same, operand-of}
use Rattle.fk_types_forms.proofs.forms.choose.Goals as goal

pub returns : goal.returns
returns c = λ env t f s it ih is. made-part env (m.Choose c.args.spot t f s) _ _ _ _ _ c.made.ensures
    (c.branched-kind.ensures ∙ three-same y.branched _ _ _ _ _ _ (c.value.ensures ∙ ap y.value_in it.type) (c.operand.ensures ∙ operand-of env f c.args.first ih) (c.operand-2.ensures ∙ operand-of env s c.args.second is))
    it.first refl refl refl
    (IsLeast-either _ _ _ _ _ (IsLeast-either _ _ _ _ _ (c.as_condition.ensures env t it)
    (IsLeast-either _ _ _ _ _ (c.as_value.ensures env f ih) (c.as_value-2.ensures env s is) c.first_of-inner.ensures) c.first_of.ensures)
    (least-same _ _ _ _ _ _ c.fault_if.ensures refl (c.are_not_chosen-refused.ensures ∙ both-same (b.are_refused chosen) _ _ _ _ (c.operand.ensures ∙ operand-of env f c.args.first ih) (c.operand-2.ensures ∙ operand-of env s c.args.second is))) c.first_of-fault.ensures)
