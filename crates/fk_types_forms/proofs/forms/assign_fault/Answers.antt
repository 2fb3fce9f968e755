use Rattle.std.proofs.Common.{refl, ◌∙◌}
use Rattle.fk_check_rules.proofs.LeastLemmas.{IsLeast-either}
use Rattle.fk_types_judgments.specs.Broken as b
use Rattle.fk_types_forms.proofs.PartLemmas.{least-same, least-rule, both-same, operand-of}
use Rattle.fk_types_forms.proofs.forms.assign_fault.Goals as goal

pub returns : goal.returns
returns c = λ env p v ip iv. IsLeast-either _ _ _ _ _ (least-same _ _ _ _ _ _ c.fault_if-target.ensures refl ip.target)
    (IsLeast-either _ _ _ _ _ (least-same _ _ _ _ _ _ c.fault_if-whole.ensures refl (cc)) (least-rule _ _ _ _ _ _ c.fault_if.ensures c.assign_rule.ensures
    (c.is_not_assigned-refused.ensures ∙ both-same (b.is_not_assigned c.args.sign) _ _ _ _ ip.type (c.operand.ensures ∙ operand-of env v c.args.value.now iv))) c.first_of.ensures) c.first_of-2.ensures
