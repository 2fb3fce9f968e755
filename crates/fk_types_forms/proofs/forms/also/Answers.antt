use Rattle.std.proofs.Common.{◌&&◌, ap, ◌∙◌}
use Rattle.fk_check_rules.proofs.LeastLemmas.{IsLeast-either}
use Rattle.fk_types_judgments.specs.Typing as y
use Rattle.fk_types_judgments.specs.Broken as b
use Rattle.fk_types_forms.proofs.PartLemmas.{least-same, both-same, operand-of}
use Rattle.fk_types_forms.proofs.forms.also.Goals as goal

pub returns : goal.returns
returns c = λ env ps ts t ia it e. record {
  fit = c.are_both.ensures ∙ both-same ◌&&◌ _ _ _ _ ia.fit (c.does_fit.ensures ∙ both-same y.does_fit _ _ _ _ e (c.operand-operand.ensures ∙ operand-of env t c.args.last it));
  first = c.either_value.ensures ∙ both-same y.either_value _ _ _ _ ia.first (c.value.ensures ∙ ap y.value_in it.type);
  fault = IsLeast-either _ _ _ _ _ ia.fault (IsLeast-either _ _ _ _ _ (c.as_value.ensures env t it) (least-same _ _ _ _ _ _ c.fault_if-own.ensures it.first (c.is_not_taken.ensures ∙ both-same b.is_not_taken _ _ _ _ e (c.operand-operand.ensures ∙ operand-of env t c.args.last it))) c.first_of.ensures) c.first_of-2.ensures;
}
