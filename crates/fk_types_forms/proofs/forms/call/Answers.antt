use Rattle.std.proofs.Common.{refl, ap, subst, ◌∙◌}
use Rattle.fk_check_rules.specs.Least.{IsLeast}
use Rattle.fk_check_rules.proofs.LeastLemmas.{IsLeast-either}
use Rattle.fk_types_judgments.specs.Term as m
use Rattle.fk_types_judgments.specs.Typing as y
use Rattle.fk_types_judgments.specs.Broken as b
use Rattle.fk_types_forms.proofs.PartLemmas.{least-same, made-part, both-same, four-same}
use Rattle.fk_types_forms.proofs.forms.call.Goals as goal

pub returns : goal.returns
returns c = λ env t ts it im ic ia. made-part env (m.Call c.args.spot t ts) _ _ _ _ _ c.made.ensures
    (c.call_type-kind.ensures ∙ four-same y.call_type _ _ _ _ _ _ _ _ im ic (ia.fit ∙ ap (λ meant. y.do_all_fit env (y.parameters_of meant) ts) im) ia.first)
    it.first refl refl refl
    (IsLeast-either _ _ _ _ _ (IsLeast-either _ _ _ _ _ (c.callee_fault.ensures env t it im)
    (subst (λ meant. IsLeast (b.ArgumentsBreak env (y.parameters_of meant) ts) c.args.arguments.fault) im ia.fault) c.first_of-inner.ensures)
    (IsLeast-either _ _ _ _ _ (least-same _ _ _ _ _ _ c.fault_if-function.ensures refl (c.is_no_function.ensures ∙ ap b.is_no_function im)) (least-same _ _ _ _ _ _ c.fault_if-number.ensures refl (c.is_wrong_count.ensures ∙ both-same b.is_wrong_count _ _ _ _ im ic)) c.first_of.ensures) c.first_of-fault.ensures)
