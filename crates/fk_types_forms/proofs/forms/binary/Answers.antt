use Rattle.std.proofs.Common.{refl, ap, ◌∙◌}
use Rattle.fk_check_rules.proofs.LeastLemmas.{IsLeast-either}
use Rattle.fk_types_operators.specs.Signs.{binary}
use Rattle.fk_types_judgments.specs.Term as m
use Rattle.fk_types_judgments.specs.Typing as y
use Rattle.fk_types_judgments.specs.Broken as b
use Rattle.fk_types_forms.proofs.PartLemmas.{least-same, made-part, both-same, operand-of}
use Rattle.fk_types_forms.proofs.forms.binary.Goals as goal

pub returns : goal.returns
returns c = λ env l r il ir. made-part env (m.Binary c.args.spot c.args.sign l r) _ _ _ _ _ c.made.ensures
    (c.computed.ensures ∙ ap y.computed (c.joined.ensures ∙ both-same (y.of_both (binary c.args.sign)) _ _ _ _ (c.operand.ensures ∙ operand-of env l c.args.left il) (c.operand-2.ensures ∙ operand-of env r c.args.right ir)))
    il.first refl refl refl
    (IsLeast-either _ _ _ _ _ (IsLeast-either _ _ _ _ _ (c.as_value.ensures env l il) (c.as_value-2.ensures env r ir) c.first_of.ensures)
    (least-same _ _ _ _ _ _ c.fault_if-own.ensures refl (c.are_not_joined-refused.ensures ∙ both-same (b.are_refused (binary c.args.sign)) _ _ _ _ (c.operand.ensures ∙ operand-of env l c.args.left il) (c.operand-2.ensures ∙ operand-of env r c.args.right ir))) c.first_of-fault.ensures)
