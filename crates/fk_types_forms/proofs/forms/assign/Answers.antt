use Rattle.std.proofs.Common.{Bool, Option, None, refl, ◌∙◌, if◌then◌else◌}
use Rattle.fk_check_rules.proofs.LeastLemmas.{IsLeast-either}
use Rattle.fk_types_operators.specs.declared.values.ExpressionType.{ExpressionType}
use Rattle.fk_types_judgments.specs.Term as m
use Rattle.fk_types_judgments.specs.Typing as y
use Rattle.fk_types_forms.proofs.PartLemmas.{made-part, both-same, operand-of}
use Rattle.fk_types_forms.proofs.forms.assign.Goals as goal

abbrev unless : Bool → Option ExpressionType → Option ExpressionType
unless b type = if b then None else type

pub returns : goal.returns
returns c = λ env p v ip iv. made-part env (m.Assign c.args.spot c.args.sign p v) _ _ _ _ _ c.made.ensures
    (c.assigned-kind.ensures ∙ both-same unless _ _ _ _ ip.target (both-same (y.assigned c.args.sign) _ _ _ _ ip.type (c.operand.ensures ∙ operand-of env v c.args.value iv)))
    ip.first refl refl refl
    (IsLeast-either _ _ _ _ _ (IsLeast-either _ _ _ _ _ ip.fault (c.as_value.ensures env v iv) c.first_of-inner.ensures) (c.assign_fault.ensures env p v ip iv) c.first_of-fault.ensures)
