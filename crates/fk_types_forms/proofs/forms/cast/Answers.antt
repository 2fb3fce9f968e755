use Rattle.std.proofs.Common.{refl}
use Rattle.fk_syntax.specs.View.{type_of}
use Rattle.fk_check_rules.proofs.LeastLemmas.{IsLeast-either}
use Rattle.fk_types_judgments.specs.Term as m
use Rattle.fk_types_forms.specs.Scope.{env_in}
use Rattle.fk_types_forms.proofs.PartLemmas.{least-same, made-part}
use Rattle.fk_types_forms.proofs.forms.cast.Goals as goal

pub returns : goal.returns
returns c = λ t is. made-part (env_in c.args.scope.now) (m.Cast c.args.spot (type_of c.args.kind.now) t) _ _ _ _ _ c.made.ensures (cc) refl refl refl refl
    (IsLeast-either _ _ _ _ _ (c.as_value.ensures (env_in c.args.scope.now) t is)
    (IsLeast-either _ _ _ _ _ c.no_struct.ensures (least-same _ _ _ _ _ _ c.fault_if-own.ensures refl c.is_no_value_type.ensures) c.first_of.ensures) c.first_of-fault.ensures)
