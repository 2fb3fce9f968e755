use Rattle.std.proofs.Common.{refl}
use Rattle.fk_syntax.specs.View.{named}
use Rattle.fk_check_rules.proofs.LeastLemmas.{IsLeast-either}
use Rattle.fk_types_judgments.specs.Term as m
use Rattle.fk_types_forms.specs.Scope.{env_in}
use Rattle.fk_types_forms.proofs.PartLemmas.{least-same, made-part}
use Rattle.fk_types_forms.proofs.forms.through.Goals as goal

pub returns : goal.returns
returns c = λ w is. let e = c.member_type.ensures (named c.args.member) c.member_place-place.ensures in made-part (env_in c.args.scope.now) (m.Through c.args.spot w (named c.args.member)) _ _ _ _ _ c.stored.ensures (cc) is.first refl refl refl
    (IsLeast-either _ _ _ _ _ (c.as_value.ensures (env_in c.args.scope.now) w is) (least-same _ _ _ _ _ _ c.fault_if.ensures refl (cc)) c.first_of-fault.ensures)
