use Rattle.std.proofs.Common.{refl, ap, subst, ◌∙◌}
use Rattle.fk_check_rules.specs.Least.{IsLeast}
use Rattle.fk_types_judgments.specs.Typing as y
use Rattle.fk_types_judgments.specs.Broken as b
use Rattle.fk_types_forms.proofs.forms.name.Goals as goal

pub returns : goal.returns
returns c = record {
  type = c.name_type.ensures ∙ ap y.name_type c.look_up-thing.ensures;
  first = refl;
  zero = refl;
  target = c.is_constant.ensures ∙ ap y.is_constant c.look_up-thing.ensures;
  name = refl;
  fault = subst (λ meant. IsLeast (b.NameBreaks meant c.args.name.place) c.name_fault.result) c.look_up-thing.ensures c.name_fault.ensures;
}
