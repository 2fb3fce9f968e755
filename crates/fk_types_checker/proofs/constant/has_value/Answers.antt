use Rattle.std.proofs.Common.{is_some, ap, ◌∙◌}
use Rattle.fk_types_judgments.specs.Typing.{value_in}
use Rattle.fk_types_checker.proofs.constant.has_value.Goals as goal

pub returns : goal.returns
returns c = c.is_some.ensures ∙ ap is_some (c.value.ensures ∙ ap value_in c.name.ensures.type)
