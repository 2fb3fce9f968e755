use Rattle.std.proofs.Common.{sym, ◌∙◌}
use Rattle.fk_types_forms.specs.Scope.{meant_of}
use Rattle.fk_types_forms.proofs.NameLemmas.{function-so}
use Rattle.fk_types_forms.proofs.names.Thing.is_called.Goals as goal

pub returns-else-is_main : goal.returns-else-is_main
returns-else-is_main c = c.is_function.ensures ∙ function-so (meant_of c.args.self.now) (sym c.is_main.ensures ∙ c.if-is_main.false)
