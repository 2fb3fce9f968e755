use Rattle.std.proofs.Common.{sym, ap, subst, ◌∙◌}
use Rattle.std.specs.Option.{option_map}
use Rattle.fk_syntax.specs.View.{named}
use Rattle.fk_check_rules.specs.Least.{IsLeast}
use Rattle.fk_types_judgments.specs.Typing as y
use Rattle.fk_types_judgments.specs.Broken as b
use Rattle.fk_types_forms.proofs.NameLemmas.{callee-name, callee-other, called-name}
use Rattle.fk_types_forms.proofs.forms.callee_fault.Goals as goal

pub returns-in-Some : goal.returns-in-Some
returns-in-Some c = λ env t it im.
    let n = named c.in-Some.name in
    let e = sym it.name ∙ ap (option_map named) c.in-Some.is in
    callee-name env t n _ e (subst (λ meant. IsLeast (b.CalledNameBreaks meant n.place) c.called_name_fault.result)
    (im ∙ sym (called-name env t n (y.type_of env t) e)) c.called_name_fault.ensures)

pub returns-in-None : goal.returns-in-None
returns-in-None c = λ env t it im. callee-other env t _ (sym it.name ∙ ap (option_map named) c.in-None.is) it.fault
