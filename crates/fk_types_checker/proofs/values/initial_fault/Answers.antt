use Rattle.std.proofs.Common.{subst}
use Rattle.fk_syntax.specs.ProgramView.{declared_of}
use Rattle.fk_check_rules.specs.Least.{IsLeast, either}
use Rattle.fk_check_rules.proofs.LeastLemmas.{IsLeast-either}
use Rattle.fk_types_structs.specs.Types.{type_declared}
use Rattle.fk_types_judgments.specs.Broken.{Broken, as_value}
use Rattle.fk_types_forms.specs.Scope.{env_in}
use Rattle.fk_types_rules.specs.Pieces.{ConversionBreaks, WholeInitialBreaks}
use Rattle.fk_types_checker.proofs.values.initial_fault.Goals as goal

pub returns : goal.returns
returns c = λ term is.
    let E = env_in c.args.scope.now in
    let v = declared_of c.args.variable.now in
    let Wrong = ConversionBreaks E v.name.place (type_declared E.structs v) term in
    let wrong = subst (λ type. IsLeast (ConversionBreaks E v.name.place type term) c.conversion_fault-wrong.result) c.type_of-kind.ensures (c.conversion_fault-wrong.ensures E term is) in
    IsLeast-either (as_value E term (Broken E term)) (either Wrong (WholeInitialBreaks v)) c.as_value.result c.first_of-stored.result c.first_of.result
    (c.as_value.ensures E term is)
    (IsLeast-either Wrong (WholeInitialBreaks v) c.conversion_fault-wrong.result c.whole_fault.result c.first_of-stored.result wrong c.whole_fault.ensures c.first_of-stored.ensures)
    c.first_of.ensures
