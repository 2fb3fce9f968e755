use Rattle.std.proofs.Common.{None, subst}
use Rattle.fk_syntax.specs.View.{type_of}
use Rattle.fk_check_rules.specs.declared.rule.Rule.TheVariants as rules
use Rattle.fk_check_rules.specs.Least.{IsLeast, only, either}
use Rattle.fk_check_rules.proofs.LeastLemmas.{IsLeast-either}
use Rattle.fk_check_rules.proofs.ToldLemmas.{told_where}
use Rattle.fk_types_structs.specs.Types.{type_spelled}
use Rattle.fk_types_struct_rules.specs.Declarations.{At, IsVoid}
use Rattle.fk_types_judgments.specs.Term.{term_of}
use Rattle.fk_types_judgments.specs.Broken.{Broken, as_value}
use Rattle.fk_types_forms.specs.Scope.{env_in}
use Rattle.fk_types_rules.specs.Pieces.{ConversionBreaks}
use Rattle.fk_types_checker.proofs.values.given_fault.Goals as goal

pub returns : goal.returns
returns c = λ value is.
    let E = env_in c.args.scope.now in
    let gives = type_of c.args.gives.now in
    let here = c.args.spot.place in
    let term = term_of value in
    let Wrong = ConversionBreaks E here (type_spelled E.structs gives None) term in
    let Unwanted = only rules.WrongReturn (At here (IsVoid gives)) in
    let wrong = subst (λ type. IsLeast (ConversionBreaks E here type term) c.conversion_fault-wrong.result) c.type_of-kind.ensures (c.conversion_fault-wrong.ensures E term is) in
    let unwanted = told_where rules.WrongReturn here c.is_void.result (IsVoid gives) c.is_void.ensures c.fault_if-unwanted.result c.fault_if-unwanted.ensures in
    IsLeast-either (as_value E term (Broken E term)) (either Wrong Unwanted) c.as_value.result c.first_of-given.result c.first_of.result
    (c.as_value.ensures E term is)
    (IsLeast-either Wrong Unwanted c.conversion_fault-wrong.result c.fault_if-unwanted.result c.first_of-given.result wrong unwanted c.first_of-given.ensures)
    c.first_of.ensures
