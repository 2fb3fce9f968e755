use Rattle.std.proofs.Common.{not}
use Rattle.std.proofs.lemmas.Bool.Decides.{Decides-not}
use Rattle.fk_syntax.specs.View.{type_of}
use Rattle.fk_check_rules.specs.declared.rule.Rule.TheVariants as rules
use Rattle.fk_check_rules.proofs.ToldLemmas.{told_where}
use Rattle.fk_types_struct_rules.specs.Declarations.{IsVoid}
use Rattle.fk_types_checker.proofs.values.lacking_fault.Goals as goal

pub returns : goal.returns
returns c = λ env.
    let Void = IsVoid (type_of c.args.gives.now) in
    told_where rules.WrongReturn c.args.spot.place (not c.is_void.result) (¬ Void) (Decides-not {P = Void} c.is_void.result c.is_void.ensures) c.fault_if.result c.fault_if.ensures
