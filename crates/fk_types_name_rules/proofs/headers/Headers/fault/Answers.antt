use Rattle.std.proofs.Common.{map, sym, subst}
use Rattle.fk_syntax.specs.ProgramView.{function_of, item_of}
use Rattle.fk_check_rules.specs.declared.rule.Rule.TheVariants as r
use Rattle.fk_check_rules.specs.Least.{IsLeast}
use Rattle.fk_check_rules.specs.Told.{told}
use Rattle.fk_check_rules.proofs.LeastLemmas.{IsLeast-either}
use Rattle.fk_check_rules.proofs.ToldLemmas.{told_where}
use Rattle.fk_types_name_rules.specs.Headers.{IsWrongHeader, IsWrongMain}
use Rattle.fk_types_name_rules.specs.Found.{ItemBreaks}
use Rattle.fk_types_name_rules.proofs.headers.Headers.fault.Goals as goal

pub returns-in-Function : goal.returns-in-Function
returns-in-Function c =
    let items = map item_of c.args.items.now in
    let f = function_of c.in-Function.function in
    let here = f.name.place in
    subst (λ x. IsLeast (ItemBreaks items c.args.at (item_of x)) c.first_of.result) (sym c.in-Function.is)
    (IsLeast-either (told r.HeadersDiffer here (IsWrongHeader items c.args.at f)) (told r.NoMain here (IsWrongMain f))
    c.fault_if.result c.fault_if-in-Function.result c.first_of.result
    (told_where r.HeadersDiffer here c.is_wrong-wrong.result (IsWrongHeader items c.args.at f) c.is_wrong-wrong.ensures c.fault_if.result c.fault_if.ensures)
    (told_where r.NoMain here c.is_wrong_main-main.result (IsWrongMain f) c.is_wrong_main-main.ensures c.fault_if-in-Function.result c.fault_if-in-Function.ensures)
    c.first_of.ensures)
