use Rattle.std.proofs.Common.{map}
use Rattle.fk_syntax.specs.ProgramView.{item_of}
use Rattle.fk_check_rules.specs.declared.rule.Rule.TheVariants as r
use Rattle.fk_check_rules.specs.Least.{among}
use Rattle.fk_check_rules.specs.Told.{told}
use Rattle.fk_check_rules.proofs.LeastLemmas.{IsLeast-either}
use Rattle.fk_check_rules.proofs.ToldLemmas.{told_where}
use Rattle.fk_types_name_rules.specs.Headers.{HasNoMain}
use Rattle.fk_types_name_rules.specs.Found.{ItemBreaks}
use Rattle.fk_types_name_rules.proofs.check.known_fault.Goals as goal

pub returns : goal.returns
returns c =
    let items = map item_of c.args.items.now in
    let main = told_where r.NoMain c.args.end c.has_no_main.result (HasNoMain items) c.has_no_main.ensures c.fault_if-main.result c.fault_if-main.ensures in
    IsLeast-either (told r.NoMain c.args.end (HasNoMain items)) (among (ItemBreaks items) items) c.fault_if-main.result c.headers_fault.result c.first_of.result main c.headers_fault.ensures c.first_of.ensures
