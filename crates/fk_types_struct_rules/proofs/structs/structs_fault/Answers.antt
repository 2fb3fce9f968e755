use Rattle.fk_check_rules.specs.Least.{among}
use Rattle.fk_check_rules.proofs.LeastLemmas.{IsLeast-either}
use Rattle.fk_types_structs.specs.Whole.{structs_in}
use Rattle.fk_types_struct_rules.specs.Structs.{HoldingBreaks, StructBreaks}
use Rattle.fk_types_struct_rules.proofs.structs.structs_fault.Goals as goal

pub returns : goal.returns
returns c =
    let structs = structs_in c.args.structs.now in
    IsLeast-either (among (HoldingBreaks structs) structs) (among (StructBreaks structs) structs) c.in_ok-holding.holding c.declared_fault.result c.first_of.result
    c.in_ok-holding.ensures c.declared_fault.ensures c.first_of.ensures
