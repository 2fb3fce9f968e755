use Rattle.std.proofs.Common.{◌⊎◌}
use Rattle.fk_syntax.specs.ProgramView.{declared_of}
use Rattle.fk_check_rules.specs.declared.rule.Rule.TheVariants as rules
use Rattle.fk_check_rules.specs.Least.{only, either}
use Rattle.fk_check_rules.proofs.LeastLemmas.{IsLeast-either}
use Rattle.fk_types_structs.specs.Whole.{structs_in}
use Rattle.fk_types_struct_rules.specs.Declarations.{NamesNoStruct, IsVoid, HasWrongLength, HasLargeType, At}
use Rattle.fk_types_struct_rules.proofs.declarations.declaration_fault.Goals as goal

pub returns : goal.returns
returns c =
    let structs = structs_in c.args.structs.now in
    let declared = declared_of c.args.declared.now in
    let P = only rules.NoVariable (At declared.name.place (IsVoid declared.kind)) in
    let Q = only rules.WrongSize (At declared.name.place (HasWrongLength declared ⊎ HasLargeType structs declared)) in
    IsLeast-either (only rules.NoStruct (NamesNoStruct structs declared.kind)) (either P Q) c.no_struct.result c.first_of-later.result c.first_of.result
    c.no_struct.ensures (IsLeast-either P Q c.void.result c.wrong_size-size.result c.first_of-later.result c.void.ensures c.wrong_size-size.ensures c.first_of-later.ensures) c.first_of.ensures
