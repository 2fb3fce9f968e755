use Rattle.fk_syntax.specs.ProgramView.{program_of}
use Rattle.fk_check_rules.proofs.LeastLemmas.{IsLeast-either}
use Rattle.fk_types_structs.specs.Whole.{structs_in}
use Rattle.fk_types_struct_rules.specs.Structs.{StructsBreak}
use Rattle.fk_types_name_rules.specs.Broken.{NamesBreak}
use Rattle.fk_types_checker.proofs.check.declared_fault.Goals as goal

pub returns : goal.returns
returns c = IsLeast-either (StructsBreak (structs_in c.args.structs.now)) (NamesBreak (program_of c.args.program.now)) c.in_ok-held.held c.in_ok-named.named c.first_of.result
    c.in_ok-held.ensures c.in_ok-named.ensures c.first_of.ensures
