use Rattle.std.proofs.Common.{◌≡◌, ◌++◌, List, false, map, length}
use Rattle.fk_syntax.specs.View.{base_of}
use Rattle.fk_syntax.specs.ProgramView.{declared_of}
use Rattle.fk_parse_declarations.specs.Grammar.{Declarator, declared}
use Rattle.fk_parse_declarations.specs.Reading.{read_member_name}
use Rattle.fk_parse_declarations.proofs.Commas.{Commas}
use Rattle.fk_parse_declarations.proofs.declaration.add_member.Given as goal

abbrev pub invariant-loop-comma : goal.invariant-loop-comma
invariant-loop-comma l = record {
  others : List Declarator;
  same : map declared_of l.members.items ≡ map declared_of l.initial.members.items ++ map (declared false (base_of l.base)) others;
  commas : Commas (read_member_name) l.initial.cursor others l.cursor;
}

abbrev pub decreases-loop-comma : goal.decreases-loop-comma
decreases-loop-comma l = length l.cursor
