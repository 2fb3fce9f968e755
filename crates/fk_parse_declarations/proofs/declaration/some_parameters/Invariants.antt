use Rattle.std.proofs.Common.{◌≡◌, ◌++◌, List, map, length}
use Rattle.fk_syntax.specs.Program.{DeclaredTree}
use Rattle.fk_syntax.specs.ProgramView.{declared_of}
use Rattle.fk_parse_declarations.specs.Reading.{read_parameter}
use Rattle.fk_parse_declarations.proofs.Commas.{Commas}
use Rattle.fk_parse_declarations.proofs.declaration.some_parameters.Given as goal

abbrev pub invariant-loop-comma : goal.invariant-loop-comma
invariant-loop-comma l = record {
  others : List DeclaredTree;
  same : map declared_of l.parameters.items ≡ map declared_of l.initial.parameters.items ++ others;
  commas : Commas read_parameter l.initial.cursor others l.cursor;
}

abbrev pub decreases-loop-comma : goal.decreases-loop-comma
decreases-loop-comma l = length l.cursor
