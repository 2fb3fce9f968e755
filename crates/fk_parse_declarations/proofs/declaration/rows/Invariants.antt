use Rattle.std.proofs.Common.{◌≡◌, List, ◌∷◌, map, length}
use Rattle.fk_syntax.specs.View.{base_of}
use Rattle.fk_syntax.specs.ProgramView.{declared_of}
use Rattle.fk_expr.specs.Reading.{inner}
use Rattle.fk_parse_declarations.specs.Grammar.{Declarator, declared}
use Rattle.fk_parse_declarations.specs.Reading.{read_variable}
use Rattle.fk_parse_declarations.specs.View.{declarator_of}
use Rattle.fk_parse_declarations.proofs.Commas.{Commas}
use Rattle.fk_parse_declarations.proofs.declaration.rows.Given as goal

abbrev pub invariant-loop-comma : goal.invariant-loop-comma
invariant-loop-comma l = record {
  others : List Declarator;
  same : map declared_of l.rows.items ≡ map (declared l.shared (base_of l.base)) (declarator_of l.fn.first ∷ others);
  commas : Commas (read_variable (inner l.left)) l.initial.cursor others l.cursor;
}

abbrev pub decreases-loop-comma : goal.decreases-loop-comma
decreases-loop-comma l = length l.cursor
