use Rattle.std.proofs.Common.{◌≡◌, ◌++◌, List, map, length}
use Rattle.fk_syntax.specs.Program.{DeclaredTree}
use Rattle.fk_syntax.specs.ProgramView.{declared_of}
use Rattle.fk_expr.specs.Reading.{begins_type}
use Rattle.fk_parse_combinators.proofs.Loops.{Loops}
use Rattle.fk_parse_declarations.specs.Grammar.{joined_lists}
use Rattle.fk_parse_declarations.specs.Reading.{read_member}
use Rattle.fk_parse_declarations.proofs.declaration.add_members.Given as goal

abbrev pub invariant-loop-cursor : goal.invariant-loop-cursor
invariant-loop-cursor l = record {
  lists : List (List DeclaredTree);
  same : map declared_of l.members.items ≡ map declared_of l.initial.members.items ++ joined_lists lists;
  loops : Loops begins_type read_member l.initial.cursor lists l.cursor;
}

abbrev pub decreases-loop-cursor : goal.decreases-loop-cursor
decreases-loop-cursor l = length l.cursor
