-- The marks so far, and those of what is left, are those before and those of all.
use Rattle.std.proofs.Common.{◌≡◌, ◌++◌, map, drop}
use Rattle.fk_syntax.specs.Program.{statements_of}
use Rattle.fk_syntax.specs.ProgramView.{statement_of}
use Rattle.fk_types_names.specs.Outline.{statements_marks}
use Rattle.fk_types_names.specs.OutlineView.{marks_in}
use Rattle.fk_types_names.proofs.outline.Outline.+statement.Given as goal

abbrev pub invariant-add_statements-loop-statement : goal.invariant-add_statements-loop-statement
invariant-add_statements-loop-statement l = marks_in l.into ++ statements_marks (statements_of (map statement_of (drop l.statement-index l.statements))) ≡ marks_in l.fn.into ++ statements_marks (statements_of (map statement_of l.statements))
