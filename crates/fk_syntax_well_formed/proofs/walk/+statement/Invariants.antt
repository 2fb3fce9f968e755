-- What the rest of the list still makes of the visitor is what the whole list makes of it.
use Rattle.std.proofs.Common.{◌≡◌, map, drop, fold}
use Rattle.fk_syntax.specs.Program.{statements_of}
use Rattle.fk_syntax.specs.ProgramView.{statement_of}
use Rattle.fk_syntax.specs.Nodes.{statements_indices}
use Rattle.fk_syntax_well_formed.proofs.walk.+statement.Given as goal

abbrev pub invariant-visit_statements-loop-statement : goal.invariant-visit_statements-loop-statement
invariant-visit_statements-loop-statement g l = fold g.V.Visitor.after l.visitor (statements_indices (statements_of (map statement_of (drop l.statement-index l.statements)))) ≡ fold g.V.Visitor.after l.fn.visitor (statements_indices (statements_of (map statement_of l.statements)))
