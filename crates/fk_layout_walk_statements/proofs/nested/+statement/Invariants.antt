-- What the rest of the statements still makes of the visitor is what all of them make of it.
use Rattle.std.proofs.Common.{◌≡◌, map, drop}
use Rattle.fk_syntax.specs.Program.{statements_of}
use Rattle.fk_syntax.specs.ProgramView.{statement_of}
use Rattle.fk_meaning_forms.specs.Expressions.{Coded}
use Rattle.fk_meaning_forms.specs.Statements.{all_executed}
use Rattle.fk_layout_walk.specs.Known.{tables_of, functions_of}
use Rattle.fk_layout_walk.specs.Through.{through}
use Rattle.fk_layout_walk_statements.specs.Inside.{inside_of}
use Rattle.fk_layout_walk_statements.proofs.nested.+statement.Given as goal

abbrev pub invariant-statements-loop-one : goal.invariant-statements-loop-one
invariant-statements-loop-one g l = (rest : Coded) → through g.V.Visitor.after g.V.Visitor.counts (functions_of l.known) l.fn.visitor (all_executed (tables_of l.known) (functions_of l.known) (inside_of l.inside) (statements_of (map statement_of l.list)) rest) ≡ through g.V.Visitor.after g.V.Visitor.counts (functions_of l.known) l.visitor (all_executed (tables_of l.known) (functions_of l.known) (inside_of l.inside) (statements_of (map statement_of (drop l.one-index l.list))) rest)
