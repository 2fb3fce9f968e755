-- What the rest of the declarations still makes of the visitor is what all of them make of it.
use Rattle.std.proofs.Common.{◌≡◌, map, drop}
use Rattle.fk_syntax.specs.ProgramView.{declared_of}
use Rattle.fk_meaning_forms.specs.Expressions.{Coded}
use Rattle.fk_meaning_forms.specs.Statements.{all_declared}
use Rattle.fk_layout_walk.specs.Known.{tables_of, functions_of}
use Rattle.fk_layout_walk.specs.Through.{through}
use Rattle.fk_layout_walk_statements.proofs.simple.declare_all.Given as goal

abbrev pub invariant-loop-variable : goal.invariant-loop-variable
invariant-loop-variable g l = (rest : Coded) → through g.V.Visitor.after g.V.Visitor.counts (functions_of l.known) l.fn.visitor (all_declared (tables_of l.known) (functions_of l.known) (map declared_of l.variables) rest) ≡ through g.V.Visitor.after g.V.Visitor.counts (functions_of l.known) l.visitor (all_declared (tables_of l.known) (functions_of l.known) (map declared_of (drop l.variable-index l.variables)) rest)
