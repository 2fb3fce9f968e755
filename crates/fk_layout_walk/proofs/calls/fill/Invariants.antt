-- What the rest of the parameters still makes of the visitor is what all of them make of it.
use Rattle.std.proofs.Common.{◌≡◌, map, drop}
use Rattle.fk_syntax.specs.ProgramView.{declared_of}
use Rattle.fk_meaning_forms.specs.Expressions.{parameters}
use Rattle.fk_layout_walk.specs.Known.{tables_of, functions_of}
use Rattle.fk_layout_walk.specs.Through.{through}
use Rattle.fk_layout_walk.proofs.calls.fill.Given as goal

abbrev pub invariant-loop-index : goal.invariant-loop-index
invariant-loop-index g l = through g.V.Visitor.after g.V.Visitor.counts (functions_of l.known) l.visitor (parameters (tables_of l.known) (functions_of l.known) l.index (map declared_of (drop l.index l.parameters))) ≡ through g.V.Visitor.after g.V.Visitor.counts (functions_of l.known) l.fn.visitor (parameters (tables_of l.known) (functions_of l.known) 0 (map declared_of l.parameters))
