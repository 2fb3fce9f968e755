-- What the rest of the list still makes of the visitor is what the whole list makes of it.
use Rattle.std.proofs.Common.{◌≡◌, map, drop, fold}
use Rattle.fk_syntax.specs.ProgramView.{declared_of}
use Rattle.fk_syntax.specs.Nodes.{declarations_indices}
use Rattle.fk_syntax_well_formed.proofs.walk.visit_declarations.Given as goal

abbrev pub invariant-loop-declared : goal.invariant-loop-declared
invariant-loop-declared g l = fold g.V.Visitor.after l.visitor (declarations_indices (map declared_of (drop l.declared-index l.declarations))) ≡ fold g.V.Visitor.after l.fn.visitor (declarations_indices (map declared_of l.declarations))
