-- What the rest of the list still makes of the visitor is what the whole list makes of it.
use Rattle.std.proofs.Common.{◌≡◌, map, drop, fold}
use Rattle.fk_syntax.specs.ProgramView.{item_of, program_of}
use Rattle.fk_syntax.specs.Nodes.{items_indices}
use Rattle.fk_syntax_well_formed.proofs.walk.visit_program.Given as goal

abbrev pub invariant-loop-item : goal.invariant-loop-item
invariant-loop-item g l = fold g.V.Visitor.after l.visitor (items_indices (map item_of (drop l.item-index l.program.items.items))) ≡ fold g.V.Visitor.after l.fn.visitor (items_indices (program_of l.program).items)
