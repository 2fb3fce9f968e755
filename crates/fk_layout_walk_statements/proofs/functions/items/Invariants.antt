-- What the rest of the items still makes of the visitor is what all of them make of it.
use Rattle.std.proofs.Common.{◌≡◌, map, drop}
use Rattle.fk_syntax.specs.ProgramView.{item_of}
use Rattle.fk_meaning_forms.specs.Program.{functions_of}
use Rattle.fk_layout_walk_statements.specs.Texts.{through_all}
use Rattle.fk_layout_walk_statements.proofs.functions.items.Given as goal

abbrev pub invariant-loop-one : goal.invariant-loop-one
invariant-loop-one g l = through_all g.V.Visitor.after g.V.Visitor.counts l.known l.visitor (functions_of (map item_of (drop l.one-index l.list))) ≡ through_all g.V.Visitor.after g.V.Visitor.counts l.known l.fn.visitor (functions_of (map item_of l.list))
