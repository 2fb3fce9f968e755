use Rattle.std.proofs.Common.{◌∷◌, ◌∙◌, ap, sym}
use Rattle.fk_syntax.specs.declared.program.Item.{Item}
use Rattle.fk_syntax.specs.ProgramView.{function_of, item_of}
use Rattle.fk_meaning_forms.specs.Program.{functions_of}
use Rattle.fk_layout_walk_statements.specs.Texts.{through_all}
use Rattle.fk_layout_walk_statements.proofs.Bodies.{shown_or_none}
use Rattle.fk_layout_walk_statements.proofs.functions.item.Goals as goal

pub returns-in-Function : goal.returns-in-Function
returns-in-Function g c = λ others.
    ap (λ (x : Item). through_all g.V.Visitor.after g.V.Visitor.counts c.args.known.now c.args.visitor.now (functions_of (item_of x ∷ others))) c.in-Function.is
    ∙ shown_or_none g.V.Visitor.after g.V.Visitor.counts c.args.known.now c.args.visitor.now (function_of c.in-Function.whole) (functions_of others)
    ∙ ap (λ s. through_all g.V.Visitor.after g.V.Visitor.counts c.args.known.now s (functions_of others)) (sym c.function.ensures)
