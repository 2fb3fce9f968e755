use Rattle.std.proofs.Common.{length, map, subst, ap, ◌∙◌}
use Rattle.fk_syntax.specs.ProgramView.{item_of}
use Rattle.fk_types_names.specs.Outline.{items_marks}
use Rattle.fk_types_names.specs.Reading.{AreDepths}
use Rattle.fk_types_names.specs.Scoped.{AreInnermost}
use Rattle.fk_types_names.proofs.scoped.ScopedMarks.of.Goals as goal

pub returns : goal.returns
returns c = record {
  marks = c.in_ok-outline.ensures ∙ ap (λ xs. items_marks (map item_of xs)) c.deref.ensures.value;
  sound = record {
    depths = subst (λ ms. AreDepths ms c.in_ok-innermost.depths.items) c.marks.ensures c.in_ok-innermost.ensures.depths;
    innermost = subst (λ ms. AreInnermost ms c.in_ok-innermost.innermost.items (length ms)) c.marks.ensures c.in_ok-innermost.ensures.innermost;
  };
}
