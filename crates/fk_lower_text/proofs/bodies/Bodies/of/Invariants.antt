-- The blocks so far, and those of the items that are left, are those of the text.
use Rattle.std.proofs.Common.{◌≡◌, ◌+◌, ◌++◌, length, map, drop}
use Rattle.fk_syntax.specs.ProgramView.{item_of}
use Rattle.fk_meaning_forms.specs.Program.{functions_of}
use Rattle.fk_layout_walk_statements.specs.Texts.{functions_in}
use Rattle.fk_lower.specs.View.{part_of}
use Rattle.fk_lower.specs.Lowered.{AreMeasured}
use Rattle.fk_lower_text.specs.Laid.{codes_of, laid, sizes, CanBeLaid}
use Rattle.fk_lower_text.proofs.bodies.Bodies.of.Given as goal

abbrev pub invariant-loop-item : goal.invariant-loop-item
invariant-loop-item l = record {
  next : CanBeLaid l.known (length l.bodies.blocks.items) l.bodies.site (functions_of (map item_of (drop l.item-index l.known.items.now)));
  codes : codes_of l.bodies.blocks.items
      ++ laid l.known (length l.bodies.blocks.items) l.bodies.site (functions_of (map item_of (drop l.item-index l.known.items.now)))
      ≡ laid l.known 0 0 (functions_in l.known);
  sites : l.bodies.site + sizes l.known (functions_of (map item_of (drop l.item-index l.known.items.now)))
      ≡ l.initial.bodies.site + sizes l.known (functions_in l.known);
  measured : AreMeasured (map part_of l.bodies.blocks.items);
}
