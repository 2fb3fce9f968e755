-- Empty blocks behind those that there were.
use Rattle.std.proofs.Common.{◌≡◌, ◌-◌, ◌≤◌, ◌++◌, length, map, replicate}
use Rattle.fk_meaning_forms.specs.Code.{done}
use Rattle.fk_lower.specs.View.{part_of}
use Rattle.fk_lower.specs.Lowered.{AreMeasured}
use Rattle.fk_lower_text.specs.Laid.{codes_of}
use Rattle.fk_lower_text.proofs.bodies.Bodies.reach.Given as goal

abbrev pub invariant-loop-self : goal.invariant-loop-self
invariant-loop-self l = record {
  count : length l.fn.self.blocks.items ≤ length l.self.blocks.items;
  up : length l.self.blocks.items ≤ l.binding;
  codes : codes_of l.self.blocks.items ≡ codes_of l.fn.self.blocks.items ++ replicate (length l.self.blocks.items - length l.fn.self.blocks.items) done;
  site : l.self.site ≡ l.fn.self.site;
  measured : AreMeasured (map part_of l.self.blocks.items);
}

abbrev pub decreases-loop-self : goal.decreases-loop-self
decreases-loop-self l = l.binding - length l.self.blocks.items
