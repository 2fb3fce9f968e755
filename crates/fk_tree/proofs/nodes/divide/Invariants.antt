use Rattle.std.proofs.Common.{◌≡◌, ℕ, ◌≤◌, take}
use Rattle.fk_tree.specs.Tree.{parts_by}
use Rattle.fk_tree.specs.Seen.{nodes_seen, living_seen, living_parts, divided}
use Rattle.fk_tree.proofs.nodes.divide.Given as goal

abbrev pub invariant-loop-index : goal.invariant-loop-index
invariant-loop-index l = record {
  nodes : (i : ℕ) → nodes_seen l.nodes i ≡ divided l.first l.parent l.parts (parts_by l.parts l.members l.of) (take l.index l.members) (nodes_seen l.fn.nodes) i;
  count : l.living ≡ living_parts (nodes_seen l.nodes) l.first l.parts;
  few : l.living ≤ l.index;
  living : (i : ℕ) → living_seen l.nodes i ≡ living_seen l.fn.nodes i;
}
