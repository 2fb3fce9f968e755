use Rattle.std.proofs.Common.{◌≡◌, ◌+◌, ◌<◌, arith, refl, sym, ap, ◌∙◌}
use Rattle.fk_tree.specs.Seen.{nodes_seen, living_parts}
use Rattle.fk_tree.proofs.Divide.{none_yet, skips, joins, joined_count, none_living, one_if, byte_is, one_if_small}
use Rattle.fk_tree.proofs.nodes.divide.Goals as goal
use Rattle.fk_tree.proofs.nodes.divide.Goals.{then-part-parts+in_ok-made, else-part-parts}

pub loop-index-init : goal.loop-index-init
loop-index-init c = record {
  nodes = none_yet c.args.first c.args.parent c.args.parts c.args.members.now c.args.of.now (nodes_seen c.args.nodes.now) c.requires.ascending c.requires.length c.requires.fresh;
  count = none_living (nodes_seen c.args.nodes.now) c.args.first c.args.parts c.requires.fresh;
  few = omega arith;
  living = λ i. refl;
}

pub loop-index-preserved : goal.loop-index-preserved
loop-index-preserved c =
    elim c.if-part-parts.branch [
      | then-part-parts+in_ok-made w ↦ rw (w.nodes-is, w.living-is)
          (let part = w.from.result in
          let in_part : part < c.args.parts = omega (arith, w.from.ensures, w.if-part-parts.true) in
          let now = nodes_seen c.loop-index.nodes in
          let next = nodes_seen w.join.new.nodes in
          let one : w.from-living.result ≡ one_if w.in_ok-made.made = w.from-living.ensures ∙ byte_is w.in_ok-made.made in
          let made = one ∙ ap one_if w.in_ok-made.ensures.made in
          let count : living_parts next c.args.first c.args.parts ≡ w.from-living.result + living_parts now c.args.first c.args.parts =
          joined_count c.args.first c.args.parts c.args.parent _ (c.args.first + part) now next (omega arith) (omega arith) w.in_ok-made.ensures.nodes
          ∙ ap (λ n. n + living_parts now c.args.first c.args.parts) (sym made) in
          record {
            nodes = joins c.args.first c.args.parent c.args.parts c.args.members.now c.args.of.now (nodes_seen c.args.nodes.now) c.requires.ascending c.requires.length
                c.loop-index.index part c.loop-index-test.true w.from.ensures in_part now next c.loop-index.invariant.nodes w.in_ok-made.ensures.nodes;
            count = omega (arith, count, c.loop-index.invariant.count);
            few = let small = one_if_small w.in_ok-made.made in omega (arith, one, small, c.loop-index.invariant.few);
            living = λ i. w.in_ok-made.ensures.living i ∙ c.loop-index.invariant.living i;
          })
      | else-part-parts w ↦ rw (w.nodes-is, w.living-is)
          (record {
            nodes = λ i. c.loop-index.invariant.nodes i
                ∙ skips c.args.first c.args.parent c.args.parts c.args.members.now c.args.of.now (nodes_seen c.args.nodes.now) c.requires.ascending c.requires.length
                c.loop-index.index c.loop-index-test.true w.if-part-parts.false i;
            count = c.loop-index.invariant.count;
            few = omega (arith, c.loop-index.invariant.few);
            living = c.loop-index.invariant.living;
          })
    ]
