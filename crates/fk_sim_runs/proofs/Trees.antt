-- The tree of a state that a run has come to.
use Rattle.std.proofs.Common.{◌≡◌, ℕ, true, Option, Some, None, refl, arith}
use Rattle.std.proofs.lemmas.Bool.{false≢true}
use Rattle.fk_space.specs.Space.{IsSpace}
use Rattle.fk_tree.specs.declared.node.Kind.{Kind}
use Rattle.fk_tree.specs.declared.node.Kind.TheVariants.{Lockstep, Waiting, Asynchronous}
use Rattle.fk_tree.specs.Tree.{parent, kind, is_waiting}
use Rattle.fk_tree.specs.Sound.{awaits}
use Rattle.fk_meaning.specs.Processor.{Setting, group_space}
use Rattle.fk_sim_match.proofs.Rounds.{not_none}
use Rattle.fk_sim_runs.specs.Facts.{HasSpace, ReachedTreesHaveSpaces}

pub is_space : (setting : Setting) → HasSpace setting → IsSpace (group_space setting)
is_space setting small = record {
  header = omega arith;
  ordered = omega (arith, small);
  within = omega arith;
  shared = omega (arith, small);
}

awaits_waits : (k : Option Kind) (m : ℕ) → awaits k m ≡ true → is_waiting k ≡ true
awaits_waits None m e = absurd (false≢true e)
awaits_waits (Some Lockstep) m e = absurd (false≢true e)
awaits_waits (Some (Waiting first parts)) m e = refl
awaits_waits (Some (Asynchronous alone)) m e = absurd (false≢true e)

pub reached_trees_have_spaces : ReachedTreesHaveSpaces
reached_trees_have_spaces core nestings setting s is =
    let r = is.stands.tree.ranges in
    record {
      sound = is.stands.sound;
      spaced = record {
        header = λ g ne some. r.header g ne (not_none (s.tree.nodes g) some);
        within = λ g ne some. r.within g ne (not_none (s.tree.nodes g) some);
        waits = λ g ne some. awaits_waits (kind s.tree (parent s.tree g)) g (is.stands.sound.awaited g ne (not_none (s.tree.nodes g) some));
        nested = λ g ne some up. let n = r.nested g ne (not_none (s.tree.nodes g) some) up in record { above = n.0; below = n.1 };
        apart = λ g k ne ne' differ some some' up. r.apart g k ne ne' differ (not_none (s.tree.nodes g) some) (not_none (s.tree.nodes k) some') up;
      };
    }
