-- The members are processors.
use Rattle.std.proofs.Common.{ℕ, List, length, sym, subst, arith}
use Rattle.fk_tree.specs.Tree as t
use Rattle.fk_tree.specs.View.{tree_of, processors}
use Rattle.fk_replay_phases.specs.Present.{AreBelow}
use Rattle.fk_replay_phases.proofs.Highest.{members_below, acting_low}
use Rattle.fk_replay_phases.proofs.fits.joins_lowest.Goals as goal

pub all_join-requires : goal.all_join-requires
all_join-requires c =
    let below = members_below (processors c.args.tree.now) c.args.acting.node (tree_of c.args.tree.now) c.requires.sound in
    record {
      actors = subst (λ (ms : List ℕ). AreBelow (length c.args.actors.now) ms) (sym c.members.ensures.members)
          (subst (λ (n : ℕ). AreBelow n (t.members (tree_of c.args.tree.now) c.args.acting.node)) (sym c.requires.actors) below);
      counts = subst (λ (ms : List ℕ). AreBelow (length c.args.counts.now) ms) (sym c.members.ensures.members)
          (subst (λ (n : ℕ). AreBelow n (t.members (tree_of c.args.tree.now) c.args.acting.node)) (sym c.requires.counts) below);
    }

pub joins-requires : goal.joins-requires
joins-requires c =
    let low = acting_low (processors c.args.tree.now) (tree_of c.args.tree.now) c.args.acting c.requires.sound c.requires.number c.requires.acting in
    record { actor = omega arith; count = omega arith }
