-- The members are processors.
use Rattle.std.proofs.Common.{ℕ, List, length, sym, subst, arith}
use Rattle.fk_tree.specs.Tree as t
use Rattle.fk_tree.specs.View.{tree_of, processors}
use Rattle.fk_replay_phases.specs.Present.{AreBelow}
use Rattle.fk_replay_phases.proofs.Highest.{members_below, acting_low}
use Rattle.fk_replay_phases.proofs.fits.fits_group.Goals as goal

pub all_have-requires : goal.all_have-requires
all_have-requires c = record {
  counts = subst (λ (ms : List ℕ). AreBelow (length c.args.counts.now) ms) (sym c.members.ensures.members)
      (subst (λ (n : ℕ). AreBelow n (t.members (tree_of c.args.tree.now) c.args.acting.node)) (sym c.requires.counts)
      (members_below (processors c.args.tree.now) c.args.acting.node (tree_of c.args.tree.now) c.requires.sound));
}

pub bounds-counts-acting-else-acting : goal.bounds-counts-acting-else-acting
bounds-counts-acting-else-acting c =
    let low = acting_low (processors c.args.tree.now) (tree_of c.args.tree.now) c.args.acting c.requires.sound c.requires.number c.requires.acting in
    omega arith
