-- Who could act before the first round.
use Rattle.std.proofs.Common.{List, [], refl, subst}
use Rattle.fk_tree.specs.Tree.{below}
use Rattle.fk_tree.specs.View.{tree_of, processors}
use Rattle.fk_replay_phases.specs.declared.actor.Actor.{Actor}
use Rattle.fk_replay_arrivals.specs.Arrived.{KnowsBehind}
use Rattle.fk_replay_run.proofs.Telling.{knows_first, has_told}
use Rattle.fk_replay_run.proofs.run.Run.begin.Goals as goal

pub returns : goal.returns
returns c =
    let old = c.args.self.now in
    let told = c.tell_first.ensures in
    has_told c.args.ops.now old c.requires.steady (below (processors old.tree) []) 1 _
    (knows_first c.args.ops.now old c.requires.steady c.requires.run c.requires.pace c.requires.arrived) refl told.begun told.many
    (subst (λ (actors : List Actor). KnowsBehind c.args.ops.now (tree_of old.tree) actors (below (processors old.tree) []) [] old.pace c.tell_first.new.pace old.arrived.items c.tell_first.new.arrived.items)
    c.deref.ensures.value told.known)
