-- Who could act before the next round.
use Rattle.std.proofs.Common.{List, [], refl, subst}
use Rattle.fk_tree.specs.View.{tree_of}
use Rattle.fk_replay_phases.specs.Present.{numbers_of}
use Rattle.fk_replay_phases.specs.declared.acting.Acting.{Acting}
use Rattle.fk_replay_phases.specs.declared.actor.Actor.{Actor}
use Rattle.fk_replay_arrivals.specs.Arrived.{KnowsBehind}
use Rattle.fk_replay_run.proofs.Telling.{are_below, has_told}
use Rattle.fk_replay_run.proofs.run.Run.tell.Goals as goal

pub tell-requires-clause-acting : goal.tell-requires-clause-acting
tell-requires-clause-acting c =
    let old = c.args.self.now in
    rw c.deref.ensures.value (are_below c.args.ops.now old c.requires.steady (numbers_of old.acting.items) c.requires.run c.requires.knows)

pub returns : goal.returns
returns c =
    let old = c.args.self.now in
    let told = c.tell.ensures in
    has_told c.args.ops.now old c.requires.steady (numbers_of old.acting.items) c.args.next _ c.requires.knows refl told.begun told.many
    (subst (λ (acting : List Acting). KnowsBehind c.args.ops.now (tree_of old.tree) old.actors.items (numbers_of acting) [] old.pace c.tell.new.pace old.arrived.items c.tell.new.arrived.items)
    c.deref.ensures.value
    (subst (λ (actors : List Actor). KnowsBehind c.args.ops.now (tree_of old.tree) actors (numbers_of c.deref.result.now) [] old.pace c.tell.new.pace old.arrived.items c.tell.new.arrived.items)
    c.deref-2.ensures.value told.known))
