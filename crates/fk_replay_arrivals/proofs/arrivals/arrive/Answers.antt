-- What is known when a processor has come, on each way out.
use Rattle.std.proofs.Common.{◌≡◌, ◌≢◌, length, refl, sym, ap, ◌∙◌, subst, arith, rules}
use Rattle.fk_tree.specs.Tree as t
use Rattle.fk_tree.specs.View.{tree_of, processors}
use Rattle.fk_meaning_operation.specs.declared.kinds.Joint.TheVariants.{Resuming}
use Rattle.fk_meaning.specs.Round.{joint_due}
use Rattle.fk_core.specs.Next.{next}
use Rattle.fk_replay_steps.specs.Steps.{position_of}
use Rattle.fk_replay_phases.proofs.Highest.{lowest_below}
use Rattle.fk_replay_arrivals.specs.Arrived.{HaveBegun}
use Rattle.fk_replay_arrivals.proofs.Begun.{begins_one}
use Rattle.fk_replay_arrivals.proofs.Coming.{there, joint_is, goes_on, has_ended, are_few, are_below, number_at}
use Rattle.fk_replay_arrivals.proofs.Arriving.{ended_known, itself_known, resumes_known, resumed_known, awaits_known, last_comes, one_comes}
use Rattle.fk_replay_arrivals.proofs.arrivals.arrive.Goals.{else-ready-via-then-ready+else-not-is_able, else-ready-via-else-ready}
use Rattle.fk_replay_arrivals.proofs.arrivals.arrive.Goals as goal

pub returns-in_default-clause-known : goal.returns-in_default-clause-known
returns-in_default-clause-known c = λ coming.
    let a = c.index-actors-number.result in
    let at = there c.args.actors.now (processors c.args.tree.now) c.args.number a c.requires.actors c.requires.number c.index-actors-number.is in
    ended_known c.args.ops.now (tree_of c.args.tree.now) c.args.actors.now c.args.number a at c.requires.modes (joint_due (next c.args.ops.now (position_of a.runner))) refl
    coming c.args.pace.now c.args.arrived.now.items (has_ended c.args.ops.now a c.in_default.ensures.due)

pub returns-then-waits_for_none-clause-begun : goal.returns-then-waits_for_none-clause-begun
returns-then-waits_for_none-clause-begun c =
    rw c.begin.ensures (begins_one c.args.pace.now c.args.number c.args.round (let lt = c.requires.number in let size = c.requires.pace in omega (arith, lt, size))).becomes

pub returns-then-waits_for_none-clause-known : goal.returns-then-waits_for_none-clause-known
returns-then-waits_for_none-clause-known c = λ coming.
    let a = c.index-actors-number.result in
    let at = there c.args.actors.now (processors c.args.tree.now) c.args.number a c.requires.actors c.requires.number c.index-actors-number.is in
    let joint = joint_is c.args.ops.now a c.in-Some.due c.joint_of-joint.result c.in-Some.ensures.due c.joint_of-joint.ensures in
    rw c.begin.ensures
    (itself_known c.args.ops.now (tree_of c.args.tree.now) c.args.actors.now c.args.number a at c.requires.modes c.joint_of-joint.result joint
    coming c.args.round c.args.pace.now _ c.args.arrived.now.items (goes_on c.args.ops.now a c.in-Some.due c.in-Some.ensures.due) c.if-waits_for_none.ensures
    (begins_one c.args.pace.now c.args.number c.args.round (let lt = c.requires.number in let size = c.requires.pace in omega (arith, lt, size))))

pub begin_all-requires : goal.begin_all-requires
begin_all-requires c =
    are_below (processors c.args.tree.now) c.acting_in-place.result.node (tree_of c.args.tree.now) c.members-members.result.now c.members-members.ensures.sound c.members-members.ensures.members
    (length c.args.pace.now) c.requires.pace

pub returns-then-not-is_able-clause-known : goal.returns-then-not-is_able-clause-known
returns-then-not-is_able-clause-known c = λ coming.
    let a = c.index-actors-number.result in
    let tree = tree_of c.args.tree.now in
    let h = c.args.number in
    let at = there c.args.actors.now (processors c.args.tree.now) h a c.requires.actors c.requires.number c.index-actors-number.is in
    let joint = joint_is c.args.ops.now a c.in-Some.due c.joint_of-joint.result c.in-Some.ensures.due c.joint_of-joint.ensures in
    let resumes : c.joint_of-joint.result ≡ Resuming = search (rules, c.if-eq.ensures) in
    let node = ap (λ x. x.node) c.acting_in-place.ensures in
    let members = c.members-members.ensures.members ∙ ap (t.members tree) node in
    resumes_known c.args.ops.now tree c.args.actors.now h a at c.requires.modes c.joint_of-joint.result joint
    coming c.args.round c.args.pace.now c.begin_all.new.pace c.args.arrived.now.items resumes c.if-waits_for_none.ensures (sym (ap (t.ready tree) node) ∙ sym c.if-ready.ensures)
    (subst (λ ms. HaveBegun ms c.args.round c.args.pace.now c.begin_all.new.pace) members c.begin_all.ensures)

pub returns-else-ready-clause-known : goal.returns-else-ready-clause-known
returns-else-ready-clause-known c = λ coming.
    let a = c.index-actors-number.result in
    let tree = tree_of c.args.tree.now in
    let h = c.args.number in
    let at = there c.args.actors.now (processors c.args.tree.now) h a c.requires.actors c.requires.number c.index-actors-number.is in
    let joint = joint_is c.args.ops.now a c.in-Some.due c.joint_of-joint.result c.in-Some.ensures.due c.joint_of-joint.ensures in
    let resumes : c.joint_of-joint.result ≡ Resuming = search (rules, c.if-eq.ensures) in
    let node = ap (λ x. x.node) c.acting_in-place.ensures in
    elim c.else-ready.branch [
      | else-ready-via-then-ready+else-not-is_able w ↦ resumed_known c.args.ops.now tree c.args.actors.now h a at c.requires.modes c.joint_of-joint.result joint
          coming c.args.pace.now c.args.arrived.now.items resumes c.if-waits_for_none.ensures (sym w.if-not-is_able.ensures)
      | else-ready-via-else-ready w ↦ awaits_known c.args.ops.now tree c.args.actors.now h a at c.requires.modes c.joint_of-joint.result joint
          coming c.args.pace.now c.args.arrived.now.items resumes c.if-waits_for_none.ensures (sym (ap (t.ready tree) node) ∙ sym w.if-ready.ensures)
    ]

pub index_mut-requires : goal.index_mut-requires
index_mut-requires c =
    let low = lowest_below (processors c.args.tree.now) c.args.number (tree_of c.args.tree.now) c.members-members.ensures.sound c.requires.number in
    let is = ap (λ x. x.lowest) c.acting_in-place.ensures in
    let size = c.requires.arrived in
    let held = c.args.arrived.now.ok.0 in
    omega (arith, low, is, size, held)

pub begin_all-requires-then-come-members : goal.begin_all-requires-then-come-members
begin_all-requires-then-come-members c =
    are_below (processors c.args.tree.now) c.acting_in-place.result.node (tree_of c.args.tree.now) c.members-members.result.now c.members-members.ensures.sound c.members-members.ensures.members
    (length c.args.pace.now) c.requires.pace

pub returns-then-come-members-clause-known : goal.returns-then-come-members-clause-known
returns-then-come-members-clause-known c = λ coming.
    let a = c.index-actors-number.result in
    let tree = tree_of c.args.tree.now in
    let p = processors c.args.tree.now in
    let h = c.args.number in
    let sound = c.members-members.ensures.sound in
    let at = there c.args.actors.now p h a c.requires.actors c.requires.number c.index-actors-number.is in
    let joint = joint_is c.args.ops.now a c.in-Some.due c.joint_of-joint.result c.in-Some.ensures.due c.joint_of-joint.ensures in
    let other : c.joint_of-joint.result ≢ Resuming = search (rules, c.if-eq.ensures) in
    let node = ap (λ x. x.node) c.acting_in-place.ensures in
    let lowest = ap (λ x. x.lowest) c.acting_in-place.ensures in
    let members = c.members-members.ensures.members ∙ ap (t.members tree) node in
    rw lowest
    (last_comes c.args.ops.now tree c.args.actors.now h a at c.requires.modes c.joint_of-joint.result joint
    c.args.arrived.now.items c.index_mut.result.now c.one_more-come.new.arrived c.one_more-come.result
    (number_at c.args.arrived.now.items p h tree c.acting_in-place.result.lowest c.index_mut.result.now sound c.requires.number c.requires.arrived lowest c.index_mut.ensures.value)
    c.one_more-come.ensures other c.if-waits_for_none.ensures (are_few p (tree.places h) tree sound c.args.tree.now.few)
    coming c.args.round c.args.pace.now c.begin_all-then-come-members.new.pace (c.if-come-members.true ∙ ap length members)
    (subst (λ ms. HaveBegun ms c.args.round c.args.pace.now c.begin_all-then-come-members.new.pace) members c.begin_all-then-come-members.ensures))

pub returns-else-come-members-clause-known : goal.returns-else-come-members-clause-known
returns-else-come-members-clause-known c = λ coming.
    let a = c.index-actors-number.result in
    let tree = tree_of c.args.tree.now in
    let p = processors c.args.tree.now in
    let h = c.args.number in
    let sound = c.members-members.ensures.sound in
    let at = there c.args.actors.now p h a c.requires.actors c.requires.number c.index-actors-number.is in
    let joint = joint_is c.args.ops.now a c.in-Some.due c.joint_of-joint.result c.in-Some.ensures.due c.joint_of-joint.ensures in
    let other : c.joint_of-joint.result ≢ Resuming = search (rules, c.if-eq.ensures) in
    let node = ap (λ x. x.node) c.acting_in-place.ensures in
    let lowest = ap (λ x. x.lowest) c.acting_in-place.ensures in
    let members = c.members-members.ensures.members ∙ ap (t.members tree) node in
    rw lowest
    (one_comes c.args.ops.now tree c.args.actors.now h a at c.requires.modes c.joint_of-joint.result joint
    c.args.arrived.now.items c.index_mut.result.now c.one_more-come.new.arrived c.one_more-come.result
    (number_at c.args.arrived.now.items p h tree c.acting_in-place.result.lowest c.index_mut.result.now sound c.requires.number c.requires.arrived lowest c.index_mut.ensures.value)
    c.one_more-come.ensures other c.if-waits_for_none.ensures (are_few p (tree.places h) tree sound c.args.tree.now.few)
    coming c.args.pace.now (λ e. c.if-come-members.false (e ∙ sym (ap length members))))
