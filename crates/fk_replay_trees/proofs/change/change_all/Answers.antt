use Rattle.std.proofs.Common.{◌≡◌, ◌<◌, ◌≤◌, ℕ, Some, inl, inr, length, get_or, ◌∙◌, arith}
use Rattle.fk_tree.specs.View.{tree_of, processors}
use Rattle.fk_replay_phases.specs.declared.acting.Acting.{Acting}
use Rattle.fk_replay_phases.specs.declared.actor.Actor.{Actor}
use Rattle.fk_replay_steps.specs.declared.list.Due.{Due}
use Rattle.fk_replay_phases.proofs.Highest.{element}
use Rattle.fk_replay_trees.proofs.Loop.{Given, Can, given_by, next_below, there_is, taken_at, none_at, not_lowest, can_change, changes_more, changes_idle, changes_end}
use Rattle.fk_replay_trees.proofs.change.change_all.Goals as goal
use Rattle.fk_replay_trees.proofs.change.change_all.Goals.{In-loop-member, then-member+in-Some+in_ok-change, then-member+in_default, else-member}

abbrev nobody : Acting
nobody = record { number = 0; node = 0; lowest = 0; highest = 0 }

-- the member of a turn
abbrev member : In-loop-member → Acting
member c = get_or c.args.acting.now c.loop-member.member-index nobody

given : (c : In-loop-member) → Given (processors c.args.tree.now) (tree_of c.args.tree.now) c.args.acting.now c.args.actors.now
given c =
    let r = c.requires in
    given_by (processors c.args.tree.now) (tree_of c.args.tree.now) c.args.acting.now c.args.actors.now r.few r.sound r.many r.in_round r.acting r.own r.can

is_member : (c : In-loop-member) → member c ≡ get_or c.args.acting.now c.loop-member.member-index (member c)
is_member c = element c.args.acting.now c.loop-member.member-index nobody c.loop-member-test.true

-- it is a processor, and few came before it
bound : (c : In-loop-member) → ((member c).number < length c.args.actors.now) × (c.loop-member.member-index < 1024)
bound c =
    next_below (processors c.args.tree.now) (tree_of c.args.tree.now) c.args.acting.now c.args.actors.now (given c) c.loop-member.member-index (tree_of c.loop-member.tree) (member c)
    (c.loop-member.invariant.1 (given c)) c.loop-member-test.true (is_member c)

-- it can do the operation that it took, if it is the lowest member of its node
can : (c : In-loop-member) (other : Actor) (due : Due) → (get_or c.args.actors.now (member c).number other).taken ≡ Some due → (member c).number ≡ (member c).lowest
    → Can (processors c.args.tree.now) (tree_of c.args.tree.now) c.args.acting.now c.args.actors.now (given c) (tree_of c.loop-member.tree) (member c) due.operation
can c other due taken lowest =
    let a = there_is c.args.actors.now (member c).number (bound c).0 in
    can_change (processors c.args.tree.now) (tree_of c.args.tree.now) c.args.acting.now c.args.actors.now (given c) c.loop-member.member-index (tree_of c.loop-member.tree) (member c) a.0 due
    (c.loop-member.invariant.1 (given c)) c.loop-member-test.true (is_member c) a.1
    (taken_at (processors c.args.tree.now) (tree_of c.args.tree.now) c.args.acting.now c.args.actors.now (given c) (member c).number other a.0 due a.1 taken) lowest

pub bounds-actors-member : goal.bounds-actors-member
bounds-actors-member c = (bound (goal.at.bounds-actors-member c).In-loop-member).0

pub bounds : goal.bounds
bounds c = (bound (goal.at.bounds c).In-loop-member).0

pub bounds-actors-member-in-Some-1 : goal.bounds-actors-member-in-Some-1
bounds-actors-member-in-Some-1 c = (bound (goal.at.bounds-actors-member-in-Some-1 c).In-loop-member).0

pub change-requires-clause-can : goal.change-requires-clause-can
change-requires-clause-can c = (can (goal.at.change-requires-clause-can c).In-loop-member _ c.in-Some.due c.in-Some.is c.if-member.true).can

pub change-requires-clause-lowest : goal.change-requires-clause-lowest
change-requires-clause-lowest c = (can (goal.at.change-requires-clause-lowest c).In-loop-member _ c.in-Some.due c.in-Some.is c.if-member.true).lowest_is

pub change-requires-clause-low : goal.change-requires-clause-low
change-requires-clause-low c = (can (goal.at.change-requires-clause-low c).In-loop-member _ c.in-Some.due c.in-Some.is c.if-member.true).low

pub change-requires-clause-high : goal.change-requires-clause-high
change-requires-clause-high c = (can (goal.at.change-requires-clause-high c).In-loop-member _ c.in-Some.due c.in-Some.is c.if-member.true).high

pub change-requires-clause-given : goal.change-requires-clause-given
change-requires-clause-given c =
    let inside = (goal.at.change-requires-clause-given c).In-loop-member in
    let high = (c.loop-member.invariant.1 (given inside)).high in
    let room = c.requires.given in
    let few = (bound inside).1 in
    omega (arith, high, room, few)

pub returns-clause-tree : goal.returns-clause-tree
returns-clause-tree c =
    let r = c.requires in
    let given = given_by (processors c.args.tree.now) (tree_of c.args.tree.now) c.args.acting.now c.args.actors.now r.few r.sound r.many r.in_round r.acting r.own r.can in
    let i = c.loop-member.member-index in
    let now = tree_of c.loop-member.tree in
    let at = c.loop-member.invariant.1 given in
    let past = c.loop-member-test.false in
    let within = c.loop-member.auto.member-index-end in
    let le : length c.args.acting.now ≤ i = omega (arith, past) in
    let ge : i ≤ length c.args.acting.now = omega (arith, within) in
    λ core. changes_end (processors c.args.tree.now) (tree_of c.args.tree.now) c.args.acting.now c.args.actors.now given i now at le ge core

pub returns-clause-given : goal.returns-clause-given
returns-clause-given c =
    let r = c.requires in
    let given = given_by (processors c.args.tree.now) (tree_of c.args.tree.now) c.args.acting.now c.args.actors.now r.few r.sound r.many r.in_round r.acting r.own r.can in
    let i = c.loop-member.member-index in
    let now = tree_of c.loop-member.tree in
    let at = c.loop-member.invariant.1 given in
    let high = at.high in
    let before = at.few in
    let most = at.most in
    let few = c.requires.few in
    omega (arith, high, before, most, few)

pub loop-member-preserved : goal.loop-member-preserved
loop-member-preserved c =
    let i = c.loop-member.member-index in
    let now = tree_of c.loop-member.tree in
    let x = get_or c.args.acting.now i nobody in
    let lt : i < length c.args.acting.now = c.loop-member-test.true in
    let is = element c.args.acting.now i nobody lt in
    elim c.if-member.branch [
      | then-member+in-Some+in_ok-change w ↦ rw w.tree-is (
        w.change.ensures.processors ∙ c.loop-member.invariant.0,
        λ given.
            let at = c.loop-member.invariant.1 given in
            let bound = next_below (processors c.args.tree.now) (tree_of c.args.tree.now) c.args.acting.now c.args.actors.now given i now x at lt is in
            let a = there_is c.args.actors.now x.number bound.0 in
            changes_more (processors c.args.tree.now) (tree_of c.args.tree.now) c.args.acting.now c.args.actors.now given i now (tree_of w.change.new.tree) x a.0 w.in-Some.due at lt is a.1
            (taken_at (processors c.args.tree.now) (tree_of c.args.tree.now) c.args.acting.now c.args.actors.now given x.number _ a.0 w.in-Some.due a.1 w.in-Some.is)
            w.if-member.true w.in_ok-change.ensures.tree,
      )
      | then-member+in_default w ↦ rw w.tree-is (
        c.loop-member.invariant.0,
        λ given.
            let at = c.loop-member.invariant.1 given in
            let bound = next_below (processors c.args.tree.now) (tree_of c.args.tree.now) c.args.acting.now c.args.actors.now given i now x at lt is in
            let a = there_is c.args.actors.now x.number bound.0 in
            changes_idle (processors c.args.tree.now) (tree_of c.args.tree.now) c.args.acting.now c.args.actors.now given i now x a.0 at lt is a.1
            (inl (none_at (processors c.args.tree.now) (tree_of c.args.tree.now) c.args.acting.now c.args.actors.now given x.number _ a.0 a.1 w.in_default.not-Some)),
      )
      | else-member w ↦ rw w.tree-is (
        c.loop-member.invariant.0,
        λ given.
            let at = c.loop-member.invariant.1 given in
            let bound = next_below (processors c.args.tree.now) (tree_of c.args.tree.now) c.args.acting.now c.args.actors.now given i now x at lt is in
            let a = there_is c.args.actors.now x.number bound.0 in
            changes_idle (processors c.args.tree.now) (tree_of c.args.tree.now) c.args.acting.now c.args.actors.now given i now x a.0 at lt is a.1
            (inr (not_lowest (processors c.args.tree.now) (tree_of c.args.tree.now) c.args.acting.now c.args.actors.now given i x lt is w.if-member.false)),
      )
    ]
