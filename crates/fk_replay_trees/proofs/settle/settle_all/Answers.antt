use Rattle.std.proofs.Common.{◌≡◌, ℕ, ◌<◌, List, length, get_or, slice_get, refl, ap, sym, ◌∙◌, arith, vec_len}
use Rattle.std.proofs.lemmas.List.{length-set}
use Rattle.std.proofs.lemmas.Option.{slice_get_read}
use Rattle.fk_tree.specs.Tree as t
use Rattle.fk_tree.specs.View.{tree_of, processors}
use Rattle.fk_meaning.specs.Processor.{values, last}
use Rattle.fk_replay_phases.specs.declared.acting.Acting.{Acting}
use Rattle.fk_replay_phases.specs.declared.actor.Actor.{Actor}
use Rattle.fk_replay_phases.proofs.Highest.{element}
use Rattle.fk_replay_phases.proofs.Few.{few_members}
use Rattle.fk_replay_trees.specs.Changes.{has_of}
use Rattle.fk_replay_trees.proofs.Loop.{none_of}
use Rattle.fk_replay_trees.proofs.Settling.{Given, next_there, comes_more, comes_idle, settles_more, settles_idle, settles_end}
use Rattle.fk_replay_trees.proofs.settle.settle_all.Goals as goal
use Rattle.fk_replay_trees.proofs.settle.settle_all.Goals.{In-loop-member, in-Some+in_ok-settle, in_default}

abbrev nobody : Acting
nobody = record { number = 0; node = 0; lowest = 0; highest = 0 }

-- the member of a turn
abbrev member : In-loop-member → Acting
member c = get_or c.args.acting.now c.loop-member.member-index nobody

is_member : (c : In-loop-member) → member c ≡ get_or c.args.acting.now c.loop-member.member-index (member c)
is_member c = element c.args.acting.now c.loop-member.member-index nobody c.loop-member-test.true

-- it is a processor, and stands as it was given
there : (c : In-loop-member) → ((member c).number < length c.args.actors.now.items)
    × (slice_get c.loop-member.actors.items (member c).number ≡ slice_get c.args.actors.now.items (member c).number)
there c =
    next_there c.args.acting.now c.args.actors.now.items c.requires.in_round c.loop-member.member-index c.loop-member.actors.items (member c)
    (c.loop-member.invariant.1 c.requires.in_round) c.loop-member-test.true (is_member c)

-- the same, by the number of processors that are left
low : (c : In-loop-member) → (member c).number < length c.loop-member.actors.items
low c =
    let bound = (there c).0 in
    let many = (c.loop-member.invariant.1 c.requires.in_round).many in
    omega (arith, bound, many)

within : (c : In-loop-member) → (member c).number < vec_len c.loop-member.actors
within c =
    let bound = (there c).0 in
    let held = c.args.actors.now.ok.0 in
    let same = c.loop-member.invariant.0 in
    omega (arith, bound, held, same)

pub node_of-requires : goal.node_of-requires
node_of-requires c =
    let bound = (there (goal.at.node_of-requires c).In-loop-member).0 in
    let many = c.requires.many in
    omega (arith, bound, many)

pub overflow_cast-size : goal.overflow_cast-size
overflow_cast-size c =
    let tree = c.args.tree.now in
    let few = few_members (processors tree) c.node_of.result (tree_of tree) c.members.ensures.sound in
    let same = ap length c.members.ensures.members in
    let most = tree.few in
    omega (arith, few, same, most)

pub settle-requires-clause-ready : goal.settle-requires-clause-ready
settle-requires-clause-ready c =
    let inside = (goal.at.settle-requires-clause-ready c).In-loop-member in
    let here = slice_get_read c.loop-member.actors.items (length c.loop-member.actors.items) (member inside).number c.index_mut.result.now refl (low inside) c.index_mut.ensures.value in
    c.requires.ready.each (member inside).number c.index_mut.result.now (sym (there inside).1 ∙ here)

pub index-requires : goal.index-requires
index-requires c = within (goal.at.index-requires c).In-loop-member

pub last_of-highest-requires : goal.last_of-highest-requires
last_of-highest-requires c =
    let i = c.loop-member.member-index in
    let acting = c.args.acting.now in
    let x = get_or acting i nobody in
    let lt : i < length acting = c.loop-member-test.true in
    let is = element acting i nobody lt in
    let low = c.requires.high.each i x (slice_get_read acting (length acting) i x refl lt is) in
    let held = c.loop-member.actors.ok.0 in
    let same = c.loop-member.invariant.0 in
    let all = ap length c.deref.ensures.value in
    omega (arith, low, held, same, all)

pub settle-requires-clause-taken : goal.settle-requires-clause-taken
settle-requires-clause-taken c =
    let inside = (goal.at.settle-requires-clause-taken c).In-loop-member in
    let now = c.loop-member.actors.items in
    let read = slice_get_read now (length now) (member inside).number c.index.result.now refl (low inside) c.index.ensures in
    let here = slice_get_read now (length now) (member inside).number c.index_mut.result.now refl (low inside) c.index_mut.ensures.value in
    let same : c.index_mut.result.now ≡ c.index.result.now = cc in
    ap (λ (a : Actor). a.taken) same ∙ c.in-Some.is

pub loop-member-preserved : goal.loop-member-preserved
loop-member-preserved c =
    let i = c.loop-member.member-index in
    let ops = c.args.ops.now in
    let acting = c.args.acting.now in
    let actors = c.args.actors.now.items in
    let tree = tree_of c.args.tree.now in
    let now = c.loop-member.actors.items in
    let inside = (goal.at.loop-member-preserved c).In-loop-member in
    let x = member inside in
    let lt : i < length acting = c.loop-member-test.true in
    let is = is_member inside in
    let low = low inside in
    let held = c.loop-member.actors.ok.0 in
    let same = c.loop-member.invariant.0 in
    elim c.match-index.branch [
      | in-Some+in_ok-settle w ↦ rw w.actors-is
          (let to = w.settle.new.actor in
          let kept = length-set now x.number to in
          let here = slice_get_read now (length now) x.number w.index_mut.result.now refl low w.index_mut.ensures.value in
          let size = ap length w.members.ensures.members ∙ ap (λ (n : ℕ). length (t.members tree n)) w.node_of.ensures in
          let high = w.last_of-highest.ensures ∙ ap (λ (xs : List Actor). last (values (has_of xs x.highest))) w.deref.ensures.value in (
            omega (arith, held, same, kept),
            (λ in_round. comes_more acting actors in_round i now x to (c.loop-member.invariant.1 in_round) lt is),
            λ old given.
                settles_more (vec_len c.args.actors.now) ops old tree acting actors given i now x w.index_mut.result.now to _ _ (c.loop-member.invariant.2 old given) lt is here
                high size w.in_ok-settle.ensures.settled,
          ))
      | in_default w ↦ rw w.actors-is
          (let a = c.index.result.now in
          let here = slice_get_read now (length now) x.number a refl low c.index.ensures in (
            same,
            (λ in_round. comes_idle acting actors in_round i now x a (c.loop-member.invariant.1 in_round) lt is here),
            λ old given.
                settles_idle (vec_len c.args.actors.now) ops old tree acting actors given i now x a (c.loop-member.invariant.2 old given) lt is here
                (none_of a.taken w.in_default.not-Some),
          ))
    ]

pub index_mut-requires : goal.index_mut-requires
index_mut-requires c = within (goal.at.index_mut-requires c).In-loop-member

pub returns : goal.returns
returns c = record {
  settled = λ old sound at_old modes.
      let held = c.args.actors.now.ok.0 in
      let given : Given (vec_len c.args.actors.now) c.args.ops.now old (tree_of c.args.tree.now) c.args.acting.now c.args.actors.now.items = record {
        sound = sound;
        many = omega (arith, held);
        in_round = c.requires.in_round;
        at_old = at_old;
        own = c.requires.own;
        modes = modes;
      } in
      let i = c.loop-member.member-index in
      let past = c.loop-member-test.false in
      settles_end (vec_len c.args.actors.now) c.args.ops.now old (tree_of c.args.tree.now) c.args.acting.now c.args.actors.now.items given i c.loop-member.actors.items
      (c.loop-member.invariant.2 old given) (omega (arith, past));
}
