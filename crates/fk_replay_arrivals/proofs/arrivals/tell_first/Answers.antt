-- One more comes.
use Rattle.std.proofs.Common.{ℕ, ◌<◌, [], ◌∷◌, sym, subst, arith}
use Rattle.fk_tree.specs.Tree.{below}
use Rattle.fk_tree.specs.View.{tree_of, processors}
use Rattle.fk_replay_arrivals.specs.Arrived.{KnowsBehind}
use Rattle.fk_replay_arrivals.proofs.Telling.{all_at, all_many, comes_more, comes_all}
use Rattle.fk_replay_arrivals.proofs.arrivals.tell_first.Goals as goal

pub loop-number-preserved : goal.loop-number-preserved
loop-number-preserved c =
    let i = c.loop-number.number in
    let p = processors c.args.tree.now in
    let size = c.requires.actors in
    let few = c.args.tree.now.few in
    let lt : i < p = (let test = c.loop-number-test.true in omega (arith, test, size, few)) in
    let many = all_many p in
    comes_more c.args.ops.now (tree_of c.args.tree.now) c.args.actors.now (below p []) 1 c.args.pace.now c.args.arrived.now.items
    i c.loop-number.pace c.arrive.new.pace c.loop-number.arrived.items c.arrive.new.arrived.items (omega (arith, lt, many)) c.loop-number.invariant
    c.arrive.ensures.begun c.arrive.ensures.many
    (λ coming. subst (λ (h : ℕ). KnowsBehind c.args.ops.now (tree_of c.args.tree.now) c.args.actors.now (h ∷ coming) coming c.loop-number.pace c.arrive.new.pace c.loop-number.arrived.items c.arrive.new.arrived.items)
    (sym (all_at p i lt)) (c.arrive.ensures.known coming))

pub returns-clause-known : goal.returns-clause-known
returns-clause-known c =
    let p = processors c.args.tree.now in
    let size = c.requires.actors in
    let few = c.args.tree.now.few in
    let many = all_many p in
    comes_all c.args.ops.now (tree_of c.args.tree.now) c.args.actors.now (below p []) 1 c.args.pace.now c.args.arrived.now.items
    c.loop-number.number c.loop-number.pace c.loop-number.arrived.items (let test = c.loop-number-test.false in omega (arith, test, size, few, many)) c.loop-number.invariant
