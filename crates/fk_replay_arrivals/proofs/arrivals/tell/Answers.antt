-- One more comes.
use Rattle.std.proofs.Common.{ℕ, ◌∷◌, sym, subst, arith}
use Rattle.fk_tree.specs.View.{tree_of, processors}
use Rattle.fk_replay_phases.specs.Present.{numbers_of}
use Rattle.fk_replay_phases.specs.declared.acting.Acting.{Acting}
use Rattle.fk_replay_arrivals.specs.Arrived.{KnowsBehind}
use Rattle.fk_replay_arrivals.proofs.Telling.{many_numbers, number_there, number_below, comes_more}
use Rattle.fk_replay_arrivals.proofs.arrivals.tell.Goals as goal

abbrev nobody : Acting
nobody = record { number = 0; node = 0; lowest = 0; highest = 0 }

pub arrive-requires-clause-number : goal.arrive-requires-clause-number
arrive-requires-clause-number c = number_below (processors c.args.tree.now) c.args.acting.now c.loop-member.member-index nobody c.requires.acting c.loop-member-test.true

pub loop-member-preserved : goal.loop-member-preserved
loop-member-preserved c =
    let i = c.loop-member.member-index in
    let low = c.loop-member-test.true in
    let many = many_numbers c.args.acting.now in
    let is = number_there c.args.acting.now i nobody low in
    comes_more c.args.ops.now (tree_of c.args.tree.now) c.args.actors.now (numbers_of c.args.acting.now) c.args.round c.args.pace.now c.args.arrived.now.items
    i c.loop-member.pace c.arrive.new.pace c.loop-member.arrived.items c.arrive.new.arrived.items (omega (arith, low, many)) c.loop-member.invariant
    c.arrive.ensures.begun c.arrive.ensures.many
    (λ coming. subst (λ (h : ℕ). KnowsBehind c.args.ops.now (tree_of c.args.tree.now) c.args.actors.now (h ∷ coming) coming c.loop-member.pace c.arrive.new.pace c.loop-member.arrived.items c.arrive.new.arrived.items)
    (sym is) (c.arrive.ensures.known coming))
