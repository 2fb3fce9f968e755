-- The beginning and the requests of a round.
use Rattle.std.proofs.Common.{map, Option, Some, None, refl, sym, ap, ◌∙◌, subst, arith}
use Rattle.fk_tree.specs.View.{tree_of}
use Rattle.fk_meaning.specs.Round.{Round}
use Rattle.fk_replay_text.specs.View.{range_of}
use Rattle.fk_meaning_store.specs.View.{store_of}
use Rattle.fk_replay_phases.specs.declared.phases.Fault.{Fault}
use Rattle.fk_replay_phases.specs.Actors.{HaveAsked}
use Rattle.fk_replay_phases.specs.Present.{present, all_acting}
use Rattle.fk_replay_take.proofs.Asking.{begins, asks, barred, is_asked}
use Rattle.fk_replay_take.proofs.rounds.ask.Goals as goal

pub begin_all-requires : goal.begin_all-requires
begin_all-requires c =
    let old = c.args.run.now in
    let ranges = map range_of c.args.acts.now in
    let counts_are = c.deref-2.ensures.value ∙ c.in_ok-enlist.ensures.counts in
    let acting_are = c.deref.ensures.value ∙ c.in_ok-enlist.ensures.acting ∙ ap (λ (cs : Round). all_acting (tree_of old.tree) (present 0 cs)) (sym c.deref-2.ensures.value) in
    let b = begins c.args.ops.now ranges old c.requires.run c.requires.ranges c.deref.result.now c.deref-2.result.now counts_are acting_are in
    record {
      few = c.requires.few;
      many = b.many;
      counts = b.counts_few;
      numbers = b.numbers;
      untaken = c.requires.run.free;
      safe = c.requires.steady.safe;
    }

pub do_requests-requires : goal.do_requests-requires
do_requests-requires c =
    let old = c.args.run.now in
    let ranges = map range_of c.args.acts.now in
    let counts_are = c.deref-2.ensures.value ∙ c.in_ok-enlist.ensures.counts in
    let acting_are = c.deref.ensures.value ∙ c.in_ok-enlist.ensures.acting ∙ ap (λ (cs : Round). all_acting (tree_of old.tree) (present 0 cs)) (sym c.deref-2.ensures.value) in
    let a = asks c.args.ops.now ranges old c.requires.run c.requires.ranges c.deref.result.now c.deref-2.result.now c.begin_all.new.actors.items c.in_ok-can.can counts_are acting_are
    c.in_ok-can.ensures.begun c.if-not-can.false c.deref-3.result.now (c.deref-3.ensures.value ∙ sym c.deref.ensures.value) in
    let held = c.begin_all.new.actors.ok.0 in
    let many = a.many in
    record {
      few = c.requires.few;
      many = omega (arith, held, many);
      acting = a.in_round;
      own = a.own;
      can = a.can;
    }

pub returns-then-not-can : goal.returns-then-not-can
returns-then-not-can c =
    let old = c.args.run.now in
    let ranges = map range_of c.args.acts.now in
    let counts_are = c.deref-2.ensures.value ∙ c.in_ok-enlist.ensures.counts in
    let acting_are = c.deref.ensures.value ∙ c.in_ok-enlist.ensures.acting ∙ ap (λ (cs : Round). all_acting (tree_of old.tree) (present 0 cs)) (sym c.deref-2.ensures.value) in
    record {
      asked = barred c.args.ops.now ranges old c.requires.run c.requires.ranges c.deref.result.now c.deref-2.result.now c.begin_all.new.actors.items c.in_ok-can.can counts_are acting_are
          c.in_ok-can.ensures.begun c.if-not-can.true;
    }

pub returns-in-Some : goal.returns-in-Some
returns-in-Some c =
    let old = c.args.run.now in
    let ranges = map range_of c.args.acts.now in
    let counts_are = c.deref-2.ensures.value ∙ c.in_ok-enlist.ensures.counts in
    let acting_are = c.deref.ensures.value ∙ c.in_ok-enlist.ensures.acting ∙ ap (λ (cs : Round). all_acting (tree_of old.tree) (present 0 cs)) (sym c.deref-2.ensures.value) in
    record {
      asked = is_asked c.args.ops.now ranges old c.requires.run c.requires.ranges c.deref.result.now c.deref-2.result.now c.begin_all.new.actors.items c.in_ok-can.can counts_are acting_are
          c.in_ok-can.ensures.begun c.if-not-can.false c.requires.steady _ (Some c.in-Some.fault) refl refl refl refl (sym c.deref-2.ensures.value) (sym c.deref.ensures.value) c.do_requests.ensures.processors
          (subst (λ (o : Option Fault). HaveAsked c.args.ops.now (store_of old.store) (store_of c.do_requests.new.store) c.begin_all.new.actors.items c.do_requests.new.actors.items o) c.in-Some.is c.in_ok-fault.ensures.asked);
    }

pub returns-in-None : goal.returns-in-None
returns-in-None c =
    let old = c.args.run.now in
    let ranges = map range_of c.args.acts.now in
    let counts_are = c.deref-2.ensures.value ∙ c.in_ok-enlist.ensures.counts in
    let acting_are = c.deref.ensures.value ∙ c.in_ok-enlist.ensures.acting ∙ ap (λ (cs : Round). all_acting (tree_of old.tree) (present 0 cs)) (sym c.deref-2.ensures.value) in
    record {
      asked = is_asked c.args.ops.now ranges old c.requires.run c.requires.ranges c.deref.result.now c.deref-2.result.now c.begin_all.new.actors.items c.in_ok-can.can counts_are acting_are
          c.in_ok-can.ensures.begun c.if-not-can.false c.requires.steady _ None refl refl refl refl (sym c.deref-2.ensures.value) (sym c.deref.ensures.value) c.do_requests.ensures.processors
          (subst (λ (o : Option Fault). HaveAsked c.args.ops.now (store_of old.store) (store_of c.do_requests.new.store) c.begin_all.new.actors.items c.do_requests.new.actors.items o) c.in-None.is c.in_ok-fault.ensures.asked);
    }
