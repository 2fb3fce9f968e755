-- The steps of the tree in a round.
use Rattle.std.proofs.Common.{◌≡◌, ℕ, List, length, true, None, refl, sym, ap, ◌∙◌, subst, arith}
use Rattle.fk_tree.specs.declared.tree.Tree.{Tree}
use Rattle.fk_tree.specs.Sound.{IsSound}
use Rattle.fk_tree.specs.View.{tree_of, processors}
use Rattle.fk_meaning.specs.Round.{all_changes}
use Rattle.fk_replay_phases.specs.declared.acting.Acting.{Acting}
use Rattle.fk_replay_phases.specs.declared.actor.Actor.{Actor}
use Rattle.fk_replay_phases.specs.Actors.{actings_of}
use Rattle.fk_replay_arrivals.specs.Arrived.{HaveForgotten}
use Rattle.std.specs.Prelude.{vec_len}
use Rattle.fk_replay_phases.specs.Present.{AreBelow, AreHighBelow, present, numbers_of}
use Rattle.fk_replay_take.proofs.Served.{after_many, numbers, fit_counts, fit_actors, fit_acting, fit_modes, fit_there, all_low}
use Rattle.fk_replay_take.proofs.Finishing.{sound, fit, misfit, changes, numbers_below, settles, at_old, follow, finishes}
use Rattle.fk_replay_take.proofs.rounds.finish.Goals as goal

pub fit-requires : goal.fit-requires
fit-requires c =
    let now = c.args.run.now in
    let round = c.requires.asked.0 in
    let old = c.requires.asked.1 in
    let x = c.requires.asked.2 in
    record {
      counts = fit_counts c.args.ops.now round old now None x;
      actors = fit_actors c.args.ops.now round old now None x;
      acting = fit_acting c.args.ops.now round old now None x;
      modes = fit_modes c.args.ops.now round old now None x;
      there = fit_there c.args.ops.now round old now None x 4294967295 (all_low c.args.ops.now round old now None x 4294967295 (omega arith));
    }

pub returns-then-not-fit : goal.returns-then-not-fit
returns-then-not-fit c = λ round old x. misfit c.args.ops.now round old c.args.run.now x _ (sym c.fit.ensures ∙ c.if-not-fit.true)

pub change_all-requires : goal.change_all-requires
change_all-requires c =
    let now = c.args.run.now in
    let round = c.requires.asked.0 in
    let old = c.requires.asked.1 in
    let x = c.requires.asked.2 in
    let fits = fit c.args.ops.now round old now x true (sym c.fit.ensures ∙ c.if-not-fit.false) in
    let k = changes c.args.ops.now round old now x fits c.deref.result.now c.deref-2.result.now c.deref.ensures.value c.deref-2.ensures.value in
    record {
      few = k.few;
      sound = k.sound;
      many = k.many;
      in_round = k.in_round;
      acting = k.at;
      own = k.own;
      can = k.can;
      given = c.requires.given;
    }

pub forget_all-requires : goal.forget_all-requires
forget_all-requires c =
    let now = c.args.run.now in
    let round = c.requires.asked.0 in
    let old = c.requires.asked.1 in
    let x = c.requires.asked.2 in
    let many = ap length c.deref-4.ensures.value ∙ fit_actors c.args.ops.now round old now None x in
    let below = numbers_below c.args.ops.now round old now x c.deref-3.result.now c.deref-3.ensures.value in
    record {
      many = c.requires.arrived ∙ sym many;
      within = subst (λ (n : ℕ). AreBelow n (numbers_of c.deref-3.result.now)) (ap processors (sym x.tree) ∙ sym many) below;
    }

pub settle_all-requires : goal.settle_all-requires
settle_all-requires c =
    let now = c.args.run.now in
    let round = c.requires.asked.0 in
    let old = c.requires.asked.1 in
    let x = c.requires.asked.2 in
    let held = now.actors.ok.0 in
    let many = fit_actors c.args.ops.now round old now None x in
    let here : vec_len now.actors ≡ processors now.tree = omega (arith, held, many) in
    let s = settles c.args.ops.now round old now x c.deref-5.result.now c.deref-5.ensures.value in
    record {
      few = c.requires.few;
      many = here ∙ sym c.change_all.ensures.processors;
      in_round = s.in_round;
      high = subst (λ (n : ℕ). AreHighBelow n c.deref-5.result.now) (ap processors (sym x.tree) ∙ sym here) s.high;
      own = s.own;
      ready = s.ready;
    }

pub dismiss-requires : goal.dismiss-requires
dismiss-requires c =
    let now = c.args.run.now in
    let round = c.requires.asked.0 in
    let old = c.requires.asked.1 in
    let x = c.requires.asked.2 in
    record { numbers = ap numbers_of c.deref-6.ensures.value ∙ numbers c.args.ops.now round old now None x ∙ ap (present 0) (sym x.counts) }

pub returns : goal.returns
returns c = λ round old x.
    let ops = c.args.ops.now in
    let now = c.args.run.now in
    let tree = tree_of old.tree in
    let new = c.change_all.new.tree in
    let fits = fit ops round old now x true (sym c.fit.ensures ∙ c.if-not-fit.false) in
    let held = now.actors.ok.0 in
    let many = after_many ops round old now None x in
    let here : vec_len now.actors ≡ processors old.tree = omega (arith, held, many) in
    let changed = c.in_ok-change_all.ensures.tree ops
    ∙ ap (λ (ys : List Actor). all_changes (actings_of ops ys) (tree_of now.tree) (actings_of ops ys) (tree_of now.tree)) c.deref-2.ensures.value in
    let changed_old = changed ∙ ap (λ (t : Tree). all_changes (actings_of ops now.actors.items) (tree_of t) (actings_of ops now.actors.items) (tree_of t)) x.tree in
    finishes ops round old now x _ fits
    (record {
      setting = refl;
      store = refl;
      pace = refl;
      acting = refl;
      processors_same = c.change_all.ensures.processors;
      changed = changed;
      given = c.in_ok-change_all.ensures.given;
      forgotten = subst (λ (xs : List Acting). HaveForgotten xs now.actors.items now.arrived.items c.forget_all.new.arrived.items) c.deref-3.ensures.value
          (subst (λ (ys : List Actor). HaveForgotten c.deref-3.result.now ys now.arrived.items c.forget_all.new.arrived.items) c.deref-4.ensures.value c.forget_all.ensures);
      settled = c.in_ok-settle_all.ensures.settled tree (subst (λ (n : ℕ). IsSound n tree) (sym here) (sound ops round old now x)) (at_old ops round old now x c.deref-5.result.now c.deref-5.ensures.value)
          (follow ops round old now x fits new changed_old);
      counts = c.dismiss.ensures.counts;
    })
