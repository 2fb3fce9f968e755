-- What a round makes of a run in memory.
use Rattle.std.proofs.Common.{◌≡◌, ℕ, ◌+◌, ◌<◌, ◌≤◌, ◌^◌, true, false, List, length, Some, None, ap, refl, sym, ◌∙◌, subst, arith}
use Rattle.std.specs.Prelude.{slice_index, vec_len}
use Rattle.fk_tree.specs.Tree.{Tree}
use Rattle.fk_tree.specs.View.{tree_of, processors}
use Rattle.fk_meaning_store.specs.Store.{Store}
use Rattle.fk_meaning_store.specs.View.{store_of, processors_of}
use Rattle.fk_meaning_state.specs.View.{setting_of}
use Rattle.fk_meaning.specs.Round as rounds
use Rattle.fk_meaning.specs.Round.{Runner, State, Round, Fault, all_changes, settled, tree_phase, result, all_fit, begin_all, is_possible, IsStopped}
use Rattle.fk_core.specs.declared.op.CoreOp.{CoreOp}
use Rattle.fk_core.specs.Next.{Position, next}
use Rattle.fk_replay_rounds.specs.Own.{AreOwn}
use Rattle.fk_replay_rounds.proofs.Own.{keep}
use Rattle.fk_replay_rounds.specs.Fits.{all_fit_below}
use Rattle.fk_replay_rounds.specs.Stops.{StopsTell}
use Rattle.fk_replay_phases.specs.declared.phases.Fault as code
use Rattle.fk_replay_phases.specs.declared.actor.Actor.{Actor}
use Rattle.fk_replay_phases.specs.Present.{AreNone, present, numbers_of}
use Rattle.fk_replay_phases.specs.Actors.{actings_of, runners_of, fault_of}
use Rattle.fk_replay_phases.specs.Joints.{joint_at}
use Rattle.fk_replay_trees.specs.Settled.{HaveSettled}
use Rattle.fk_replay_run.specs.declared.run.Run.{Run}
use Rattle.fk_replay_run.specs.Steady.{IsSteady}
use Rattle.fk_replay_take.specs.Asked.{AreServed}
use Rattle.fk_replay_run.specs.Runs.{state_of, IsRun}
use Rattle.fk_replay_take.specs.Taken.{HasForgotten, IsDone, IsStoppedBy, IsNeither}
use Rattle.fk_replay_take.proofs.Composed.{result_is, joints_up_to, is_it_possible, not_begun, not_fitting, not_stopping}

abbrev made : Store → Tree → List (Runner Position) → State Position
made st tree rs = record { store = st; tree = tree; runners = rs; fault = None }

state_is : (a b : Store) (m n : Tree) (rs qs : List (Runner Position)) → a ≡ b → m ≡ n → rs ≡ qs
    → ◌≡◌ {A = State Position} (record { store = a; tree = m; runners = rs; fault = None }) (record { store = b; tree = n; runners = qs; fault = None })
state_is a b m n rs qs e f g =
    ap (λ (x : Store). made x m rs) e ∙ ap (λ (x : Tree). made b x rs) f ∙ ap (λ (x : List (Runner Position)). made b n x) g

module _ (core : List CoreOp) (round : Round) (old : Run) where
  pub record Sizes (new : Run) : Type 0 where
    pub same : new.setting ≡ old.setting
    pub store : processors_of new.store ≡ processors_of old.store
    pub tree : processors new.tree ≡ processors old.tree
    pub actors : vec_len new.actors ≡ vec_len old.actors
    pub counts : AreNone (processors old.tree) new.counts.items
    pub pace : new.pace ≡ old.pace
    pub numbers : numbers_of new.acting.items ≡ present 0 round
    pub given : (tree_of new.tree).given ≤ (tree_of old.tree).given + 2 ^ 28
    pub arrived : HasForgotten core round old new

  pub is_done : (new : Run) (after : List Actor) → IsRun old → IsSteady core (setting_of old.setting) (state_of old)
      → AreServed core (setting_of old.setting) round (state_of old) after (store_of new.store) None
      → all_fit round (rounds.joint_at (begin_all (next core) (setting_of old.setting) round (runners_of old.actors.items))) (tree_of old.tree) 0 round ≡ true
      → tree_of new.tree ≡ all_changes (actings_of core after) (tree_of old.tree) (actings_of core after) (tree_of old.tree)
      → HaveSettled core (tree_of old.tree) (tree_of new.tree) after new.actors.items → Sizes new → IsDone core round old new
  is_done new after run steady asks fit changed settles sizes = record {
    possible = is_it_possible core (setting_of old.setting) round (state_of old) refl asks.may fit (ap (λ (x : State Position). x.fault) is);
    state = state;
    run = record {
      few = let e = sizes.tree in let f = run.few in omega arith;
      setting = ap (λ x. x.processors) sizes.same ∙ run.setting ∙ sym sizes.tree;
      store = sizes.store ∙ run.store ∙ sym sizes.tree;
      actors = sizes.actors ∙ run.actors ∙ sym sizes.tree;
      counts = subst (λ (n : ℕ). AreNone n new.counts.items) (sym sizes.tree) sizes.counts;
      free = settles.free;
      modes = settles.modes;
      own = subst (λ (x : State Position). AreOwn x.runners) (sym state) (keep (next core) (setting_of old.setting) round (state_of old) run.own).after;
    };
    same = sizes.same;
    tree = sizes.tree;
    pace = sizes.pace;
    numbers = sizes.numbers;
    given = sizes.given;
    arrived = sizes.arrived;
  }
    where
      is : result (next core) (setting_of old.setting) round (state_of old) ≡ tree_phase (tree_of old.tree) (store_of new.store) (actings_of core after) None
      is = result_is core (setting_of old.setting) round (state_of old) after (store_of new.store) None asks

      state : state_of new ≡ result (next core) (setting_of old.setting) round (state_of old)
      state = state_is (store_of new.store) (store_of new.store) (tree_of new.tree) (all_changes (actings_of core after) (tree_of old.tree) (actings_of core after) (tree_of old.tree)) (runners_of new.actors.items)
          (settled (actings_of core after) (tree_of old.tree) (all_changes (actings_of core after) (tree_of old.tree) (actings_of core after) (tree_of old.tree)) (actings_of core after)) refl changed
          (settles.runners ∙ ap (λ (n : Tree). settled (actings_of core after) (tree_of old.tree) n (actings_of core after)) changed) ∙ sym is

  -- the fault of the round
  fault_is : (after : List Actor) (store : Store) (fault : code.Fault) → AreServed core (setting_of old.setting) round (state_of old) after store (Some fault)
      → (result (next core) (setting_of old.setting) round (state_of old)).fault ≡ Some (fault_of core fault)
  fault_is after store fault asks = ap (λ (x : State Position). x.fault) (result_is core (setting_of old.setting) round (state_of old) after store (Some fault) asks)

  pub is_stopped : (new : Run) (after : List Actor) (fault : code.Fault) → IsSteady core (setting_of old.setting) (state_of old) → length round ≡ length (runners_of old.actors.items)
      → AreServed core (setting_of old.setting) round (state_of old) after (store_of new.store) (Some fault) → ((h : ℕ) → fault.processor < h → slice_index round h ≡ 0)
      → all_fit_below round fault.processor (joint_at core after fault.processor) (tree_of old.tree) 0 round ≡ true
      → StopsTell (next core) (setting_of old.setting) round (state_of old) → new.pace ≡ old.pace → numbers_of new.acting.items ≡ present 0 round → IsStoppedBy core round old new fault
  is_stopped new after fault steady many asks last fits tells pace numbers = record {
    stopped = tells.there (fault_of core fault) (record {
      may = asks.may;
      faults = fault_is after (store_of new.store) fault asks;
      last = last;
      fits = ap (λ j. all_fit_below round fault.processor j (tree_of old.tree) 0 round) (sym (joints_up_to core (setting_of old.setting) round (state_of old) after (store_of new.store) (Some fault) asks many fault.processor last)) ∙ fits;
    });
    fault = fault_is after (store_of new.store) fault asks;
    store = sym (ap (λ (x : State Position). x.store) (result_is core (setting_of old.setting) round (state_of old) after (store_of new.store) (Some fault) asks));
    pace = pace;
    numbers = numbers;
  }

  pub is_neither_begun : (new : Run) → rounds.all_may_act (next core) (setting_of old.setting) round (runners_of old.actors.items) ≡ false → StopsTell (next core) (setting_of old.setting) round (state_of old) → IsNeither core round old new
  is_neither_begun new cannot tells =
      let both = not_begun core (setting_of old.setting) round (state_of old) cannot in
      record { impossible = both.0; going_on = both.1 tells }

  pub is_neither_fitting : (new : Run) (after : List Actor) (store : Store) → AreServed core (setting_of old.setting) round (state_of old) after store None
      → all_fit round (rounds.joint_at (begin_all (next core) (setting_of old.setting) round (runners_of old.actors.items))) (tree_of old.tree) 0 round ≡ false
      → StopsTell (next core) (setting_of old.setting) round (state_of old) → IsNeither core round old new
  is_neither_fitting new after store asks misfit tells =
      let both = not_fitting core (setting_of old.setting) round (state_of old) misfit (ap (λ (x : State Position). x.fault) (result_is core (setting_of old.setting) round (state_of old) after store None asks)) in
      record { impossible = both.0; going_on = both.1 tells }

  pub is_neither_stopping : (new : Run) (after : List Actor) (store : Store) (fault : code.Fault) → length round ≡ length (runners_of old.actors.items) → AreServed core (setting_of old.setting) round (state_of old) after store (Some fault)
      → (((h : ℕ) → fault.processor < h → slice_index round h ≡ 0) → all_fit_below round fault.processor (joint_at core after fault.processor) (tree_of old.tree) 0 round ≡ true → ⊥)
      → StopsTell (next core) (setting_of old.setting) round (state_of old) → IsNeither core round old new
  is_neither_stopping new after store fault many asks neither tells =
      let both = not_stopping core (setting_of old.setting) round (state_of old) (fault_of core fault) (fault_is after store fault asks)
      (λ last fits. neither last (ap (λ j. all_fit_below round fault.processor j (tree_of old.tree) 0 round) (joints_up_to core (setting_of old.setting) round (state_of old) after store (Some fault) asks many fault.processor last) ∙ fits)) in
      record { impossible = both.0; going_on = both.1 tells }
