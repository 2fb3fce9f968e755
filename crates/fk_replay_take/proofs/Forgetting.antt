-- Who does the joint operations of a round.
use Rattle.std.proofs.Common.{◌≡◌, ℕ, zero, suc, ◌+◌, ◌<◌, false, List, [], ◌∷◌, length, Option, Some, None, refl, sym, ap, ◌∙◌, subst, arith}
use Rattle.std.specs.Prelude.{slice_get, slice_index, option_map}
use Rattle.std.proofs.lemmas.Option.{slice_get-map}
use Rattle.fk_tree.specs.Tree as t
use Rattle.fk_tree.specs.View.{tree_of}
use Rattle.fk_meaning_operation.specs.declared.kinds.Joint.{Joint}
use Rattle.fk_meaning_store.specs.Store.{Store}
use Rattle.fk_meaning_state.specs.View.{setting_of}
use Rattle.fk_meaning.specs.Processor.{Setting}
use Rattle.fk_meaning.specs.Round.{State, Round, lowest, joint_due}
use Rattle.fk_core.specs.declared.op.CoreOp.{CoreOp}
use Rattle.fk_core.specs.Next.{Position, next}
use Rattle.fk_lockstep.proofs.Round.{some_at}
use Rattle.fk_replay_steps.specs.Steps.{step_at, callers_of}
use Rattle.fk_replay_steps.specs.declared.list.Due.{Due}
use Rattle.fk_replay_phases.specs.declared.acting.Acting.{Acting}
use Rattle.fk_replay_phases.specs.declared.actor.Actor.{Actor}
use Rattle.fk_replay_phases.specs.Present.{present, acting_at, all_acting}
use Rattle.fk_replay_phases.specs.Joints.{joint_by}
use Rattle.fk_replay_able.specs.Known.{DoesLowest}
use Rattle.fk_replay_arrivals.specs.Arrived.{joint_taken, IsDoneBy, HaveForgotten}
use Rattle.fk_replay_run.specs.declared.run.Run.{Run}
use Rattle.fk_replay_run.specs.Runs.{state_of}
use Rattle.fk_replay_take.specs.Taken.{HasForgotten}
use Rattle.fk_replay_take.specs.Asked.{AreServed}
use Rattle.fk_replay_take.proofs.Composed.{taken_joint}
use Rattle.fk_replay_take.proofs.Places.{present_there, there_present}

joint_is : (core : List CoreOp) (callers : List ℕ) (taken : Option Due) → joint_taken taken ≡ joint_due (option_map (step_at core callers) taken)
joint_is core callers None = refl
joint_is core callers (Some due) = refl

inside : (round : Round) (h : ℕ) → 0 < slice_index round h → h < length round
inside [] h low = absurd (omega (arith, low))
inside (c ∷ round) zero low = omega arith
inside (c ∷ round) (suc h) low = let lt = inside round h low in omega (arith, lt)

module _ (core : List CoreOp) (set : Setting) (round : Round) (s : State Position) (after : List Actor) (store : Store) (asks : AreServed core set round s after store None) (many : length round ≡ length after) where
  abbrev actings : List Acting
  actings = all_acting s.tree (present 0 round)

  -- the joint operation that a processor has taken
  joint_at_actor : (h : ℕ) (a : Actor) → slice_get after h ≡ Some a → joint_taken a.taken ≡ joint_by core false (slice_get after h)
  joint_at_actor h a there = joint_is core (callers_of a.runner) a.taken ∙ ap (joint_by core false) (sym there)

  does_lowest : (h : ℕ) (joint : Joint) → IsDoneBy actings after h joint → DoesLowest (next core) set round s h joint
  does_lowest h joint by = from (slice_get (present 0 round) by.index) refl (sym (slice_get-map (acting_at s.tree) (present 0 round) by.index) ∙ by.at)
    where
      from : (o : Option ℕ) → slice_get (present 0 round) by.index ≡ o → option_map (acting_at s.tree) o ≡ Some by.member → DoesLowest (next core) set round s h joint
      from None e is = absurd (let bad : None ≡ Some by.member = is in cc)
      from (Some g) e is =
          let member_is : acting_at s.tree g ≡ by.member = cc in
          let number_is : g ≡ h = ap (λ (a : Acting). a.number) member_is ∙ by.number in
          let there = there_present 0 round by.index g e in
          let same : there.0 ≡ h = (let u = there.1 in omega (arith, u, number_is)) in
          record {
            within = subst (λ (m : ℕ). 0 < slice_index round m) same there.2;
            lowest = sym by.lowest ∙ ap (λ (a : Acting). a.lowest) (sym member_is) ∙ ap (λ (m : ℕ). lowest (t.members s.tree (s.tree.places m))) number_is;
            taken = by.taken ∙ joint_at_actor h by.actor by.there ∙ taken_joint core set round s after store None asks h;
          }

  is_done_by : (h : ℕ) (joint : Joint) → DoesLowest (next core) set round s h joint → IsDoneBy actings after h joint
  is_done_by h joint does =
      let place = present_there 0 round h does.within in
      let actor = some_at after h (let lt = inside round h does.within in omega (arith, lt, many)) in
      let zero_is : 0 + h ≡ h = omega arith in
      record {
        index = place.0;
        member = acting_at s.tree h;
        at = slice_get-map (acting_at s.tree) (present 0 round) place.0 ∙ ap (option_map (acting_at s.tree)) place.1 ∙ ap (λ (m : ℕ). Some (acting_at s.tree m)) zero_is;
        number = refl;
        lowest = sym does.lowest;
        actor = actor.0;
        there = actor.1;
        taken = does.taken ∙ sym (taken_joint core set round s after store None asks h) ∙ sym (joint_at_actor h actor.0 actor.1);
      }

-- who came to the joint operations of a round is forgotten after it
pub has_forgotten : (core : List CoreOp) (round : Round) (old new : Run) (after : List Actor) (acting : List Acting) (store : Store)
    → AreServed core (setting_of old.setting) round (state_of old) after store None → length round ≡ length after → acting ≡ all_acting (tree_of old.tree) (present 0 round)
    → HaveForgotten acting after old.arrived.items new.arrived.items → HasForgotten core round old new
has_forgotten core round old new after acting store asks many is forgets = record {
  many = forgets.many;
  done = λ h joint does. forgets.done h joint (back h joint (is_done_by core (setting_of old.setting) round (state_of old) after store asks many h joint does));
  kept = λ h joint none. forgets.kept h joint (λ by. none (does_lowest core (setting_of old.setting) round (state_of old) after store asks many h joint (there h joint by)));
}
  where
    there : (h : ℕ) (joint : Joint) → IsDoneBy acting after h joint → IsDoneBy (all_acting (tree_of old.tree) (present 0 round)) after h joint
    there h joint by = subst (λ (xs : List Acting). IsDoneBy xs after h joint) is by

    back : (h : ℕ) (joint : Joint) → IsDoneBy (all_acting (tree_of old.tree) (present 0 round)) after h joint → IsDoneBy acting after h joint
    back h joint by = subst (λ (xs : List Acting). IsDoneBy xs after h joint) (sym is) by
