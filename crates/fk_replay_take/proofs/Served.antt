-- A run behind the requests of a round: what is asked for by the calls that follow.
use Rattle.std.proofs.Common.{◌≡◌, ℕ, zero, suc, ◌+◌, ◌<◌, ◌≤◌, ◌^◌, List, [], ◌∷◌, length, Option, Some, None, ap, refl, sym, ◌∙◌, subst, arith}
use Rattle.std.specs.Prelude.{slice_index, slice_get}
use Rattle.std.proofs.lemmas.List.{length-map}
use Rattle.fk_tree.specs.Tree as t
use Rattle.fk_tree.specs.declared.tree.Tree as code_tree
use Rattle.fk_tree.specs.View.{tree_of, processors}
use Rattle.fk_meaning_store.specs.View.{store_of}
use Rattle.fk_meaning_state.specs.View.{setting_of}
use Rattle.fk_meaning.specs.Processor.{Setting}
use Rattle.fk_meaning.specs.Round.{State, Round}
use Rattle.fk_core.specs.declared.op.CoreOp.{CoreOp}
use Rattle.fk_core.specs.Next.{Position, next}
use Rattle.fk_replay_rounds.specs.Fits.{all_fit_below, AreThere}
use Rattle.fk_replay_rounds.specs.Stops.{StopsTell}
use Rattle.fk_replay_stops.proofs.Places.{same_length}
use Rattle.fk_replay_stops.proofs.There.{faults_of_the_last_stop}
use Rattle.fk_replay_steps.specs.Steps.{runner_of}
use Rattle.fk_replay_phases.specs.declared.phases.Fault.{Fault}
use Rattle.fk_replay_phases.specs.declared.actor.Actor.{Actor}
use Rattle.fk_replay_phases.specs.Present.{present, numbers_of, all_acting}
use Rattle.fk_replay_phases.specs.Actors.{modes_of, AreInRound}
use Rattle.fk_replay_phases.specs.Joints.{joint_at}
use Rattle.fk_replay_phases.specs.Modes.{HaveModes}
use Rattle.fk_replay_rounds.specs.Modes.{mode_of}
use Rattle.fk_replay_run.specs.declared.run.Run.{Run}
use Rattle.fk_replay_run.specs.Runs.{state_of}
use Rattle.fk_replay_take.specs.Asked.{IsAsked}
use Rattle.fk_replay_take.proofs.Composed.{together}
use Rattle.fk_replay_take.proofs.Facts.{numbers_map, in_round_after, are_there}

-- ---- lists of processors with the same modes

pub modes_many : (xs ys : List Actor) → modes_of ys ≡ modes_of xs → length ys ≡ length xs
modes_many xs ys e = sym (length-map ys (λ (a : Actor). a.mode)) ∙ ap length e ∙ length-map xs (λ (a : Actor). a.mode)

pub have_modes : (tree : t.Tree) (xs ys : List Actor) → modes_of ys ≡ modes_of xs → HaveModes tree xs → HaveModes tree ys
have_modes tree xs ys e modes = record {
  each = λ h y is.
      at 0 xs ys e h y is (λ k x found. modes.each k x found ∙ ap (λ (n : ℕ). mode_of (t.kind tree (tree.places n))) (let n : k ≡ 0 + k = omega arith in n))
      ∙ ap (λ (n : ℕ). mode_of (t.kind tree (tree.places n))) (let n : 0 + h ≡ h = omega arith in n);
}
  where
    at : (first : ℕ) (bs ds : List Actor) → modes_of ds ≡ modes_of bs → (h : ℕ) (y : Actor) → slice_get ds h ≡ Some y
        → ((k : ℕ) (x : Actor) → slice_get bs k ≡ Some x → x.mode ≡ mode_of (t.kind tree (tree.places (first + k)))) → y.mode ≡ mode_of (t.kind tree (tree.places (first + h)))
    at first bs [] same h y is each = absurd (let bad : None ≡ Some y = is in cc)
    at first [] (d ∷ ds) same h y is each = absurd (let bad : d.mode ∷ modes_of ds ≡ [] = same in cc)
    at first (b ∷ bs) (d ∷ ds) same zero y is each =
        let d_is : d ≡ y = cc in
        let head : d.mode ≡ b.mode = cc in
        ap (λ (z : Actor). z.mode) (sym d_is) ∙ head ∙ each 0 b refl
    at first (b ∷ bs) (d ∷ ds) same (suc h) y is each =
        let tail : modes_of ds ≡ modes_of bs = cc in
        at (suc first) bs ds tail h y is (λ k x found. each (suc k) x found ∙ ap (λ (n : ℕ). mode_of (t.kind tree (tree.places n))) (let n : first + suc k ≡ suc first + k = omega arith in n))
        ∙ ap (λ (n : ℕ). mode_of (t.kind tree (tree.places n))) (let n : suc first + h ≡ first + suc h = omega arith in n)

module _ (core : List CoreOp) (round : Round) (old now : Run) (fault : Option Fault) (x : IsAsked core round old now fault) where
  abbrev set : Setting
  set = setting_of old.setting

  abbrev s : State Position
  s = state_of old

  -- ---- how many there are

  pub actors_many : length old.actors.items ≡ processors old.tree
  actors_many = let held = old.actors.ok.0 in let e = x.run.actors in omega (arith, held, e)

  pub runners_many : length s.runners ≡ processors old.tree
  runners_many = length-map old.actors.items (λ (a : Actor). runner_of a.runner) ∙ actors_many

  pub after_many : length now.actors.items ≡ processors old.tree
  after_many = modes_many old.actors.items now.actors.items x.modes ∙ actors_many

  pub round_same : length round ≡ length s.runners
  round_same = same_length (next core) set round s.runners x.served.may

  pub round_many : length round ≡ processors old.tree
  round_many = round_same ∙ runners_many

  pub numbers : numbers_of now.acting.items ≡ present 0 round
  numbers = ap numbers_of x.acting ∙ numbers_map (tree_of old.tree) (present 0 round)

  pub in_round : AreInRound now.acting.items now.actors.items
  in_round = in_round_after core set round s now.acting.items now.actors.items (store_of now.store) fault numbers round_same (after_many ∙ sym runners_many) x.served

  pub tells : StopsTell (next core) set round s
  tells = faults_of_the_last_stop Position (next core) set round s (together core set round s x.steady)

  -- ---- who fits

  pub fit_counts : length now.counts.items ≡ processors now.tree
  fit_counts = ap length x.counts ∙ round_many ∙ sym (ap processors x.tree)

  pub fit_actors : length now.actors.items ≡ processors now.tree
  fit_actors = after_many ∙ sym (ap processors x.tree)

  pub fit_acting : now.acting.items ≡ all_acting (tree_of now.tree) (present 0 now.counts.items)
  fit_acting =
      x.acting ∙ ap (λ (tree : code_tree.Tree). all_acting (tree_of tree) (present 0 round)) (sym x.tree)
      ∙ ap (λ (cs : Round). all_acting (tree_of now.tree) (present 0 cs)) (sym x.counts)

  pub fit_modes : HaveModes (tree_of now.tree) now.actors.items
  fit_modes =
      subst (λ (tree : code_tree.Tree). HaveModes (tree_of tree) now.actors.items) (sym x.tree)
      (have_modes (tree_of old.tree) old.actors.items now.actors.items x.modes x.run.modes)

  there_before : (last : ℕ) → ((h : ℕ) → 0 < slice_index round h → h ≤ last) → AreThere round last (joint_at core now.actors.items last) (tree_of old.tree) (processors old.tree)
  there_before last low =
      subst (λ (p : ℕ). AreThere round last (joint_at core now.actors.items last) (tree_of old.tree) p) x.run.setting
      (are_there core set round s now.actors.items (store_of now.store) fault last x.steady x.served (round_many ∙ sym x.run.setting) low)

  pub fit_there : (last : ℕ) → ((h : ℕ) → 0 < slice_index round h → h ≤ last)
      → AreThere now.counts.items last (joint_at core now.actors.items last) (tree_of now.tree) (processors now.tree)
  fit_there last low =
      subst (λ (cs : Round). AreThere cs last (joint_at core now.actors.items last) (tree_of now.tree) (processors now.tree)) (sym x.counts)
      (subst (λ (tree : code_tree.Tree). AreThere round last (joint_at core now.actors.items last) (tree_of tree) (processors tree)) (sym x.tree)
      (there_before last low))

  -- the test of the code speaks of the round
  pub fit_is : (last : ℕ) → all_fit_below now.counts.items last (joint_at core now.actors.items last) (tree_of now.tree) 0 now.counts.items
      ≡ all_fit_below round last (joint_at core now.actors.items last) (tree_of old.tree) 0 round
  fit_is last =
      ap (λ (cs : Round). all_fit_below cs last (joint_at core now.actors.items last) (tree_of now.tree) 0 cs) x.counts
      ∙ ap (λ (tree : code_tree.Tree). all_fit_below round last (joint_at core now.actors.items last) (tree_of tree) 0 round) x.tree

  within : (xs : Round) (h : ℕ) → 0 < slice_index xs h → h < length xs
  within [] zero lt = absurd (let z : ⊥ = omega arith in z)
  within [] (suc h) lt = absurd (let z : ⊥ = omega arith in z)
  within (c ∷ xs) zero lt = omega arith
  within (c ∷ xs) (suc h) lt = let w = within xs h lt in omega arith

  -- the numbers of all processors are low
  pub all_low : (last : ℕ) → 1024 ≤ last → (h : ℕ) → 0 < slice_index round h → h ≤ last
  all_low last high h some =
      let lt = within round h some in
      let many = round_many in
      let few = x.run.few in
      omega (arith, lt, many, few, high)

  -- ---- what stays as it was

  pub arrived_many : length old.arrived.items ≡ processors old.tree → length now.arrived.items ≡ processors now.tree
  arrived_many e = ap (λ arrived. length arrived.items) x.arrived ∙ e ∙ sym (ap processors x.tree)

  pub given_low : (tree_of old.tree).given + 2 ^ 28 < 2 ^ 63 → (tree_of now.tree).given + 2 ^ 28 < 2 ^ 63
  given_low lt = subst (λ (tree : code_tree.Tree). (tree_of tree).given + 2 ^ 28 < 2 ^ 63) (sym x.tree) lt
