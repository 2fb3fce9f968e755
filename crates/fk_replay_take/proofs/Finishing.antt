-- A round without a fault, in which all fit together: what is asked for by the steps of the tree, and
-- what they make of it.
use Rattle.std.proofs.Common.{◌≡◌, ℕ, zero, suc, ◌+◌, ◌<◌, ◌≤◌, ◌^◌, Bool, true, false, List, [], ◌∷◌, length, Option, Some, None, ap, refl, sym, ◌∙◌, subst, arith}
use Rattle.std.specs.Prelude.{slice_index, slice_get, option_map, vec_len}
use Rattle.std.proofs.lemmas.List.{length-map}
use Rattle.std.proofs.lemmas.Option.{slice_get-map}
use Rattle.fk_tree.specs.Tree as t
use Rattle.fk_tree.specs.Sound.{IsSound}
use Rattle.fk_tree.specs.declared.node.Kind.TheVariants.{Lockstep, Waiting}
use Rattle.fk_tree.specs.declared.tree.Tree as code_tree
use Rattle.fk_tree.specs.View.{tree_of, processors}
use Rattle.fk_meaning_operation.specs.Kinds.{joint_of}
use Rattle.fk_meaning_operation.specs.declared.operation.Operation.{Operation}
use Rattle.fk_meaning_operation.specs.declared.operation.Operation.TheVariants as o
use Rattle.fk_meaning_operation.specs.declared.kinds.Joint.TheVariants.{Resuming}
use Rattle.fk_meaning_store.specs.View.{store_of, processors_of}
use Rattle.fk_meaning_state.specs.View.{setting_of}
use Rattle.fk_meaning.specs.Processor.{Setting}
use Rattle.fk_meaning.specs.Round as rounds
use Rattle.fk_meaning.specs.Round.{State, Round, Acting, joint_due, begin_all, result, is_possible, all_fit, all_changes, settled, who}
use Rattle.fk_core.specs.declared.op.CoreOp.{CoreOp}
use Rattle.fk_core.specs.Next.{Position, next}
use Rattle.fk_lockstep.specs.Untouched.{changes_tree}
use Rattle.fk_lockstep_nodes.specs.Steps.{KeepsOrDoes, NodesStep}
use Rattle.fk_lockstep_nodes.proofs.Nodes.{nodes_step}
use Rattle.fk_lockstep_tree.specs.Steps.{StepFits, AreKnown}
use Rattle.fk_replay_rounds.specs.Own.{AreOwn}
use Rattle.fk_replay_rounds.specs.Fits.{all_fit_below}
use Rattle.fk_replay_steps.specs.Steps.{step_at, callers_of, runner_of}
use Rattle.fk_replay_steps.specs.declared.list.Due.{Due}
use Rattle.fk_replay_phases.specs.declared.acting.Acting as acts
use Rattle.fk_replay_phases.specs.declared.actor.Actor.{Actor}
use Rattle.fk_replay_phases.specs.Present.{AreNone, AreBelow, AreHighBelow, present, numbers_of, all_acting}
use Rattle.fk_replay_phases.specs.Actors.{acting_of, actings_of, runners_of, AreInRound, AreReady}
use Rattle.fk_replay_phases.specs.Joints.{joint_by, joint_at}
use Rattle.fk_replay_trees.specs.Changes.{CanChange, ModesFollow}
use Rattle.fk_replay_trees.specs.Settled.{HaveSettled}
use Rattle.fk_replay_arrivals.specs.Arrived.{HaveForgotten}
use Rattle.fk_replay_run.specs.declared.run.Run.{Run}
use Rattle.fk_replay_run.specs.Runs.{state_of}
use Rattle.fk_replay_take.specs.Taken.{IsDone, IsNeither}
use Rattle.fk_replay_take.specs.Asked.{AreServed, IsAsked}
use Rattle.fk_replay_take.proofs.Composed.{result_is, stepping_is, taken_joint, is_it_possible, fits_whole, resumes}
use Rattle.fk_replay_take.proofs.Facts.{free_after, own_after, high_below, present_below}
use Rattle.fk_replay_take.proofs.Known.{tells, can_change, modes_follow}
use Rattle.fk_replay_take.proofs.Served as served
use Rattle.fk_replay_take.proofs.Forgetting.{has_forgotten}
use Rattle.fk_replay_take.proofs.Taking.{is_done, is_neither_fitting}

-- what the change of the tree asks for
pub record ChangesTree (tree : code_tree.Tree) (acting : List acts.Acting) (actors : List Actor) : Type 0 where
  pub few : processors tree ≤ 1024
  pub sound : IsSound (processors tree) (tree_of tree)
  pub many : length actors ≡ processors tree
  pub in_round : AreInRound acting actors
  pub at : acting ≡ all_acting (tree_of tree) (numbers_of acting)
  pub own : AreOwn (runners_of actors)
  pub can : CanChange (tree_of tree) actors

-- what the settling of those in the round asks for
pub record SettlesTree (core : List CoreOp) (p : ℕ) (acting : List acts.Acting) (actors : List Actor) : Type 0 where
  pub many : length actors ≡ p
  pub in_round : AreInRound acting actors
  pub high : AreHighBelow p acting
  pub own : AreOwn (runners_of actors)
  pub ready : AreReady core actors

module _ (core : List CoreOp) (round : Round) (old now : Run) (x : IsAsked core round old now None) where
  abbrev set : Setting
  set = setting_of old.setting

  abbrev s : State Position
  s = state_of old

  abbrev tree : t.Tree
  tree = tree_of old.tree

  abbrev after : List Actor
  after = now.actors.items

  abbrev p : ℕ
  p = processors old.tree

  abbrev fits_now : Bool
  fits_now = all_fit_below now.counts.items 4294967295 (joint_at core now.actors.items 4294967295) (tree_of now.tree) 0 now.counts.items

  abbrev Fit : Bool → Type 0
  Fit b = all_fit round (rounds.joint_at (begin_all (next core) set round s.runners)) tree 0 round ≡ b

  pub sound : IsSound p tree
  sound = subst (λ (n : ℕ). IsSound n tree) x.run.setting x.steady.stands.sound

  pub fit : (b : Bool) → fits_now ≡ b → Fit b
  fit b e =
      let few = x.run.few in
      sym (fits_whole core set round s after (store_of now.store) None x.served (served.round_same core round old now None x) p 4294967295 sound (served.runners_many core round old now None x) (omega (arith, few)))
      ∙ sym (served.fit_is core round old now None x 4294967295) ∙ e

  pub misfit : (new : Run) → fits_now ≡ false → IsNeither core round old new
  misfit new e = is_neither_fitting core round old new after (store_of now.store) x.served (fit false e) (served.tells core round old now None x)

  -- ---- the steps of the round are known

  possible : Fit true → is_possible (next core) set round s ≡ true
  possible fits =
      is_it_possible core set round s x.steady.running x.served.may fits
      (ap (λ (r : State Position). r.fault) (result_is core set round s after (store_of now.store) None x.served))

  known : Fit true → AreKnown tree (actings_of core after)
  known fits =
      subst (λ (xs : List (Acting Position)). AreKnown tree xs) (stepping_is core set round s after (store_of now.store) None x.served)
      (x.steady.known round (possible fits))

  own : AreOwn (runners_of after)
  own = own_after core set round s after (store_of now.store) None x.run.own x.served

  many : length after ≡ p
  many = served.after_many core round old now None x

  in_round : AreInRound now.acting.items after
  in_round = served.in_round core round old now None x

  -- who resumes finds its parts ended
  all_resume : Fit true → (h : ℕ) (a : Actor) (due : Due) → slice_get after h ≡ Some a → a.taken ≡ Some due → due.operation ≡ o.Resume → t.ready tree (tree.places h) ≡ true
  all_resume fits h a due is taken operation =
      resumes core set round s tree h due.operation operation fits (some (slice_index round h) refl) joint (not_group (k.does (tree.places h)) refl tell)
    where
      k : AreKnown tree (actings_of core after)
      k = known fits

      some : (c : ℕ) → slice_index round h ≡ c → 0 < slice_index round h
      some (suc c) e = omega (arith, e)
      some zero e =
          let free = free_after core set round s after (store_of now.store) None (served.round_same core round old now None x) (many ∙ sym (served.runners_many core round old now None x)) x.served h a is e in
          let bad : None ≡ Some due = sym free ∙ taken in
          absurd (cc)

      joint : rounds.joint_at (begin_all (next core) set round s.runners) h ≡ Resuming
      joint =
          sym (taken_joint core set round s after (store_of now.store) None x.served h)
          ∙ ap (joint_by core false) is
          ∙ ap (λ (d : Option Due). joint_due (option_map (step_at core (callers_of a.runner)) d)) taken
          ∙ ap joint_of operation

      tell : KeepsOrDoes (k.does (tree.places h)) (Some (step_at core (callers_of a.runner) due))
      tell = subst (λ d. KeepsOrDoes (k.does (tree.places h)) d) (ap (option_map (step_at core (callers_of a.runner))) taken) (tells core tree after p sound many k h a is)

      not_group : (d : Option Operation) → k.does (tree.places h) ≡ d → KeepsOrDoes (k.does (tree.places h)) (Some (step_at core (callers_of a.runner) due)) → t.kind tree (tree.places h) ≡ Some Lockstep → ⊥
      not_group None e keeps lockstep =
          let keep : changes_tree due.operation ≡ false = subst (λ d. KeepsOrDoes d (Some (step_at core (callers_of a.runner) due))) e keeps in
          let bad : true ≡ false = sym (ap changes_tree operation) ∙ keep in
          cc
      not_group (Some other) e does lockstep =
          let same : due.operation ≡ other = subst (λ d. KeepsOrDoes d (Some (step_at core (callers_of a.runner) due))) e does in
          let waits = subst (StepFits tree (tree.places h)) (sym same ∙ operation) (k.fits (tree.places h) other e) in
          let bad : Some Lockstep ≡ Some (Waiting waits.0 waits.1) = sym lockstep ∙ waits.2 in
          cc

  -- ---- the change of the tree

  changes_there : Fit true → ChangesTree now.tree now.acting.items after
  changes_there fits =
      subst (λ (tree' : code_tree.Tree). ChangesTree tree' now.acting.items after) (sym x.tree)
      (record {
        few = x.run.few;
        sound = sound;
        many = many;
        in_round = in_round;
        at = x.acting ∙ ap (all_acting tree) (sym (served.numbers core round old now None x));
        own = own;
        can = can_change core tree after p sound many (known fits) (x.ready refl) (all_resume fits);
      })

  pub changes : Fit true → (acting : List acts.Acting) (actors : List Actor) → acting ≡ now.acting.items → actors ≡ now.actors.items → ChangesTree now.tree acting actors
  changes fits acting actors e f =
      subst (λ (xs : List acts.Acting). ChangesTree now.tree xs actors) (sym e)
      (subst (λ (ys : List Actor). ChangesTree now.tree now.acting.items ys) (sym f) (changes_there fits))

  -- ---- who has arrived

  pub numbers_below : (acting : List acts.Acting) → acting ≡ now.acting.items → AreBelow p (numbers_of acting)
  numbers_below acting e =
      subst (λ (ns : List ℕ). AreBelow p ns) (sym (ap numbers_of e ∙ served.numbers core round old now None x))
      (record { each = λ i lt. let z = below 0 round i lt in let all = served.round_many core round old now None x in omega (arith, z, all) })
    where
      below : (first : ℕ) (cs : Round) (i : ℕ) → i < length (present first cs) → slice_index (present first cs) i < first + length cs
      below first [] i lt = absurd (omega (arith, lt))
      below first (zero ∷ cs) i lt = let z = below (suc first) cs i lt in omega (arith, z)
      below first (suc c ∷ cs) zero lt = omega arith
      below first (suc c ∷ cs) (suc i) lt = let z = below (suc first) cs i (omega (arith, lt)) in omega (arith, z)

  -- ---- the settling

  pub settles : (acting : List acts.Acting) → acting ≡ now.acting.items → SettlesTree core p acting now.actors.items
  settles acting e =
      subst (λ (xs : List acts.Acting). SettlesTree core p xs now.actors.items) (sym e)
      (record {
        many = many;
        in_round = in_round;
        high = subst (λ (xs : List acts.Acting). AreHighBelow p xs) (sym x.acting)
            (high_below p tree sound (present 0 round) (λ i n is. let lt = present_below 0 round i n is in let all = served.round_many core round old now None x in omega (arith, lt, all)));
        own = own;
        ready = x.ready refl;
      })

  abbrev A : List (Acting Position)
  A = actings_of core after

  pub follow : Fit true → (new : code_tree.Tree) → tree_of new ≡ all_changes A tree A tree → ModesFollow tree (tree_of new) after
  follow fits new changed =
      let k = known fits in
      let steps : NodesStep tree (tree_of new) (who A) k.does =
      subst (λ (n : t.Tree). NodesStep tree n (who A) k.does) (sym changed)
      (nodes_step A tree p sound k.does k.may (length-map after (acting_of core) ∙ many) k.steps) in
      modes_follow core tree after p sound many k (tree_of new) steps (served.have_modes tree old.actors.items after x.modes x.run.modes)
      (λ h a is. (own.each h (runner_of a.runner) (slice_get-map (λ (b : Actor). runner_of b.runner) after h ∙ ap (option_map (λ (b : Actor). runner_of b.runner)) is)).number)

  -- those in the round by the tree before it
  pub at_old : (acting : List acts.Acting) → acting ≡ now.acting.items → acting ≡ all_acting tree (numbers_of acting)
  at_old acting e =
      subst (λ (xs : List acts.Acting). xs ≡ all_acting tree (numbers_of xs)) (sym e)
      (x.acting ∙ ap (all_acting tree) (sym (served.numbers core round old now None x)))

  -- ---- the answer

  length_settled : (B : List (Acting Position)) (m n : t.Tree) (xs : List (Acting Position)) → length (settled B m n xs) ≡ length xs
  length_settled B m n [] = refl
  length_settled B m n (a ∷ xs) = ap suc (length_settled B m n xs)

  settled_many : (new : Run) → HaveSettled core tree (tree_of new.tree) after new.actors.items → vec_len new.actors ≡ vec_len old.actors
  settled_many new settles =
      let runners = sym (length-map new.actors.items (λ (b : Actor). runner_of b.runner)) ∙ ap length settles.runners
      ∙ length_settled A tree (tree_of new.tree) A ∙ length-map after (acting_of core) ∙ many in
      let new_held = new.actors.ok.0 in
      let all = x.run.actors in
      omega (arith, runners, new_held, all)

  -- what the calls have made of the parts of the run
  pub record Finished (new : Run) : Type 0 where
    pub setting : new.setting ≡ now.setting
    pub store : new.store ≡ now.store
    pub pace : new.pace ≡ now.pace
    pub acting : new.acting ≡ now.acting
    pub processors_same : processors new.tree ≡ processors now.tree
    pub changed : tree_of new.tree ≡ all_changes A (tree_of now.tree) A (tree_of now.tree)
    pub given : (tree_of new.tree).given ≤ (tree_of now.tree).given + 2 ^ 28
    pub forgotten : HaveForgotten now.acting.items after now.arrived.items new.arrived.items
    pub settled : HaveSettled core tree (tree_of new.tree) after new.actors.items
    pub counts : AreNone (length now.counts.items) new.counts.items

  pub finishes : (new : Run) → Fit true → Finished new → IsDone core round old new
  finishes new fits y =
      is_done core round old new after x.run x.steady
      (subst (λ st. AreServed core set round s after (store_of st) None) (sym y.store) x.served) fits
      (y.changed ∙ ap (λ (tree' : code_tree.Tree). all_changes A (tree_of tree') A (tree_of tree')) x.tree) y.settled
      (record {
        same = y.setting ∙ x.setting;
        store = ap processors_of y.store ∙ x.store;
        tree = y.processors_same ∙ ap processors x.tree;
        actors = settled_many new y.settled;
        counts = subst (λ (n : ℕ). AreNone n new.counts.items) (ap length x.counts ∙ served.round_many core round old now None x) y.counts;
        pace = y.pace ∙ x.pace;
        numbers = ap (λ acting. numbers_of acting.items) y.acting ∙ served.numbers core round old now None x;
        given = subst (λ (tree' : code_tree.Tree). (tree_of new.tree).given ≤ (tree_of tree').given + 2 ^ 28) x.tree y.given;
        arrived = has_forgotten core round old new after now.acting.items (store_of now.store) x.served (served.round_many core round old now None x ∙ sym many) x.acting
            (subst (λ arrived. HaveForgotten now.acting.items after arrived.items new.arrived.items) x.arrived y.forgotten);
      })
