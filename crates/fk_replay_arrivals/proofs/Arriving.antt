-- What is known when a processor in memory comes to its next operation.
use Rattle.std.proofs.Common.{◌≡◌, ◌≢◌, ℕ, suc, ◌+◌, ◌<◌, ◌≤◌, ◌^◌, Bool, true, false, true≢false, List, ◌∷◌, length, set, slice_get, Option, Some, is_some, refl, sym, ap, ◌∙◌, subst, arith}
use Rattle.std.proofs.Math.Path.{fun_ext}
use Rattle.fk_meaning_operation.specs.declared.kinds.Joint.{Joint}
use Rattle.fk_meaning_operation.specs.declared.kinds.Joint.TheVariants.{Alone, Starting, AtBarrier, Closing, Resuming}
use Rattle.fk_tree.specs.declared.node.Kind.{Kind}
use Rattle.fk_tree.specs.Tree as t
use Rattle.fk_tree.specs.Tree.{Tree, is_member}
use Rattle.fk_meaning.specs.Processor.{Setting}
use Rattle.fk_meaning.specs.Round.{Runner, State, joint_due, lowest}
use Rattle.fk_core.specs.declared.op.CoreOp.{CoreOp}
use Rattle.fk_core.specs.Next.{Position, next, landing}
use Rattle.fk_lockstep.proofs.Rounds.{map_at}
use Rattle.fk_lockstep_tree.specs.Runs.{StandsInTree}
use Rattle.fk_replay_rounds.specs.Modes.{mode_of}
use Rattle.fk_replay_steps.specs.Pace.{Absences}
use Rattle.fk_replay_steps.specs.Steps.{runner_of, position_of}
use Rattle.fk_replay_phases.specs.declared.actor.Actor.{Actor}
use Rattle.fk_replay_phases.specs.Modes.{HaveModes}
use Rattle.fk_replay_able.specs.Able.{waits_for_none, step_of, step_at, joint_before}
use Rattle.fk_replay_able.specs.Known.{with_all, is_free, KnowsAble, CountsOne, Arrives}
use Rattle.fk_replay_able.proofs.Able.{alone_free}
use Rattle.fk_replay_able.proofs.Arrivals.{arrivals_know_able}
use Rattle.fk_replay_arrivals.specs.declared.arrived.Arrived.{Arrived}
use Rattle.fk_replay_arrivals.specs.Arrived.{number_in, number_for, arrived_in, is_known, is_counted, HasOneMore, HaveBegun, AreOf, KnowsBehind}
use Rattle.fk_replay_arrivals.proofs.Begun.{BeginsOne}
use Rattle.fk_replay_arrivals.proofs.Counting.{IsSetAt, is_set}

module _ (core : List CoreOp) (tree : Tree) (actors : List Actor) (h : ℕ) (a : Actor) (at : slice_get actors h ≡ Some a) (modes : HaveModes tree actors) (joint : Joint)
    (joint_is : joint_due (next core (position_of a.runner)) ≡ joint) where
  module _ (set : Setting) (s : State Position) (of : AreOf tree actors s) where
    step_is : step_at (next core) s h ≡ next core (position_of a.runner)
    step_is = ap (step_of (next core)) (ap (λ (rs : List (Runner Position)). slice_get rs h) of.runners_are ∙ map_at (λ (x : Actor). runner_of x.runner) actors h a at)

    before_is : joint_before (next core) s h ≡ joint
    before_is = ap joint_due step_is ∙ joint_is

    free_by : (b : Bool) → ((k : Option Kind) → a.mode ≡ mode_of k → b ≡ waits_for_none k joint) → is_free (next core) s h ≡ b
    free_by b tells =
        ap (waits_for_none (t.kind s.tree (s.tree.places h))) before_is
        ∙ sym (tells (t.kind s.tree (s.tree.places h)) (modes.each h a at ∙ ap (λ (u : Tree). mode_of (t.kind u (u.places h))) (sym of.tree_is)))

    members_are : t.members s.tree (s.tree.places h) ≡ t.members tree (tree.places h)
    members_are = ap (λ (u : Tree). t.members u (u.places h)) of.tree_is

    ready_is : t.ready s.tree (s.tree.places h) ≡ t.ready tree (tree.places h)
    ready_is = ap (λ (u : Tree). t.ready u (u.places h)) of.tree_is

    arriving : (coming : List ℕ) (able : ℕ → Bool) (arrived : ℕ → Joint → ℕ) → StandsInTree (next core) (λ w. landing core w.at) set s
        → KnowsAble (next core) s (h ∷ coming) able arrived → Arrives (next core) s h coming able arrived
    arriving coming able arrived stands knows = arrivals_know_able Position _ (next core) (λ w. landing core w.at) set s h coming able arrived stands knows

  abbrev Waits : Bool → Type 0
  Waits b = (k : Option Kind) → a.mode ≡ mode_of k → b ≡ waits_for_none k joint

  pub ended_known : (coming : List ℕ) (pace : Absences) (arrived : List Arrived) → is_some (next core (position_of a.runner)) ≡ false
      → KnowsBehind core tree actors (h ∷ coming) coming pace pace arrived arrived
  ended_known coming pace arrived none set s of stands knows =
      (arriving set s of coming (is_known pace) (arrived_in arrived) stands knows).ended (ap is_some (step_is set s of) ∙ none)

  pub itself_known : (coming : List ℕ) (round : ℕ) (old new : Absences) (arrived : List Arrived) → is_some (next core (position_of a.runner)) ≡ true → Waits true
      → BeginsOne h round old new → KnowsBehind core tree actors (h ∷ coming) coming old new arrived arrived
  itself_known coming round old new arrived some waits begins set s of stands knows =
      subst (λ (able : ℕ → Bool). KnowsAble (next core) s coming able (arrived_in arrived)) (sym (fun_ext begins.known))
      ((arriving set s of coming (is_known old) (arrived_in arrived) stands knows).by_itself (ap is_some (step_is set s of) ∙ some) (free_by set s of true waits))

  pub resumes_known : (coming : List ℕ) (round : ℕ) (old new : Absences) (arrived : List Arrived) → joint ≡ Resuming → Waits false → t.ready tree (tree.places h) ≡ true
      → HaveBegun (t.members tree (tree.places h)) round old new → KnowsBehind core tree actors (h ∷ coming) coming old new arrived arrived
  resumes_known coming round old new arrived resume waits ready begins set s of stands knows =
      subst (λ (able : ℕ → Bool). KnowsAble (next core) s coming able (arrived_in arrived)) (sym (fun_ext begins.known))
      (subst (λ (ms : List ℕ). KnowsAble (next core) s coming (with_all ms (is_known old)) (arrived_in arrived)) (members_are set s of)
      ((arriving set s of coming (is_known old) (arrived_in arrived) stands knows).resumes (before_is set s of ∙ resume) (free_by set s of false waits) (ready_is set s of ∙ ready)))

  pub resumed_known : (coming : List ℕ) (pace : Absences) (arrived : List Arrived) → joint ≡ Resuming → Waits false → is_known pace h ≡ true
      → KnowsBehind core tree actors (h ∷ coming) coming pace pace arrived arrived
  resumed_known coming pace arrived resume waits known set s of stands knows =
      (arriving set s of coming (is_known pace) (arrived_in arrived) stands knows).resumed (before_is set s of ∙ resume) (free_by set s of false waits) known

  pub awaits_known : (coming : List ℕ) (pace : Absences) (arrived : List Arrived) → joint ≡ Resuming → Waits false → t.ready tree (tree.places h) ≡ false
      → KnowsBehind core tree actors (h ∷ coming) coming pace pace arrived arrived
  awaits_known coming pace arrived resume waits off set s of stands knows =
      (arriving set s of coming (is_known pace) (arrived_in arrived) stands knows).awaits (before_is set s of ∙ resume) (free_by set s of false waits) (ready_is set s of ∙ off)

  -- the lowest member counts one more, if there is room for it
  abbrev pub CountsAt : (old new : List Arrived) → Type 0
  CountsAt old new = IsSetAt (lowest (t.members tree (tree.places h))) joint (suc (arrived_in old (lowest (t.members tree (tree.places h))) joint)) old new

  module _ (set : Setting) (s : State Position) (of : AreOf tree actors s) (coming : List ℕ) (able : ℕ → Bool) (old new : List Arrived) (counts : CountsAt old new) where
    counts_one : CountsOne (next core) s h coming able (arrived_in old) (arrived_in new)
    counts_one = record {
      one =
          ap (λ (k : Joint). arrived_in new (lowest (t.members s.tree (s.tree.places h))) k) (before_is set s of)
          ∙ ap (λ (ms : List ℕ). arrived_in new (lowest ms) joint) (members_are set s of) ∙ counts.here
          ∙ sym (ap (λ (ms : List ℕ). suc (arrived_in old (lowest ms) joint)) (members_are set s of))
          ∙ sym (ap (λ (k : Joint). suc (arrived_in old (lowest (t.members s.tree (s.tree.places h))) k)) (before_is set s of));
      same = λ g k other. counts.kept g k (λ x. other (x.0 ∙ sym (ap lowest (members_are set s of)), x.1 ∙ sym (before_is set s of)));
    }

    number_now : arrived_in new (lowest (t.members s.tree (s.tree.places h))) (joint_before (next core) s h) ≡ arrived_in new (lowest (t.members tree (tree.places h))) joint
    number_now =
        ap (λ (k : Joint). arrived_in new (lowest (t.members s.tree (s.tree.places h))) k) (before_is set s of)
        ∙ ap (λ (ms : List ℕ). arrived_in new (lowest ms) joint) (members_are set s of)

  -- there is room for it in a word, if all is known before
  abbrev Few : List Arrived → Type 0
  Few old = suc (arrived_in old (lowest (t.members tree (tree.places h))) joint) ≤ length (t.members tree (tree.places h))

  few : (set : Setting) (s : State Position) → AreOf tree actors s → (coming : List ℕ) (pace : Absences) (old : List Arrived) → joint ≢ Resuming → Waits false
      → StandsInTree (next core) (λ w. landing core w.at) set s → KnowsAble (next core) s (h ∷ coming) (is_known pace) (arrived_in old) → Few old
  few set s of coming pace old other waits stands knows =
      subst (λ (ms : List ℕ). suc (arrived_in old (lowest ms) joint) ≤ length ms) (members_are set s of)
      (subst (λ (k : Joint). suc (arrived_in old (lowest (t.members s.tree (s.tree.places h))) k) ≤ length (t.members s.tree (s.tree.places h))) (before_is set s of)
      ((arriving set s of coming (is_known pace) (arrived_in old) stands knows).few (λ e. other (sym (before_is set s of) ∙ e)) (free_by set s of false waits)))

  pub last_known : (coming : List ℕ) (round : ℕ) (old new : Absences) (was is : List Arrived) → joint ≢ Resuming → Waits false → (Few was → CountsAt was is)
      → (Few was → arrived_in is (lowest (t.members tree (tree.places h))) joint ≡ length (t.members tree (tree.places h)))
      → HaveBegun (t.members tree (tree.places h)) round old new → KnowsBehind core tree actors (h ∷ coming) coming old new was is
  last_known coming round old new was is other waits counts full begins set s of stands knows =
      let room = few set s of coming old was other waits stands knows in
      subst (λ (able : ℕ → Bool). KnowsAble (next core) s coming able (arrived_in is)) (sym (fun_ext begins.known))
      (subst (λ (ms : List ℕ). KnowsAble (next core) s coming (with_all ms (is_known old)) (arrived_in is)) (members_are set s of)
      ((arriving set s of coming (is_known old) (arrived_in was) stands knows).last (arrived_in is) (λ e. other (sym (before_is set s of) ∙ e)) (free_by set s of false waits)
      (counts_one set s of coming (is_known old) was is (counts room))
      (number_now set s of coming (is_known old) was is (counts room) ∙ full room ∙ sym (ap (λ (ms : List ℕ). length ms) (members_are set s of)))))

  pub waits_known : (coming : List ℕ) (pace : Absences) (was is : List Arrived) → joint ≢ Resuming → Waits false → (Few was → CountsAt was is)
      → (Few was → arrived_in is (lowest (t.members tree (tree.places h))) joint ≢ length (t.members tree (tree.places h)))
      → KnowsBehind core tree actors (h ∷ coming) coming pace pace was is
  waits_known coming pace was is other waits counts part set s of stands knows =
      let room = few set s of coming pace was other waits stands knows in
      (arriving set s of coming (is_known pace) (arrived_in was) stands knows).waits (arrived_in is) (λ e. other (sym (before_is set s of) ∙ e)) (free_by set s of false waits)
      (counts_one set s of coming (is_known pace) was is (counts room))
      (λ e. part room (sym (number_now set s of coming (is_known pace) was is (counts room)) ∙ e ∙ ap (λ (ms : List ℕ). length ms) (members_are set s of)))

  -- ---- one more is counted

  counted : Waits false → joint ≢ Resuming → is_counted joint ≡ true
  counted waits other = by joint refl
    where
      by : (j : Joint) → joint ≡ j → is_counted j ≡ true
      by Starting e = refl
      by AtBarrier e = refl
      by Closing e = refl
      by Resuming e = absurd (other e)
      by Alone e = absurd (true≢false (sym (alone_free (t.kind tree (tree.places h))) ∙ sym (ap (waits_for_none (t.kind tree (tree.places h))) e) ∙ sym (waits (t.kind tree (tree.places h)) (modes.each h a at))))

  module _ (was : List Arrived) (x y : Arrived) (come : ℕ) (there : slice_get was (lowest (t.members tree (tree.places h))) ≡ Some x)
      (one : is_counted joint ≡ true → number_in joint x + 1 < 2 ^ 32 → HasOneMore joint come x y) (other : joint ≢ Resuming) (waits : Waits false) (room : length (t.members tree (tree.places h)) < 2 ^ 32) where
    abbrev changed : List Arrived
    changed = set was (lowest (t.members tree (tree.places h))) y

    one_more : Few was → HasOneMore joint come x y
    one_more few_was = one (counted waits other) (let same = ap (number_for joint) there in omega (arith, few_was, same, room))

    counts_more : Few was → CountsAt was changed
    counts_more few_was = subst (λ (n : ℕ). IsSetAt (lowest (t.members tree (tree.places h))) joint n was changed)
        ((one_more few_was).number_is ∙ ap (λ (o : Option Arrived). suc (number_for joint o)) (sym there))
        (is_set was (lowest (t.members tree (tree.places h))) x y joint come there (one_more few_was).one)

    come_is : Few was → arrived_in changed (lowest (t.members tree (tree.places h))) joint ≡ come
    come_is few_was = (is_set was (lowest (t.members tree (tree.places h))) x y joint come there (one_more few_was).one).here

    pub last_comes : (coming : List ℕ) (round : ℕ) (old new : Absences) → come ≡ length (t.members tree (tree.places h)) → HaveBegun (t.members tree (tree.places h)) round old new
        → KnowsBehind core tree actors (h ∷ coming) coming old new was changed
    last_comes coming round old new all begins = last_known coming round old new was changed other waits counts_more (λ few_was. come_is few_was ∙ all) begins

    pub one_comes : (coming : List ℕ) (pace : Absences) → (come ≡ length (t.members tree (tree.places h)) → ⊥) → KnowsBehind core tree actors (h ∷ coming) coming pace pace was changed
    one_comes coming pace part = waits_known coming pace was changed other waits counts_more (λ few_was e. part (sym (come_is few_was) ∙ e))
