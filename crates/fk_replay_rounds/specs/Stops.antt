-- Which rounds are stopped, told without the whole round from which a stopped round was cut.
use Rattle.std.specs.Prelude.{◌≡◌, ℕ, ◌<◌, nat_lt, Bool, true, false, List, Option, Some, None, length}
use Rattle.std.specs.Prelude.{slice_get, slice_index}
use Rattle.fk_tree.specs.Tree as t
use Rattle.fk_tree.specs.Tree.{is_member}
use Rattle.fk_tree.specs.Sound.{IsSound}
use Rattle.fk_tree.specs.declared.node.Kind.TheVariants.{Lockstep, Waiting}
use Rattle.fk_meaning_operation.specs.declared.operation.Operation.TheVariants.{Resume}
use Rattle.fk_meaning_operation.specs.declared.kinds.Joint.{Joint}
use Rattle.fk_meaning_operation.specs.declared.kinds.Joint.TheVariants.{Alone}
use Rattle.fk_meaning.specs.Processor.{Setting}
use Rattle.fk_meaning.specs.Round.{Step, Runner, State, Round, Fault, joint_due, joint_at, begin_all}
use Rattle.fk_meaning.specs.Round.{may_act, all_may_act, result, IsStopped}
use Rattle.fk_replay_rounds.specs.Fits.{all_fit_below}

module _ {W : Type 0} (next : W → Option (Step W)) (set : Setting) where
  -- the joint operation that is next for a processor
  abbrev pub joint_next : Option (Runner W) → Joint
  joint_next None = Alone
  joint_next (Some r) = joint_due (next r.left)

  -- the joint operation that a processor takes in a round; of one above the last processor, the one
  -- that is next
  abbrev pub joint_by : Round → List (Runner W) → (above : Bool) → (h : ℕ) → Joint
  joint_by round runners true h = joint_next (slice_get runners h)
  joint_by round runners false h = joint_at (begin_all next set round runners) h

  abbrev pub joint_up_to : Round → List (Runner W) → (last h : ℕ) → Joint
  joint_up_to round runners last h = joint_by round runners (nat_lt last h) h

  -- what is known of the state: the members of a group can act equally often, and who waits for
  -- parts can only resume
  pub record IsTogether (s : State W) : Type 0 where
    pub running : s.fault ≡ None
    pub sound : IsSound set.processors s.tree
    pub many : length s.runners ≡ set.processors
    pub together : (n g h count : ℕ) (r q : Runner W) → t.kind s.tree n ≡ Some Lockstep
        → is_member g (t.members s.tree n) ≡ true → is_member h (t.members s.tree n) ≡ true
        → slice_get s.runners g ≡ Some r → slice_get s.runners h ≡ Some q
        → may_act next set count r ≡ true → may_act next set count q ≡ true
    pub waits : (h first parts : ℕ) (r : Runner W) (step : Step W)
        → t.kind s.tree (s.tree.places h) ≡ Some (Waiting first parts)
        → slice_get s.runners h ≡ Some r → next r.left ≡ Some step → step.operation ≡ Resume

  -- the last processor of a round faults, and the others fit to each other and to those above that
  -- one, where these are needed
  pub record FaultsLast (round : Round) (s : State W) (fault : Fault) : Type 0 where
    pub may : all_may_act next set round s.runners ≡ true
    pub faults : (result next set round s).fault ≡ Some fault
    pub last : (h : ℕ) → fault.processor < h → slice_index round h ≡ 0
    pub fits : all_fit_below round fault.processor
        (joint_up_to round s.runners fault.processor) s.tree 0 round ≡ true

-- then it is a stopped round, and only then
pub record StopsTell {W : Type 0} (next : W → Option (Step W)) (set : Setting) (round : Round)
    (s : State W) : Type 0 where
  pub there : (fault : Fault) → FaultsLast next set round s fault → IsStopped next set round s
  pub back : (stopped : IsStopped next set round s) → FaultsLast next set round s stopped.fault

abbrev pub FaultsOfTheLastStop : (W : Type 0) → Type 0
FaultsOfTheLastStop W = (next : W → Option (Step W)) (set : Setting) (round : Round) (s : State W)
    → IsTogether next set s → StopsTell next set round s
