-- The joint operations of a round, and rounds without anybody above the last processor.
use Rattle.std.specs.Prelude.{◌≡◌, ℕ, ◌≤◌, true, Option}
use Rattle.fk_tree.specs.Tree as t
use Rattle.fk_tree.specs.Tree.{is_member}
use Rattle.fk_meaning_operation.specs.declared.kinds.Joint.{Joint}
use Rattle.fk_meaning.specs.Processor.{Setting}
use Rattle.fk_meaning.specs.Round.{Step, State, Round, joint_at, begin_all, asking, all_requests}
use Rattle.fk_meaning.specs.Round.{all_fit}
use Rattle.fk_replay_rounds.specs.Fits.{all_fit_below}

-- the joint operations that processors have taken are still those before the steps of the tree
abbrev pub TakenJointsStay : (W : Type 0) → Type 0
TakenJointsStay W = (next : W → Option (Step W)) (set : Setting) (round : Round) (s : State W)
    (h : ℕ) → joint_at (all_requests 0 (asking next set round s.runners) s.store).acting h
    ≡ joint_at (begin_all next set round s.runners) h

-- if no member is above the last processor, then the round fits with those above it as without
abbrev pub WholeRoundsFit : Type 0
WholeRoundsFit =
    (round : Round) (last : ℕ) (joint : ℕ → Joint) (tree : t.Tree)
    → ((n h : ℕ) → is_member h (t.members tree n) ≡ true → h ≤ last)
    → all_fit_below round last joint tree 0 round ≡ all_fit round joint tree 0 round
