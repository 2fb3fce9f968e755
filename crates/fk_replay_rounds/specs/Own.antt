-- What each processor keeps in a run.
use Rattle.std.specs.Prelude.{◌≡◌, ℕ, ◌<◌, List, length, Some, Option, slice_get, map}
use Rattle.fk_meaning.specs.Processor.{Processor, Setting}
use Rattle.fk_meaning.specs.Round.{Step, Runner, State, Round, runner_of, asking, all_requests}
use Rattle.fk_meaning.specs.Round.{result}

-- it has its number, and calls no deeper than a call may be
pub record IsOwn (h : ℕ) (p : Processor) : Type 0 where
  pub number : p.number ≡ h
  pub calls : length p.callers < 256

pub record AreOwn {W : Type 0} (runners : List (Runner W)) : Type 0 where
  pub each : (h : ℕ) (r : Runner W) → slice_get runners h ≡ Some r → IsOwn h r.has

-- all of this is kept before the requests of a round, before the steps of the tree, and after them
pub record KeepOwn {W : Type 0} (next : W → Option (Step W)) (set : Setting) (round : Round)
    (s : State W) : Type 0 where
  pub before_requests : AreOwn (map runner_of (asking next set round s.runners))
  pub before_steps :
      AreOwn (map runner_of (all_requests 0 (asking next set round s.runners) s.store).acting)
  pub after : AreOwn (result next set round s).runners

abbrev pub RoundsKeepOwn : (W : Type 0) → Type 0
RoundsKeepOwn W = (next : W → Option (Step W)) (set : Setting) (round : Round) (s : State W)
    → AreOwn s.runners → KeepOwn next set round s
