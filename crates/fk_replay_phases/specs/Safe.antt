-- Processors whose requests can be served, and whose calls can give back their frames.
use Rattle.std.specs.Prelude.{◌≡◌, ℕ, true, List, Some, slice_get}
use Rattle.fk_meaning.specs.Processor.{Setting}
use Rattle.fk_meaning.specs.Round.{Runner, Step, are_local, after_locals}
use Rattle.fk_core.specs.declared.op.CoreOp.{CoreOp}
use Rattle.fk_core.specs.Next.{Position, next}
use Rattle.fk_replay_steps.specs.Served.{CanAsk}
use Rattle.fk_replay_steps.specs.Steps.{GivesBack}

module _ (core : List CoreOp) (set : Setting) where
  -- a processor that, after some of its local operations, is about to do a step
  pub record IsAbout (before : Runner Position) (step : Step Position) : Type 0 where
    pub count : ℕ
    pub local : are_local (next core) set count before ≡ true
    pub due : next core (after_locals (next core) set count before).left ≡ Some step

  -- whichever of its local operations a processor has done: an address that its request uses may
  -- be used, and a call that ends can give back its frames
  pub record IsSafeRunner (r : Runner Position) : Type 0 where
    pub asks : (step : Step Position) (about : IsAbout r step)
        → CanAsk step.operation (after_locals (next core) set about.count r).has
    pub leaves : (step : Step Position) (about : IsAbout r step)
        → GivesBack step.operation (after_locals (next core) set about.count r).has

  pub record AreSafe (runners : List (Runner Position)) : Type 0 where
    pub each : (h : ℕ) (r : Runner Position) → slice_get runners h ≡ Some r → IsSafeRunner r
