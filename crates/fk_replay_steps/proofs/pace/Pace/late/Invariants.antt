-- No round is late for the processors so far.
use Rattle.std.proofs.Common.{◌≡◌, ℕ, ◌<◌, Some}
use Rattle.fk_replay_steps.specs.Pace.{since}
use Rattle.fk_replay_steps.proofs.pace.Pace.late.Given as goal

abbrev pub invariant-loop-processor : goal.invariant-loop-processor
invariant-loop-processor l = (h : ℕ) → h < l.processor → since l.self-inside.since.items h ≡ Some l.first → ⊥
