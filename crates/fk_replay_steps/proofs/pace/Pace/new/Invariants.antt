use Rattle.std.proofs.Common.{◌≡◌, ℕ, None, Option, replicate}
use Rattle.fk_replay_steps.proofs.pace.Pace.new.Given as goal

abbrev pub invariant-loop : goal.invariant-loop
invariant-loop l = l.since.items ≡ replicate {A = Option ℕ} l.counter None
