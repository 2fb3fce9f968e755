-- The jumps that are left lead to where all of them do.
use Rattle.std.proofs.Common.{◌≡◌, ◌-◌, length}
use Rattle.fk_core.specs.Next.{landing, landing_by}
use Rattle.fk_replay_steps.proofs.list.landing.Given as goal

abbrev pub invariant-loop : goal.invariant-loop
invariant-loop l = landing_by l.ops (length l.ops - l.counter) l.at ≡ landing l.ops l.from
