-- Requests of processors and what they come to.
use Rattle.std.specs.Prelude.{◌≡◌, ℕ, IsTrue, Result, Ok, Err}
use Rattle.fk_meaning_operation.specs.declared.operation.Operation.{Operation}
use Rattle.fk_meaning_operation.specs.declared.kinds.FaultKind.{FaultKind}
use Rattle.fk_meaning_store.specs.Store.{Store}
use Rattle.fk_meaning_store.specs.Serve.{Served, Faults, serve, can_serve}
use Rattle.fk_meaning.specs.Processor.{Processor}
use Rattle.fk_meaning.specs.Request.{request, with_answer}

-- the request can be served once there is room for a line of output: its address may be used
abbrev pub CanAsk : Operation → Processor → Type 0
CanAsk operation p = IsTrue (can_serve 12 (request operation p))

-- a request was served, and the processor took the answer; or it faulted, which changes nothing
abbrev pub IsServed : Operation → (old new : Store) → (before after : Processor)
    → Result (Unit {0}) FaultKind → Type 0
IsServed operation old new before after (Ok _) =
    (answer : ℕ) × (serve (request operation before) old before.number ≡ Served new answer)
    × (after ≡ with_answer operation answer before)
IsServed operation old new before after (Err kind) =
    (serve (request operation before) old before.number ≡ Faults kind)
    × (new ≡ old) × (after ≡ before)
