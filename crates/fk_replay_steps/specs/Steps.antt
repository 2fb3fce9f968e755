-- Operations that are due, and what processors have left to do.
use Rattle.std.specs.Prelude.{ℕ, true, List, reverse}
use Rattle.fk_space.specs.Space.{IsSpace}
use Rattle.fk_meaning_operation.specs.declared.operation.Operation.{Operation}
use Rattle.fk_meaning_operation.specs.declared.operation.Operation.TheVariants.{Leave}
use Rattle.fk_meaning.specs.Processor as processors
use Rattle.fk_meaning.specs.Round.{Step, Runner}
use Rattle.fk_meaning_state.specs.View.{processor_of}
use Rattle.fk_core.specs.declared.op.CoreOp.{CoreOp}
use Rattle.fk_core.specs.Next.{Position, position, follows}
use Rattle.fk_replay_steps.specs.declared.list.Due.{Due}
use Rattle.fk_replay_steps.specs.declared.runner.Runner as code

-- the step of an operation that is due in a call for which others wait
abbrev pub step_at : List CoreOp → (callers : List ℕ) → Due → Step Position
step_at ops callers due = record {
  operation = due.operation;
  site = due.site;
  rest = follows ops due.operation due.at due.target callers;
}

-- the code's lists have the last call at their end
abbrev pub callers_of : code.Runner → List ℕ
callers_of r = reverse r.returns.items

abbrev pub position_of : code.Runner → Position
position_of r = position r.at (callers_of r)

abbrev pub runner_of : code.Runner → Runner Position
runner_of r = record { left = position_of r; has = processor_of r.processor }

-- the frames of the running call can be given back: the rest of its group's space is a space
abbrev pub CanGiveBack : processors.Processor → Type 0
CanGiveBack p = IsSpace (record (p.level.space) { frames = p.call.frames 0 })

-- an operation that ends a call with frames can give them back
abbrev pub GivesBack : Operation → processors.Processor → Type 0
GivesBack (Leave gives true) p = CanGiveBack p
GivesBack operation p = Unit {0}
