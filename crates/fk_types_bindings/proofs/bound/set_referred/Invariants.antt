-- What the references so far refer to is set.
use Rattle.std.proofs.Common.{map, take}
use Rattle.fk_syntax.specs.Program.{ProgramTree}
use Rattle.fk_types_judgments.specs.Names.{Env}
use Rattle.fk_types_references.specs.View.{reference_of}
use Rattle.fk_types_bindings.specs.Known.{IsKnown}
use Rattle.fk_types_bindings.specs.Bound.{AreReferred}
use Rattle.fk_types_bindings.proofs.bound.set_referred.Given as goal

abbrev pub invariant-loop-reference : goal.invariant-loop-reference
invariant-loop-reference l = (env : Env) (program : ProgramTree) → IsKnown env program l.known
    → AreReferred env program (map reference_of (take l.reference-index l.references)) l.fn.numbers l.numbers
