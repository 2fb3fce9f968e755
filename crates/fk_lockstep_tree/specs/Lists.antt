-- The runs of a list that has the code of a program.
use Rattle.std.specs.Prelude.{◌≡◌, ℕ, Bool, false, true, List, [], length, slice_get, Some, None}
use Rattle.fk_meaning_operation.specs.declared.operation.Operation.{Operation}
use Rattle.fk_meaning_forms.specs.Code.{Code}
use Rattle.fk_meaning.specs.Next as source
use Rattle.fk_meaning.specs.Processor.{Processor}
use Rattle.fk_meaning.specs.Next.{Work, going}
use Rattle.fk_core.specs.declared.op.CoreOp.{CoreOp}
use Rattle.fk_core.specs.Numbers.{operation_of}
use Rattle.fk_core.specs.Next.{position, landing, next}
use Rattle.fk_core.specs.CodeAt.{CodeAt}
use Rattle.fk_core.specs.WellFormed.{LeadsOn}
use Rattle.fk_lockstep.specs.Course.{ByItself, Follows}
use Rattle.fk_lockstep.specs.Counts.{Counts, ArePending, IsCounted}
use Rattle.fk_lockstep.specs.Frames.{IsFramed}
use Rattle.fk_lockstep_frames.specs.Lists.{HasLocalFrames}
use Rattle.fk_lockstep_structure.specs.Ahead.{all_outs}
use Rattle.fk_lockstep_structure.specs.Framed.{depth}
use Rattle.fk_lockstep_tree.specs.Led.{AreLed}
use Rattle.fk_lockstep_tree.specs.Runs.{AlwaysInTree}

-- no two operations have one site
abbrev pub HasOwnSites : List CoreOp → Type 0
HasOwnSites core =
    (i j : ℕ) (op other : CoreOp) (x y : Operation) → slice_get core i ≡ Some op
    → slice_get core j ≡ Some other
    → operation_of op.kind op.number ≡ Some x → operation_of other.kind other.number ≡ Some y
    → op.site ≡ other.site → i ≡ j

abbrev pub ListsStayInTrees : Type 0
ListsStayInTrees =
    (may_call : (in_group : Bool) → (function : ℕ) → Bool) (bodies : (binding : ℕ) → Code ℕ)
    (core : List CoreOp) (entry : (binding : ℕ) → ℕ) (main : ℕ) (counts : Counts Work)
    → LeadsOn core
    → ((binding : ℕ) → CodeAt core entry (bodies binding) None (entry binding) (length core))
    → HasOwnSites core → HasLocalFrames core (entry main) → AreLed may_call bodies main
    → Follows (source.next bodies) all_outs (ByItself false) (going (bodies main) [])
    → ((p : Processor)
    → ArePending (source.next bodies) all_outs counts (going (bodies main) []) p [])
    → IsCounted (source.next bodies) all_outs counts (going (bodies main) [])
    → IsFramed (source.next bodies) all_outs depth 0 true (going (bodies main) [])
    → AlwaysInTree (next core) (λ w. landing core w.at) (position (entry main) [])
