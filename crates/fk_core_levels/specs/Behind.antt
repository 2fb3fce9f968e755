-- One number for each call of a list, above all private words that it names.
use Rattle.std.specs.Prelude.{◌≡◌, ℕ, suc, ◌<◌, ◌≤◌, nat_lt, Bool, List, [], length, Option, Some}
use Rattle.std.specs.Prelude.{None, slice_get, if◌then◌else◌}
use Rattle.fk_meaning_operation.specs.declared.operation.Operation.{Operation}
use Rattle.fk_meaning_operation.specs.declared.operation.Operation.TheVariants.{Get, Set, Enter}
use Rattle.fk_meaning_operation.specs.declared.operation.Operation.TheVariants.{Leave, Halt}
use Rattle.fk_meaning_operation.specs.declared.operation.OwnValue.TheVariants.{Value}
use Rattle.fk_meaning_operation.specs.declared.operation.Variable.TheVariants.{Private}
use Rattle.fk_core.specs.declared.op.CoreOp.{CoreOp}
use Rattle.fk_core.specs.Next.{is_jump, behind_jump, follows}
use Rattle.fk_core_levels.specs.Count.{read}

-- The number of private words up to one. A frame has no room for words from 64 on.
abbrev pub up_to : (word : ℕ) → ℕ
up_to word = if nat_lt word 64 then suc word else 0

-- The number of private words up to the one that an operation names.
abbrev pub named : Option Operation → ℕ
named (Some (Get (Value (Private word)))) = up_to word
named (Some (Set (Private word))) = up_to word
named operation = 0

module _ (core : List CoreOp) where
  -- Where the running call goes on after an index, on one of two ways. Where it ends it stays.
  abbrev pub goes_on : Operation → (i target : ℕ) → (onward : Bool) → ℕ
  goes_on (Leave gives framed) i target onward = i
  goes_on Halt i target onward = i
  goes_on (Enter arguments) i target onward = behind_jump core (suc i)
  goes_on operation i target onward = (follows core operation i target [] onward).at

  abbrev pub goes_on_by : Option Operation → (i target : ℕ) → (onward : Bool) → ℕ
  goes_on_by None i target onward = i
  goes_on_by (Some operation) i target onward = goes_on operation i target onward

  abbrev pub leads_by : Option CoreOp → (i : ℕ) → (onward : Bool) → ℕ
  leads_by None i onward = i
  leads_by (Some op) i onward = if is_jump op then op.target
      else goes_on_by (read op) i op.target onward

  abbrev pub leads : (i : ℕ) → (onward : Bool) → ℕ
  leads i onward = leads_by (slice_get core i) i onward

  -- A number for each index is above each word that is named there, and stays where the call goes
  -- on in the list.
  pub record IsBound (bound : (index : ℕ) → ℕ) : Type 0 where
    pub holds : (i : ℕ) (op : CoreOp) → slice_get core i ≡ Some op → named (read op) ≤ bound i
    pub stays : (i : ℕ) (onward : Bool) → i < length core → leads i onward < length core
        → bound (leads i onward) ≡ bound i

  -- No such numbers are lower.
  abbrev pub IsLeast : (bound : (index : ℕ) → ℕ) → Type 0
  IsLeast bound = (other : (index : ℕ) → ℕ) → IsBound other → (i : ℕ) → bound i ≤ other i
