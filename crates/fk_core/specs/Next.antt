-- Runs of a flat list. What a processor has left to do is an index into the list, and the indices
-- to which its calls return.
use Rattle.std.specs.Prelude.{ℕ, zero, suc, ◌==◌, Bool, true, false, List, [], ◌∷◌, length}
use Rattle.std.specs.Prelude.{slice_get, slice_index, Option, Some, None, if◌then◌else◌}
use Rattle.fk_meaning_operation.specs.declared.operation.Operation.{Operation}
use Rattle.fk_meaning_operation.specs.declared.operation.Operation.TheVariants as o
use Rattle.fk_meaning.specs.Round.{Step, State}
use Rattle.fk_meaning.specs.Schedule as run
use Rattle.fk_core.specs.declared.op.CoreOp.{CoreOp}
use Rattle.fk_core.specs.Numbers.{operation_of}

-- An index, and the indices to which the running calls return, the last call's first.
pub record Position : Type 0 where
  pub at : ℕ
  pub callers : List ℕ

abbrev pub position : ℕ → List ℕ → Position
position i callers = record { at = i; callers = callers }

-- Kind 0 is a jump to the target, which is no operation.
abbrev pub is_jump : CoreOp → Bool
is_jump op = op.kind == 0

-- The operations that take one of two branches.
abbrev pub has_two_ways : Operation → Bool
has_two_ways (o.Branch onward) = true
has_two_ways o.Begin = true
has_two_ways (o.Split by) = true
has_two_ways o.Shrink = true
has_two_ways o.Farm = true
has_two_ways o.Seq = true
has_two_ways operation = false

-- The number of operations up to the first jump, including it.
abbrev pub past_jump : List CoreOp → ℕ
past_jump [] = 0
past_jump (op ∷ ops) = if is_jump op then 1 else suc (past_jump ops)

-- The index after the first jump from an index on.
abbrev pub behind_jump : List CoreOp → ℕ → ℕ
behind_jump ops zero = past_jump ops
behind_jump [] (suc i) = suc i
behind_jump (op ∷ ops) (suc i) = suc (behind_jump ops i)

-- A jump leads to where its target does. Anything else leads to itself.
abbrev pub through : Bool → (from : ℕ → ℕ) → (i target : ℕ) → ℕ
through true from i target = from target
through false from i target = i

abbrev pub led_by : Option CoreOp → (from : ℕ → ℕ) → (i : ℕ) → ℕ
led_by None from i = i
led_by (Some op) from i = through (is_jump op) from i op.target

module _ (core : List CoreOp) where
  -- The index to which at most `jumps` jumps lead from an index on.
  abbrev pub landing_by : (jumps : ℕ) → ℕ → ℕ
  landing_by zero i = i
  landing_by (suc jumps) i = led_by (slice_get core i) (landing_by jumps) i

  -- The index to which jumps lead in the end.
  abbrev pub landing : ℕ → ℕ
  landing i = landing_by (length core) i

  abbrev pub returned : List ℕ → Position
  returned [] = position (length core) []
  returned (i ∷ callers) = position i callers

  -- Where an operation goes on: at the next index, on its second branch at its target, and an end
  -- always at its target. A call returns to the index after the jump to the function's entry.
  abbrev pub follows : Operation → (i target : ℕ) → List ℕ → Bool → Position
  follows (o.Leave gives framed) i target callers onward = returned callers
  follows o.Halt i target callers onward = returned callers
  follows (o.Enter arguments) i target callers onward =
      position (suc i) (behind_jump core (suc i) ∷ callers)
  follows o.End i target callers onward = position target callers
  follows operation i target callers true = position (suc i) callers
  follows operation i target callers false =
      position (if has_two_ways operation then target else suc i) callers

  abbrev pub step_by : (i : ℕ) → List ℕ → CoreOp → Option Operation → Option (Step Position)
  step_by i callers op None = None
  step_by i callers op (Some operation) =
      Some (record {
        operation = operation;
        site = op.site;
        rest = follows operation i op.target callers;
      })

  abbrev pub step_of : (i : ℕ) → List ℕ → Option CoreOp → Option (Step Position)
  step_of i callers None = None
  step_of i callers (Some op) = step_by i callers op (operation_of op.kind op.number)

  -- The next operation of an index is the first one to which jumps lead.
  abbrev pub next : Position → Option (Step Position)
  next w = let i = landing w.at in step_of i w.callers (slice_get core i)

-- p processors at the entry of `main`.
abbrev pub list_opening : (main : ℕ) → (words firsts input : List ℕ) → (p : ℕ) → State Position
list_opening main words firsts input p =
    run.opening p words input (slice_index firsts) (position main [])
