-- How a processor goes through the groups and bodies of a program, as determined by its operations
-- alone.
use Rattle.std.specs.Prelude.{◌≡◌, ℕ, zero, suc, Bool, true, false, Option, Some, None}
use Rattle.std.specs.Prelude.{if◌then◌else◌}
use Rattle.fk_meaning_operation.specs.Kinds.{class_of}
use Rattle.fk_meaning_operation.specs.declared.kinds.Class.{Class}
use Rattle.fk_meaning_operation.specs.declared.kinds.Class.TheVariants as class
use Rattle.fk_meaning_operation.specs.declared.operation.SplitKind.{SplitKind}
use Rattle.fk_meaning_operation.specs.declared.operation.SplitKind.TheVariants.{IfElse}
use Rattle.fk_meaning_operation.specs.declared.operation.Operation.{Operation}
use Rattle.fk_meaning_operation.specs.declared.operation.Operation.TheVariants as o
use Rattle.fk_meaning.specs.Round.{Step}

-- where a processor is: by itself in the root; in a group, in lockstep; in a body of a group, by
-- itself; or at the end of a body, where the members wait that don't enter it. The depth is the
-- number of groups around that group: 0 for that of a `start`. A processor that waits for parts is
-- in as many groups as the depth tells: in none if it waits in the root for the group of a `start`
pub data Where : Type 0 where
  InRoot : Where
  Waits : (depth : ℕ) → Where
  InGroup : (depth : ℕ) → Where
  InBody : (depth : ℕ) → Where
  BehindBody : (depth : ℕ) → Where

-- local operations and requests don't move a processor
abbrev pub stays : Class → Where → Option Where
stays class.Local place = Some place
stays class.Request place = Some place
stays class.Tree place = None

-- after waiting, a processor goes on in its group, or by itself in the root
abbrev pub behind_waiting : (depth : ℕ) → Where
behind_waiting zero = InRoot
behind_waiting (suc n) = InGroup n

-- a member enters a part, or waits in its group
abbrev pub divides : SplitKind → (depth : ℕ) → (onward : Bool) → Option Where
divides IfElse n onward = Some (InGroup (suc n))
divides by n onward = Some (if onward then InGroup (suc n) else Waits (suc n))

-- a member goes on in the loop, or leaves the part of the loop. The group of a `start` is no such
-- part
abbrev pub shrinks : (depth : ℕ) → (onward : Bool) → Option Where
shrinks zero onward = None
shrinks (suc n) onward = Some (if onward then InGroup (suc n) else Waits (suc n))

-- where a processor is after an operation; `None` if the operation may not occur there. Only a
-- group splits, takes frames and blocks of its space, and gives frames back
abbrev pub goes : Where → Operation → (onward : Bool) → Option Where
goes InRoot (o.Leave gives true) onward = None
goes InRoot o.Begin onward = Some (if onward then InGroup 0 else Waits 0)
goes InRoot (o.Meet false) onward = Some InRoot
goes InRoot o.Halt onward = Some InRoot
goes InRoot operation onward = stays (class_of operation) InRoot
goes (Waits n) o.Resume onward = Some (behind_waiting n)
goes (Waits n) operation onward = None
goes (InGroup n) o.Agree onward = Some (InGroup n)
goes (InGroup n) (o.Frame nesting words) onward = Some (InGroup n)
goes (InGroup n) o.Block onward = Some (InGroup n)
goes (InGroup n) (o.Split by) onward = divides by n onward
goes (InGroup n) o.Shrink onward = shrinks n onward
goes (InGroup n) o.Farm onward = Some (if onward then InBody n else BehindBody n)
goes (InGroup n) o.Seq onward = Some (if onward then InBody n else BehindBody n)
goes (InGroup n) o.End onward = Some (Waits n)
goes (InGroup n) operation onward = stays (class_of operation) (InGroup n)
goes (InBody n) (o.Leave gives true) onward = None
goes (InBody n) (o.Meet true) onward = Some (InGroup n)
goes (InBody n) (o.Meet false) onward = Some (InBody n)
goes (InBody n) operation onward = stays (class_of operation) (InBody n)
goes (BehindBody n) (o.Meet true) onward = Some (InGroup n)
goes (BehindBody n) operation onward = None

module _ {W : Type 0} (next : W → Option (Step W)) where
  -- only in the root a processor may have nothing left
  abbrev pub GoesNext : (Goes : Where → W → Type 0) → Where → Option (Step W) → Type 0
  GoesNext Goes place None = place ≡ InRoot
  GoesNext Goes place (Some step) =
      (onward : Bool)
      → (to : Where) × (goes place step.operation onward ≡ Some to) × Goes to (step.rest onward)

  -- for this many operations, whichever branches are taken
  abbrev pub GoesFor : (operations : ℕ) → Where → W → Type 0
  GoesFor zero place here = Unit {0}
  GoesFor (suc n) place here = GoesNext (GoesFor n) place (next here)

  abbrev pub Goes : Where → W → Type 0
  Goes place here = (operations : ℕ) → GoesFor operations place here
