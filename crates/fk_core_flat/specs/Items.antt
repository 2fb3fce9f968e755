-- The entries of a flat list.
use Rattle.std.specs.Prelude.{◌≡◌, ℕ, suc, ◌+◌, Bool, true, false, List, [], ◌∷◌, slice_get, Some}
use Rattle.fk_meaning_operation.specs.declared.operation.Operation.{Operation}
use Rattle.fk_meaning_operation.specs.declared.operation.Operation.TheVariants as o
use Rattle.fk_meaning_operation.specs.Kinds.{kind_of}
use Rattle.fk_core.specs.declared.op.CoreOp.{CoreOp}
use Rattle.fk_core.specs.Numbers.{operation_of}
use Rattle.fk_core.specs.Next.{is_jump}

-- A jump to an index, or an operation with its site and a target.
pub data Item : Type 0 where
  jump : (target : ℕ) → Item
  act : (site : ℕ) (operation : Operation) (target : ℕ) → Item

-- An entry of a list is this item, with any depth.
abbrev pub IsItem : Item → CoreOp → Type 0
IsItem (jump target) op = (is_jump op ≡ true) × (op.target ≡ target)
IsItem (act site operation target) op =
    (operation_of op.kind op.number ≡ Some operation) × (op.site ≡ site) × (op.target ≡ target)

-- The list has these items, one after another, from an index on.
abbrev pub Has : (core : List CoreOp) → (i : ℕ) → List Item → Type 0
Has core i [] = Unit {0}
Has core i (item ∷ items) = ((op : CoreOp) × (slice_get core i ≡ Some op) × IsItem item op)
    × Has core (suc i) items

-- Where an operation goes on: at the next index; there or at its target; at its target; into a
-- function; or out of it.
pub data Way : Type 0 where
  straight : Way
  either : Way
  onto : Way
  into : Way
  out : Way

abbrev pub way_of : Operation → Way
way_of (o.Branch onward) = either
way_of o.Begin = either
way_of (o.Split by) = either
way_of o.Shrink = either
way_of o.Farm = either
way_of o.Seq = either
way_of o.End = onto
way_of (o.Enter arguments) = into
way_of (o.Leave gives framed) = out
way_of o.Halt = out
way_of operation = straight

-- An operation that goes onto its target never goes on at the next index, so no jump follows it.
-- One that goes straight on or out has target 0, which nothing reads.
abbrev pub goes_away : Way → Bool
goes_away onto = true
goes_away way = false

abbrev pub aim : Way → (target : ℕ) → ℕ
aim onto target = target
aim way target = 0

-- The operations among items, each with its kind and its site.
abbrev pub acts : List Item → List (ℕ × ℕ)
acts [] = []
acts (jump target ∷ items) = acts items
acts (act site operation target ∷ items) = (kind_of operation, site) ∷ acts items

-- The number of jumps, and the number of calls.
abbrev pub jumps : List Item → ℕ
jumps [] = 0
jumps (jump target ∷ items) = suc (jumps items)
jumps (act site operation target ∷ items) = jumps items

abbrev pub one_call : Way → ℕ
one_call into = 1
one_call way = 0

abbrev pub calls : List Item → ℕ
calls [] = 0
calls (jump target ∷ items) = calls items
calls (act site operation target ∷ items) = one_call (way_of operation) + calls items
