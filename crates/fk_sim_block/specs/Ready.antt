-- What holds of a processor that is about to do an operation.
use Rattle.std.specs.Prelude.{◌≡◌, ℕ, ◌<◌, ◌≤◌, ◌^◌, [], length, Bool, true, false, All}
use Rattle.fk_meaning_operation.specs.Kinds.{class_of}
use Rattle.fk_meaning_operation.specs.declared.kinds.Class.{Class}
use Rattle.fk_meaning_operation.specs.declared.kinds.Class.TheVariants.{Local, Request, Tree}
use Rattle.fk_meaning_operation.specs.declared.operation.Operation.{Operation}
use Rattle.fk_meaning_operation.specs.declared.operation.Operation.TheVariants.{Leave, Read}
use Rattle.fk_meaning_operation.specs.declared.operation.Operation.TheVariants.{Write, Combine}
use Rattle.fk_meaning_operation.specs.declared.operation.Operation.TheVariants.{Halt, Frame}
use Rattle.fk_meaning_operation.specs.declared.operation.Operation.TheVariants.{Block}
use Rattle.fk_space.specs.Space.{IsSpace}
use Rattle.fk_meaning_store.specs.Store.{private_words}
use Rattle.fk_meaning_store.specs.Serve.{may_use}
use Rattle.fk_meaning.specs.Processor.{Processor, values, last}
use Rattle.fk_meaning.specs.Request.{address}
use Rattle.fk_meaning.specs.Round.{Runner}
use Rattle.fk_core.specs.declared.op.CoreOp.{CoreOp}
use Rattle.fk_core.specs.Next.{Position}

-- Local operations and requests are no steps of the tree. Processors do all of them without groups.
abbrev pub is_no_step : Class → Bool
is_no_step Local = true
is_no_step Request = true
is_no_step Tree = false

abbrev pub is_alone : Operation → Bool
is_alone operation = is_no_step (class_of operation)

-- A processor may do an operation: an address was checked before it is used, a return has a call to
-- return to, only `main` halts, and words are taken of a space.
abbrev pub MayDo : Operation → Runner Position → Type 0
MayDo Read r = may_use false (last (values r.has)) ≡ true
MayDo Write r = may_use false (address r.has) ≡ true
MayDo (Combine by) r = may_use true (address r.has) ≡ true
MayDo (Leave gives framed) r = 0 < length r.left.callers
MayDo Halt r = r.left.callers ≡ []
MayDo (Frame number words) r = IsSpace r.has.level.space
MayDo Block r = IsSpace r.has.level.space
MayDo operation r = Unit {0}

-- The values and variables of a processor are words, it has taken no more of its private heap than
-- there is, and fewer than 256 calls wait.
pub record IsInRange (p : Processor) : Type 0 where
  pub values : All (λ v. v < 2 ^ 32) p.call.values
  pub privates : (i : ℕ) → p.call.privates i < 2 ^ 32
  pub own : (i : ℕ) → p.own i < 2 ^ 32
  pub top : p.top ≤ private_words
  pub waiting : length p.callers < 256

-- A processor may do an operation, has as many values as the operation expects, and is in range.
pub record IsReady (op : CoreOp) (operation : Operation) (r : Runner Position) : Type 0 where
  pub depth : length (values r.has) ≡ op.depth
  pub may : MayDo operation r
  pub in_range : IsInRange r.has
