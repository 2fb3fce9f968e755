-- An operation as a visitor is shown it. A number that doesn't fit into a word is shown as the
-- greatest word.
use Rattle.std.specs.Prelude.{ℕ, ◌-◌, ◌^◌, min}
use Rattle.fk_meaning_operation.specs.declared.operation.Operation.{Operation}
use Rattle.fk_meaning_operation.specs.declared.operation.Operation.TheVariants as o
use Rattle.fk_meaning_operation.specs.declared.operation.Variable.{Variable}
use Rattle.fk_meaning_operation.specs.declared.operation.Variable.TheVariants as v
use Rattle.fk_meaning_operation.specs.declared.operation.OwnValue.{OwnValue}
use Rattle.fk_meaning_operation.specs.declared.operation.OwnValue.TheVariants as k

abbrev pub as_word : ℕ → ℕ
as_word n = min n (2 ^ 32 - 1)

abbrev pub shown_variable : Variable → Variable
shown_variable (v.Private n) = v.Private (as_word n)
shown_variable (v.OfFile n) = v.OfFile (as_word n)

abbrev pub shown_known : OwnValue → OwnValue
shown_known (k.Value variable) = k.Value (shown_variable variable)
shown_known (k.FrameAddress nesting number) = k.FrameAddress (as_word nesting) (as_word number)
shown_known known = known

abbrev pub shown : Operation → Operation
shown (o.Push n) = o.Push (as_word n)
shown (o.Get known) = o.Get (shown_known known)
shown (o.Set variable) = o.Set (shown_variable variable)
shown (o.Index n) = o.Index (as_word n)
shown (o.Enter n) = o.Enter (as_word n)
shown (o.Frame nesting words) = o.Frame (as_word nesting) (as_word words)
shown op = op
