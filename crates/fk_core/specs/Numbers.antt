-- The table of numbers: the operation for which a kind and a number stand.
use Rattle.std.specs.Prelude.{ℕ, ◌/◌, ◌%◌, ◌^◌, ◌<◌, ◌==◌, Bool, Option, Some}
use Rattle.std.specs.Prelude.{None, option_map, if◌then◌else◌}
use Rattle.fk_num.specs.declared.operator.Op.{Op}
use Rattle.fk_num.specs.declared.operator.Op.TheVariants as f
use Rattle.fk_meaning_operation.specs.declared.kinds.Class.{Class}
use Rattle.fk_meaning_operation.specs.declared.kinds.Class.TheVariants.{Local, Request, Tree}
use Rattle.fk_meaning_operation.specs.declared.operation.OwnValue.{OwnValue}
use Rattle.fk_meaning_operation.specs.declared.operation.OwnValue.TheVariants as k
use Rattle.fk_meaning_operation.specs.declared.operation.Operation.{Operation}
use Rattle.fk_meaning_operation.specs.declared.operation.Operation.TheVariants as o
use Rattle.fk_meaning_operation.specs.declared.operation.SplitKind.{SplitKind}
use Rattle.fk_meaning_operation.specs.declared.operation.SplitKind.TheVariants as s
use Rattle.fk_meaning_operation.specs.declared.operation.Unary.{Unary}
use Rattle.fk_meaning_operation.specs.declared.operation.Unary.TheVariants as u
use Rattle.fk_meaning_operation.specs.declared.operation.Variable.{Variable}
use Rattle.fk_meaning_operation.specs.declared.operation.Variable.TheVariants as v
use Rattle.fk_meaning_operation.specs.Kinds.{class_of_kind, multiprefix_of}

-- Odd numbers stand for true.
abbrev pub is_odd : ℕ → Bool
is_odd n = n % 2 == 1

-- The number of nestings: 0 is that of a function, and 1 to 128 are deeper.
abbrev pub nestings : ℕ
nestings = 129

-- A private word. Odd numbers are those of file scope.
abbrev pub variable_of : ℕ → Variable
variable_of n = if is_odd n then v.OfFile (n / 2) else v.Private (n / 2)

-- The values that a processor knows by itself, each with a number of its own.
abbrev pub known_of : (which : ℕ) → ℕ → OwnValue
known_of which n =
    if which == 0 then k.Value (variable_of n)
    else if which == 1 then k.FrameAddress (n % nestings) (n / nestings)
    else if which == 2 then k.Rank
    else if which == 3 then k.GroupNumber
    else if which == 4 then k.ProcessorNumber
    else if which == 5 then k.Processors
    else if which == 6 then k.GroupSize
    else if which == 7 then k.InputLength
    else k.InputAddress

abbrev pub unary_of : ℕ → Unary
unary_of n = if n == 0 then u.Negate else if n == 1 then u.Complement else u.Not

abbrev pub split_of : ℕ → SplitKind
split_of n =
    if n == 0 then s.IfAlone
    else if n == 1 then s.IfElse
    else if n == 2 then s.AndThen
    else if n == 3 then s.OrElse
    else if n == 4 then s.Loop
    else s.Fork

abbrev pub operator_of : ℕ → Op
operator_of n =
    if n == 0 then f.Add
    else if n == 1 then f.Sub
    else if n == 2 then f.Mul
    else if n == 3 then f.MulHS
    else if n == 4 then f.MulHSU
    else if n == 5 then f.MulHU
    else if n == 6 then f.DivS
    else if n == 7 then f.DivU
    else if n == 8 then f.RemS
    else if n == 9 then f.RemU
    else if n == 10 then f.And
    else if n == 11 then f.Or
    else if n == 12 then f.Xor
    else if n == 13 then f.Shl
    else if n == 14 then f.ShrS
    else if n == 15 then f.ShrU
    else if n == 16 then f.LtS
    else if n == 17 then f.LtU
    else if n == 18 then f.LeS
    else if n == 19 then f.LeU
    else if n == 20 then f.Eq
    else if n == 21 then f.Ne
    else if n == 22 then f.MinS
    else if n == 23 then f.MaxS
    else if n == 24 then f.MinU
    else f.MaxU

abbrev pub local_of : (kind : ℕ) → ℕ → Option Operation
local_of kind n =
    if kind == 1 then Some (o.Push n)
    else if kind == 2 then Some (o.Get (known_of (n % 9) (n / 9)))
    else if kind == 3 then Some (o.Set (variable_of n))
    else if kind == 4 then Some o.DropLast
    else if kind == 5 then Some o.CopyLast
    else if kind == 6 then Some (o.Apply (unary_of n))
    else if kind == 7 then Some (o.Binary (operator_of (n / 2)) (is_odd n))
    else if kind == 8 then Some (o.Index n)
    else if kind == 9 then Some (o.Branch (is_odd n))
    else if kind == 10 then Some o.Take
    else if kind == 11 then Some (o.Leave (is_odd (n / 2)) (is_odd n))
    else None

abbrev pub request_of : (kind : ℕ) → ℕ → Option Operation
request_of kind n =
    if kind == 12 then Some (o.Check (is_odd n))
    else if kind == 13 then Some o.Read
    else if kind == 14 then Some o.Write
    else if kind == 19 then Some o.PrintNumber
    else if kind == 20 then Some o.PrintByte
    else if kind == 21 then Some o.Heap
    else if kind == 22 then Some (o.Enter n)
    else option_map (λ by. o.Combine by) (multiprefix_of kind)

abbrev pub tree_step_of : (kind : ℕ) → ℕ → Option Operation
tree_step_of kind n =
    if kind == 23 then Some o.Begin
    else if kind == 24 then Some o.Agree
    else if kind == 25 then Some (o.Frame (n % nestings) (n / nestings))
    else if kind == 26 then Some o.Block
    else if kind == 27 then Some (o.Split (split_of n))
    else if kind == 28 then Some o.Shrink
    else if kind == 29 then Some o.End
    else if kind == 30 then Some o.Resume
    else if kind == 31 then Some o.Farm
    else if kind == 32 then Some o.Seq
    else if kind == 33 then Some (o.Meet (is_odd n))
    else if kind == 34 then Some o.Halt
    else None

abbrev pub operation_by : Class → (kind : ℕ) → ℕ → Option Operation
operation_by Local kind n = local_of kind n
operation_by Request kind n = request_of kind n
operation_by Tree kind n = tree_step_of kind n

-- Kind 0 and those above 34 stand for no operation.
abbrev pub operation_of : (kind : ℕ) → ℕ → Option Operation
operation_of kind n = operation_by (class_of_kind kind) kind n

-- The operations that have a number: all whose places, words and nestings are in range.
abbrev pub IsNear : Variable → Type 0
IsNear (v.Private i) = i < 2 ^ 26
IsNear (v.OfFile i) = i < 2 ^ 26

abbrev pub IsKnownNear : OwnValue → Type 0
IsKnownNear (k.Value variable) = IsNear variable
IsKnownNear (k.FrameAddress nesting word) = (word < 2 ^ 21) × (nesting < nestings)
IsKnownNear known = Unit {0}

abbrev pub HasNumber : Operation → Type 0
HasNumber (o.Get known) = IsKnownNear known
HasNumber (o.Set variable) = IsNear variable
HasNumber (o.Frame nesting words) = (words < 2 ^ 21) × (nesting < nestings)
HasNumber operation = Unit {0}
