-- The effect of operations on the values of a call, and on the parts around it.
use Rattle.std.specs.Prelude.{ℕ, Bool, if◌then◌else◌}
use Rattle.fk_meaning_operation.specs.declared.operation.Operation.{Operation}
use Rattle.fk_meaning_operation.specs.declared.operation.Operation.TheVariants as o
use Rattle.fk_meaning_operation.specs.declared.operation.SplitKind.{SplitKind}
use Rattle.fk_meaning_operation.specs.declared.operation.SplitKind.TheVariants.{Loop, Fork}

-- the part of a loop has all members. A `fork` takes the number of parts, which part and which `$`.
-- Every other split takes a condition
abbrev pub split_takes : SplitKind → ℕ
split_takes Loop = 0
split_takes Fork = 3
split_takes split = 1

-- the number of values that an operation takes
abbrev pub takes : Operation → ℕ
takes o.DropLast = 1
takes (o.Apply sign) = 1
takes (o.Binary operator turned) = 2
takes (o.Index bytes) = 2
takes (o.Branch onward) = 1
takes o.Take = 1
takes (o.Leave gives framed) = if gives then 1 else 0
takes o.Read = 1
takes o.Write = 2
takes (o.Combine by) = 2
takes o.PrintNumber = 1
takes o.PrintByte = 1
takes o.Heap = 1
takes (o.Enter arguments) = arguments
takes o.Begin = 1
takes o.Block = 1
takes (o.Split split) = split_takes split
takes o.Shrink = 1
takes operation = 0

-- the number of values that an operation then pushes
abbrev pub pushes : Operation → ℕ
pushes (o.Push n) = 1
pushes (o.Get known) = 1
pushes o.CopyLast = 1
pushes (o.Apply sign) = 1
pushes (o.Binary operator turned) = 1
pushes (o.Index bytes) = 1
pushes o.Take = 1
pushes o.Read = 1
pushes o.Write = 1
pushes (o.Combine by) = 1
pushes o.Heap = 1
pushes o.Block = 1
pushes operation = 0

-- the number of parts that an operation begins around the code that follows it
abbrev pub nests : Operation → ℕ
nests o.Begin = 1
nests (o.Split split) = 1
nests o.Farm = 1
nests o.Seq = 1
nests operation = 0

-- the number of values that a function returns
abbrev pub results : (void : Bool) → ℕ
results void = if void then 0 else 1
