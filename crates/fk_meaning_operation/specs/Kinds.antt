-- The numbers of the kinds of operations, and the properties of each kind.
use Rattle.std.specs.Prelude.{ℕ, ◌==◌, ◌||◌, nat_lt, true, false, Option, Some, None, if◌then◌else◌}
use Rattle.fk_meaning_operation.specs.declared.operation.Multiprefix.{Multiprefix}
use Rattle.fk_meaning_operation.specs.declared.operation.Multiprefix.TheVariants.{MpAdd, MpMax}
use Rattle.fk_meaning_operation.specs.declared.operation.Multiprefix.TheVariants.{MpAnd, MpOr}
use Rattle.fk_meaning_operation.specs.declared.operation.Operation.{Operation}
use Rattle.fk_meaning_operation.specs.declared.operation.Operation.TheVariants.{Push, Get, Set}
use Rattle.fk_meaning_operation.specs.declared.operation.Operation.TheVariants.{DropLast, CopyLast}
use Rattle.fk_meaning_operation.specs.declared.operation.Operation.TheVariants.{Apply, Binary}
use Rattle.fk_meaning_operation.specs.declared.operation.Operation.TheVariants.{Index, Branch, Take}
use Rattle.fk_meaning_operation.specs.declared.operation.Operation.TheVariants.{Leave, Check, Read}
use Rattle.fk_meaning_operation.specs.declared.operation.Operation.TheVariants.{Write, Combine}
use Rattle.fk_meaning_operation.specs.declared.operation.Operation.TheVariants.{PrintNumber}
use Rattle.fk_meaning_operation.specs.declared.operation.Operation.TheVariants.{PrintByte, Heap}
use Rattle.fk_meaning_operation.specs.declared.operation.Operation.TheVariants.{Enter, Begin, Agree}
use Rattle.fk_meaning_operation.specs.declared.operation.Operation.TheVariants.{Frame, Block, Split}
use Rattle.fk_meaning_operation.specs.declared.operation.Operation.TheVariants.{Shrink, End, Resume}
use Rattle.fk_meaning_operation.specs.declared.operation.Operation.TheVariants.{Farm, Seq, Meet}
use Rattle.fk_meaning_operation.specs.declared.operation.Operation.TheVariants.{Halt}
use Rattle.fk_meaning_operation.specs.declared.kinds.Class.{Class}
use Rattle.fk_meaning_operation.specs.declared.kinds.Class.TheVariants.{Local, Request, Tree}
use Rattle.fk_meaning_operation.specs.declared.kinds.Joint.{Joint}
use Rattle.fk_meaning_operation.specs.declared.kinds.Joint.TheVariants.{Alone, Starting, AtBarrier}
use Rattle.fk_meaning_operation.specs.declared.kinds.Joint.TheVariants.{Closing, Resuming}
use Rattle.fk_meaning_operation.specs.declared.kinds.FaultKind.{FaultKind}
use Rattle.fk_meaning_operation.specs.declared.kinds.FaultKind.TheVariants.{BadAddress, CallDepth}
use Rattle.fk_meaning_operation.specs.declared.kinds.FaultKind.TheVariants.{GroupSpace}

abbrev pub multiprefix_kind : Multiprefix → ℕ
multiprefix_kind MpAdd = 15
multiprefix_kind MpMax = 16
multiprefix_kind MpAnd = 17
multiprefix_kind MpOr = 18

abbrev pub multiprefix_of : (kind : ℕ) → Option Multiprefix
multiprefix_of kind =
    if kind == 15 then Some MpAdd
    else if kind == 16 then Some MpMax
    else if kind == 17 then Some MpAnd
    else if kind == 18 then Some MpOr
    else None

-- the number of an operation's kind
abbrev pub kind_of : Operation → ℕ
kind_of (Push n) = 1
kind_of (Get k) = 2
kind_of (Set w) = 3
kind_of DropLast = 4
kind_of CopyLast = 5
kind_of (Apply s) = 6
kind_of (Binary s t) = 7
kind_of (Index n) = 8
kind_of (Branch b) = 9
kind_of Take = 10
kind_of (Leave g f) = 11
kind_of (Check s) = 12
kind_of Read = 13
kind_of Write = 14
kind_of (Combine by) = multiprefix_kind by
kind_of PrintNumber = 19
kind_of PrintByte = 20
kind_of Heap = 21
kind_of (Enter n) = 22
kind_of Begin = 23
kind_of Agree = 24
kind_of (Frame n w) = 25
kind_of Block = 26
kind_of (Split s) = 27
kind_of Shrink = 28
kind_of End = 29
kind_of Resume = 30
kind_of Farm = 31
kind_of Seq = 32
kind_of (Meet c) = 33
kind_of Halt = 34

-- kinds below 12 are local, those below 23 are requests, and the others are steps of the tree
abbrev pub class_of_kind : (kind : ℕ) → Class
class_of_kind kind = if nat_lt kind 12 then Local else if nat_lt kind 23 then Request else Tree

abbrev pub class_of : Operation → Class
class_of operation = class_of_kind (kind_of operation)

-- what the processors at a joint operation do together
abbrev pub joint_of : Operation → Joint
joint_of Begin = Starting
joint_of (Meet false) = AtBarrier
joint_of (Meet true) = Closing
joint_of Resume = Resuming
joint_of operation = Alone

-- the fault that an operation of a kind can have: checks, enters, frames and splits have one
abbrev pub fault_of : (kind : ℕ) → Option FaultKind
fault_of kind =
    if kind == 12 then Some BadAddress
    else if kind == 22 then Some CallDepth
    else if (kind == 25) || (kind == 27) then Some GroupSpace
    else None
