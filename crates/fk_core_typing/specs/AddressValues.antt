-- What is known of values after an operation. The last value has the number 0.
use Rattle.std.specs.Prelude.{ℕ, zero, suc, ◌+◌, ◌/◌, ◌%◌, ◌==◌, Bool, false, not, ◌||◌, List}
use Rattle.std.specs.Prelude.{Option, Some, None, if◌then◌else◌}
use Rattle.fk_num.specs.Word.{word}
use Rattle.fk_num.specs.Op.{applied}
use Rattle.fk_num.specs.declared.operator.Op.{Op}
use Rattle.fk_num.specs.declared.operator.Op.TheVariants.{Add}
use Rattle.fk_meaning_operation.specs.declared.operation.Operation.{Operation}
use Rattle.fk_meaning_operation.specs.declared.operation.OwnValue.TheVariants.{FrameAddress}
use Rattle.fk_meaning_operation.specs.declared.operation.Operation.TheVariants.{Push, Get, DropLast}
use Rattle.fk_meaning_operation.specs.declared.operation.Operation.TheVariants.{CopyLast, Apply}
use Rattle.fk_meaning_operation.specs.declared.operation.Operation.TheVariants.{Binary, Index}
use Rattle.fk_meaning_operation.specs.declared.operation.Operation.TheVariants.{Branch, Take, Check}
use Rattle.fk_meaning_operation.specs.declared.operation.Operation.TheVariants.{Read, Write}
use Rattle.fk_meaning_operation.specs.declared.operation.Operation.TheVariants.{Combine}
use Rattle.fk_meaning_operation.specs.declared.operation.Operation.TheVariants.{PrintNumber}
use Rattle.fk_meaning_operation.specs.declared.operation.Operation.TheVariants.{PrintByte, Heap}
use Rattle.fk_meaning_operation.specs.declared.operation.Operation.TheVariants.{Begin, Agree, Block}
use Rattle.fk_meaning_operation.specs.declared.operation.Operation.TheVariants.{Split, Shrink}
use Rattle.fk_meaning_operation.specs.declared.operation.SplitKind.{SplitKind}
use Rattle.fk_meaning_operation.specs.declared.operation.SplitKind.TheVariants.{AndThen, OrElse}
use Rattle.fk_meaning_store.specs.Serve.{may_use}
use Rattle.fk_meaning.specs.Local.{in_order}
use Rattle.fk_meaning.specs.Group.{taken_by}
use Rattle.fk_lockstep_frames.specs.Nests.{Nest, has_word}
use Rattle.fk_core_typing.specs.declared.change.Change.{Change}
use Rattle.fk_core_typing.specs.declared.constants.Constant.{Constant}
use Rattle.fk_core_typing.specs.declared.constants.Constant.TheVariants.{Number, FrameWord}
use Rattle.fk_core_typing.specs.declared.constants.Constants.{Constants}

-- Some values are dropped, and one is pushed that is an address or may be any value, or none is
-- pushed.
abbrev pub by : (drops : ℕ) → (pushes : Option Bool) → Change
by drops pushes = record { drops = drops; pushes = pushes }

abbrev pub unknown : Option Bool
unknown = Some false

abbrev pub pushed : Option Bool → (known : ℕ → Bool) → (value : ℕ) → Bool
pushed None known value = known value
pushed (Some address) known zero = address
pushed (Some address) known (suc value) = known value

-- The values that are known to be addresses after a change.
abbrev pub after : Change → (known : ℕ → Bool) → (value : ℕ) → Bool
after change known value = pushed change.pushes (λ v. known (change.drops + v)) value

-- The constants that the last two values are, if they are known.
abbrev pub constants : (last second : Option Constant) → Constants
constants last second = record { last = last; second = second }

abbrev pub no_constants : Constants
no_constants = constants None None

-- The address that is some bytes behind that of a word of a frame, if it is that of a word.
abbrev pub behind_word : (nesting word bytes : ℕ) → Option Constant
behind_word nesting word bytes =
    if bytes % 4 == 0 then Some (FrameWord nesting (word + bytes / 4)) else None

-- An operator on two numbers gives a number, and a member of a struct has an address behind that of
-- the struct.
abbrev pub joined_constant : Op → (turned : Bool) → (second last : Option Constant)
    → Option Constant
joined_constant sign turned (Some (Number a)) (Some (Number b)) =
    Some (Number (in_order turned (applied sign) a b))
joined_constant Add turned (Some (FrameWord nesting word)) (Some (Number bytes)) =
    behind_word nesting word bytes
joined_constant sign turned second last = None

abbrev pub constants_behind : Operation → Constants → Constants
constants_behind (Push n) known = constants (Some (Number (word n))) known.last
constants_behind (Get (FrameAddress nesting word)) known =
    constants (Some (FrameWord nesting word)) known.last
constants_behind (Binary sign turned) known =
    constants (joined_constant sign turned known.second known.last) None
constants_behind operation known = no_constants

-- A number may be an address, and a word of a frame that the call has taken has one.
abbrev pub is_address : (shared_alone : Bool) → List Nest → (constant : Option Constant) → Bool
is_address shared_alone nests None = false
is_address shared_alone nests (Some (Number n)) = may_use shared_alone n
is_address shared_alone nests (Some (FrameWord nesting word)) = has_word nests nesting word

-- Members that wait at `&&` and `||` get the value of the whole.
abbrev pub pushed_by : SplitKind → (onward : Bool) → Option Bool
pushed_by AndThen false = unknown
pushed_by OrElse false = unknown
pushed_by split onward = None

-- The change by an operation that goes on in its function, on the branch that it takes. A constant
-- may be an address, a check passes only addresses, and what a group agrees on may be another
-- member's value.
abbrev pub change : (shared_alone : Bool) → List Nest → Operation → (onward last : Bool)
    → Constants → Change
change shared_alone nests (Push n) onward last known =
    by 0 (Some (is_address shared_alone nests (Some (Number (word n)))))
change shared_alone nests (Get (FrameAddress nesting word)) onward last known =
    by 0 (Some (is_address shared_alone nests (Some (FrameWord nesting word))))
change shared_alone nests (Get variable) onward last known = by 0 unknown
change shared_alone nests CopyLast onward last known = by 0 (Some last)
change shared_alone nests DropLast onward last known = by 1 None
change shared_alone nests (Branch way) onward last known = by 1 None
change shared_alone nests PrintNumber onward last known = by 1 None
change shared_alone nests PrintByte onward last known = by 1 None
change shared_alone nests Begin onward last known = by 1 None
change shared_alone nests Shrink onward last known = by 1 None
change shared_alone nests (Apply sign) onward last known = by 1 unknown
change shared_alone nests Take onward last known = by 1 unknown
change shared_alone nests Heap onward last known = by 1 unknown
change shared_alone nests Block onward last known = by 1 unknown
change shared_alone nests Agree onward last known = by 1 unknown
change shared_alone nests Read onward last known = by 1 unknown
change shared_alone nests (Binary sign turned) onward last known =
    by 2
    (Some (is_address shared_alone nests (joined_constant sign turned known.second known.last)))
change shared_alone nests (Index size) onward last known = by 2 unknown
change shared_alone nests Write onward last known = by 2 unknown
change shared_alone nests (Combine operator) onward last known = by 2 unknown
change shared_alone nests (Check checked) onward last known =
    by 1 (Some (last || (checked || not shared_alone)))
change shared_alone nests (Split split) onward last known =
    by (taken_by split) (pushed_by split onward)
change shared_alone nests operation onward last known = by 0 None

-- The change by a whole call.
abbrev pub called : (arguments : ℕ) → (gives : Bool) → Change
called arguments gives = by arguments (if gives then unknown else None)

abbrev pub unchanged : Change
unchanged = by 0 None
