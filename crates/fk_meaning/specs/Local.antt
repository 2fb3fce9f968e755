-- The effect of a local operation on its processor.
use Rattle.std.specs.Prelude.{ℕ, ◌+◌, ◌-◌, ◌*◌, ◌^◌, ◌==◌, nat_lt, Bool, true, false, not, List, []}
use Rattle.std.specs.Prelude.{◌∷◌, if◌then◌else◌}
use Rattle.fk_num.specs.Word.{word, put}
use Rattle.fk_num.specs.Op.{applied}
use Rattle.fk_num.specs.declared.operator.Op.TheVariants.{Sub, Xor, Eq}
use Rattle.fk_meaning_operation.specs.declared.operation.Variable.{Variable}
use Rattle.fk_meaning_operation.specs.declared.operation.Variable.TheVariants.{Private, OfFile}
use Rattle.fk_meaning_operation.specs.declared.operation.OwnValue.{OwnValue}
use Rattle.fk_meaning_operation.specs.declared.operation.OwnValue.TheVariants.{Value, Rank}
use Rattle.fk_meaning_operation.specs.declared.operation.OwnValue.TheVariants.{GroupNumber}
use Rattle.fk_meaning_operation.specs.declared.operation.OwnValue.TheVariants.{ProcessorNumber}
use Rattle.fk_meaning_operation.specs.declared.operation.OwnValue.TheVariants.{Processors}
use Rattle.fk_meaning_operation.specs.declared.operation.OwnValue.TheVariants.{GroupSize}
use Rattle.fk_meaning_operation.specs.declared.operation.OwnValue.TheVariants.{InputLength}
use Rattle.fk_meaning_operation.specs.declared.operation.OwnValue.TheVariants.{FrameAddress}
use Rattle.fk_meaning_operation.specs.declared.operation.OwnValue.TheVariants.{InputAddress}
use Rattle.fk_meaning_operation.specs.declared.operation.Unary.{Unary}
use Rattle.fk_meaning_operation.specs.declared.operation.Unary.TheVariants.{Negate, Complement, Not}
use Rattle.fk_meaning_operation.specs.declared.operation.Operation.{Operation}
use Rattle.fk_meaning_operation.specs.declared.operation.Operation.TheVariants.{Push, Get, Set}
use Rattle.fk_meaning_operation.specs.declared.operation.Operation.TheVariants.{DropLast, CopyLast}
use Rattle.fk_meaning_operation.specs.declared.operation.Operation.TheVariants.{Apply, Binary}
use Rattle.fk_meaning_operation.specs.declared.operation.Operation.TheVariants.{Index, Branch, Take}
use Rattle.fk_meaning_operation.specs.declared.operation.Operation.TheVariants.{Leave}
use Rattle.fk_meaning_store.specs.Store.{address_of, private_words, private_address}
use Rattle.fk_meaning_store.specs.Serve.{words_of}
use Rattle.fk_meaning.specs.Processor.{Call, Processor, Setting, values, last, with_values}
use Rattle.fk_meaning.specs.Processor.{with_space, push, drop_last, in_place}

abbrev pub value_of : Processor → Variable → ℕ
value_of p (Private i) = p.call.privates i
value_of p (OfFile i) = p.own i

abbrev pub known : Setting → Processor → OwnValue → ℕ
known set p (Value variable) = value_of p variable
known set p Rank = p.level.rank
known set p GroupNumber = p.level.number
known set p ProcessorNumber = p.number
known set p Processors = set.processors
known set p GroupSize = p.level.size
known set p InputLength = set.inputs
known set p (FrameAddress nesting word') = word (address_of (p.call.frames nesting + word'))
known set p InputAddress = address_of set.globals

abbrev pub stored : ℕ → Variable → Processor → Processor
stored v (Private i) p = record p { call = record (p.call) { privates = put p.call.privates i v } }
stored v (OfFile i) p = record p { own = put p.own i v }

abbrev pub applied_to : Unary → ℕ → ℕ
applied_to Negate v = applied Sub 0 v
applied_to Complement v = applied Xor v (2 ^ 32 - 1)
applied_to Not v = applied Eq v 0

-- two values are replaced by one
abbrev pub joined : (ℕ → ℕ → ℕ) → List ℕ → List ℕ
joined f (b ∷ a ∷ vs) = f a b ∷ vs
joined f vs = vs

abbrev pub in_order : (turned : Bool) → (ℕ → ℕ → ℕ) → ℕ → ℕ → ℕ
in_order false f a b = f a b
in_order true f a b = f b a

-- `malloc`: the address of the next words of the private heap, or 0 if there aren't enough
abbrev pub taken : (words : ℕ) → Processor → Processor
taken words p =
    if (words == 0) then in_place 0 p
    else if nat_lt (private_words - p.top) words then in_place 0 p
    else in_place (private_address p.top) (record p { top = p.top + words })

-- the waiting call goes on, with a value or without. If the function took a frame, its words are
-- free again
abbrev pub handed : (gives : Bool) → ℕ → Call → Call
handed true v c = record c { values = v ∷ c.values }
handed false v c = c

abbrev pub unframed : (framed : Bool) → Processor → Processor
unframed true p = with_space p (record (p.level.space) { frames = p.call.frames 0 })
unframed false p = p

abbrev pub to_caller : (gives : Bool) → ℕ → Processor → List Call → Processor
to_caller gives v p [] = p
to_caller gives v p (c ∷ cs) = record p { call = handed gives v c; callers = cs }

abbrev pub local : Setting → Operation → Processor → Processor
local set (Push n) p = push (word n) p
local set (Get k) p = push (known set p k) p
local set (Set variable) p = stored (last (values p)) variable p
local set DropLast p = drop_last 1 p
local set CopyLast p = push (last (values p)) p
local set (Apply sign) p = in_place (applied_to sign (last (values p))) p
local set (Binary sign turned) p =
    with_values p (joined (in_order turned (applied sign)) (values p))
local set (Index size) p =
    with_values p (joined (λ address i. word (address + i * size)) (values p))
local set (Branch onward) p = drop_last 1 p
local set Take p = taken (words_of (last (values p))) p
local set (Leave gives framed) p = to_caller gives (last (values p)) (unframed framed p) p.callers
local set operation p = p

-- whether a local operation takes the first branch; only `Branch` has two
abbrev pub is_onward : Operation → Processor → Bool
is_onward (Branch true) p = not (last (values p) == 0)
is_onward (Branch false) p = last (values p) == 0
is_onward operation p = true
