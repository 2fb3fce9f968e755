-- Serving requests.
use Rattle.std.specs.Prelude.{ℕ, ◌+◌, ◌-◌, ◌*◌, ◌/◌, ◌%◌, ◌^◌, ◌==◌, nat_le, nat_lt, Bool, true}
use Rattle.std.specs.Prelude.{false, not, ◌&&◌, ◌||◌, List, [], ◌∷◌, ◌++◌, Option, Some, None}
use Rattle.std.specs.Prelude.{is_some, if◌then◌else◌}
use Rattle.fk_num.specs.Word.{put, signed_line}
use Rattle.fk_num.specs.Op.{applied}
use Rattle.fk_num.specs.declared.operator.Op.{Op}
use Rattle.fk_num.specs.declared.operator.Op.TheVariants.{Add, MaxS, And, Or}
use Rattle.fk_meaning_operation.specs.declared.operation.Multiprefix.{Multiprefix}
use Rattle.fk_meaning_operation.specs.declared.operation.Multiprefix.TheVariants.{MpAdd, MpMax}
use Rattle.fk_meaning_operation.specs.declared.operation.Multiprefix.TheVariants.{MpAnd, MpOr}
use Rattle.fk_meaning_operation.specs.declared.kinds.FaultKind.{FaultKind}
use Rattle.fk_meaning_operation.specs.declared.kinds.FaultKind.TheVariants.{BadAddress, CallDepth}
use Rattle.fk_meaning_operation.specs.Kinds.{multiprefix_of}
use Rattle.fk_space.specs.Space.{heap}
use Rattle.fk_meaning_store.specs.declared.request.Request.{Request}
use Rattle.fk_meaning_store.specs.declared.request.Request.TheVariants.{Read, Write, Multi, Print}
use Rattle.fk_meaning_store.specs.declared.request.Request.TheVariants.{Byte, Heap, Check, Depth}
use Rattle.fk_meaning_store.specs.Store.{Store, shared_words, private_words, address_of}
use Rattle.fk_meaning_store.specs.Store.{private_address}

-- the result of a request: it is served with an answer, or it faults and changes nothing
pub data Answer : Type 0 where
  Served : (store : Store) (answer : ℕ) → Answer
  Faults : (kind : FaultKind) → Answer

abbrev pub is_in : (address start words : ℕ) → Bool
is_in address start words = nat_le start address && nat_lt address (start + 4 * words)

abbrev pub is_shared : (address : ℕ) → Bool
is_shared address = is_in address (address_of 0) shared_words

abbrev pub is_private : (address : ℕ) → Bool
is_private address = is_in address (private_address 0) private_words

-- which addresses may be used: those of the words of shared data, and, except for a multiprefix,
-- those of the private heap
abbrev pub may_use : (shared_alone : Bool) (address : ℕ) → Bool
may_use shared_alone address =
    (address % 4 == 0) && (is_shared address || (not shared_alone && is_private address))

-- the index of the word at an address, in shared data and in a private heap
abbrev pub shared_index : (address : ℕ) → ℕ
shared_index address = (address - address_of 0) / 4

abbrev pub private_index : (address : ℕ) → ℕ
private_index address = (address - private_address 0) / 4

-- the word at an address, in shared data or in processor h's own heap
abbrev pub read : Store → (h address : ℕ) → ℕ
read s h a = if is_shared a then s.words (shared_index a) else s.heaps h (private_index a)

abbrev pub write : Store → (h address value : ℕ) → Store
write s h a v =
    if is_shared a
    then record s { words = put s.words (shared_index a) v }
    else record s { heaps = λ g. if g == h then put (s.heaps h) (private_index a) v else s.heaps g }

-- a multiprefix: the word is combined with the value, and the former word is the answer
abbrev pub operator_of : Multiprefix → Op
operator_of MpAdd = Add
operator_of MpMax = MaxS
operator_of MpAnd = And
operator_of MpOr = Or

abbrev pub combined : Option Multiprefix → Store → (h address value : ℕ) → Answer
combined None s h a v = Served s 0
combined (Some by) s h a v =
    Served (write s h a (applied (operator_of by) (read s h a) v)) (read s h a)

abbrev pub printed : (bytes : List ℕ) → Store → Answer
printed bytes s = Served (record s { output = s.output ++ bytes }) 0

-- a size in bytes, read as a signed number, in words; 0 if it isn't above 0
abbrev pub words_of : (bytes : ℕ) → ℕ
words_of bytes = if nat_lt bytes (2 ^ 31) then (bytes + 3) / 4 else 0

-- `shmalloc`: the address of a block of the global heap, or 0
abbrev pub block_address : Option ℕ → ℕ
block_address None = 0
block_address (Some index) = address_of index

abbrev pub hired : (words : ℕ) → Store → Answer
hired words s =
    if words == 0
    then Served s 0
    else let block = heap s.top shared_words words in
    Served (record s { top = block.0 }) (block_address block.1)

-- a read answers the word, and a write replaces it. At depth 256 a call faults
abbrev pub serve : Request → Store → (h : ℕ) → Answer
serve (Read a) s h = Served s (read s h a)
serve (Write a v) s h = Served (write s h a v) v
serve (Multi kind a v) s h = combined (multiprefix_of kind) s h a v
serve (Print v) s h = printed (signed_line v) s
serve (Byte v) s h = printed (v % 256 ∷ []) s
serve (Heap bytes) s h = hired (words_of bytes) s
serve (Check a shared_alone) s h = if may_use shared_alone a then Served s 0 else Faults BadAddress
serve (Depth depth) s h = if nat_lt depth 256 then Served s 0 else Faults CallDepth

-- the requests that can be served with room for `room` bytes of output: the addresses satisfy their
-- check, and the printed bytes fit
abbrev pub can_serve : (room : ℕ) → Request → Bool
can_serve room (Read a) = may_use false a
can_serve room (Write a v) = may_use false a
can_serve room (Multi kind a v) = is_some (multiprefix_of kind) && may_use true a
can_serve room (Print v) = nat_le 12 room
can_serve room (Byte v) = nat_le 1 room
can_serve room (Heap bytes) = true
can_serve room (Check a shared_alone) = true
can_serve room (Depth depth) = true
