-- The request of an operation, and the effect of the answer on its processor.
use Rattle.std.specs.Prelude.{ℕ, zero, suc, List, [], ◌∷◌, length}
use Rattle.fk_num.specs.Word.{Memory, put}
use Rattle.fk_meaning_operation.specs.Kinds.{multiprefix_kind}
use Rattle.fk_meaning_operation.specs.declared.operation.Operation.{Operation}
use Rattle.fk_meaning_operation.specs.declared.operation.Operation.TheVariants.{Check, Read, Write}
use Rattle.fk_meaning_operation.specs.declared.operation.Operation.TheVariants.{Combine}
use Rattle.fk_meaning_operation.specs.declared.operation.Operation.TheVariants.{PrintNumber}
use Rattle.fk_meaning_operation.specs.declared.operation.Operation.TheVariants.{PrintByte, Heap}
use Rattle.fk_meaning_operation.specs.declared.operation.Operation.TheVariants.{Enter}
use Rattle.fk_meaning_store.specs.declared.request.Request.{Request}
use Rattle.fk_meaning_store.specs.declared.request.Request.TheVariants as r
use Rattle.fk_meaning.specs.Processor.{Processor, values, last, before, drop_last, in_place}

abbrev pub address : Processor → ℕ
address p = last (before 1 (values p))

-- the depth of the running call; `main` has depth 1
abbrev pub depth : Processor → ℕ
depth p = suc (length p.callers)

abbrev pub request : Operation → Processor → Request
request (Check shared_alone) p = r.Check (last (values p)) shared_alone
request Read p = r.Read (last (values p))
request Write p = r.Write (address p) (last (values p))
request (Combine by) p = r.Multi (multiprefix_kind by) (address p) (last (values p))
request PrintNumber p = r.Print (last (values p))
request PrintByte p = r.Byte (last (values p))
request Heap p = r.Heap (last (values p))
request operation p = r.Depth (depth p)

-- the arguments become the first private words of the call, and leave the caller's value list
abbrev pub arguments : (count : ℕ) → List ℕ → Memory
arguments zero vs = λ i. 0
arguments (suc n) [] = λ i. 0
arguments (suc n) (v ∷ vs) = put (arguments n vs) n v

abbrev pub entered : (arguments : ℕ) → Processor → Processor
entered n p = record p {
  call = record { values = []; privates = arguments n (values p); frames = λ i. 0 };
  callers = record (p.call) { values = before n (values p) } ∷ p.callers;
}

-- the processor after its request: the answer replaces the values that the request took
abbrev pub with_answer : Operation → (answer : ℕ) → Processor → Processor
with_answer Read v p = in_place v p
with_answer Write v p = in_place v (drop_last 1 p)
with_answer (Combine by) v p = in_place v (drop_last 1 p)
with_answer PrintNumber v p = drop_last 1 p
with_answer PrintByte v p = drop_last 1 p
with_answer Heap v p = in_place v p
with_answer (Enter n) v p = entered n p
with_answer operation v p = p
