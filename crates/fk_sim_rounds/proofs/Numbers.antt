-- An operation keeps the number of its processor.
use Rattle.std.proofs.Common.{◌≡◌, ℕ, List, [], ◌∷◌, Bool, true, false, refl}
use Rattle.std.specs.Prelude.{◌==◌, nat_lt, ◌-◌}
use Rattle.fk_meaning_operation.specs.declared.operation.Operation.{Operation}
use Rattle.fk_meaning_operation.specs.declared.operation.Operation.TheVariants as o
use Rattle.fk_meaning_operation.specs.declared.operation.Variable.{Variable}
use Rattle.fk_meaning_operation.specs.declared.operation.Variable.TheVariants.{Private, OfFile}
use Rattle.fk_meaning_store.specs.Store.{private_words}
use Rattle.fk_meaning_store.specs.Serve as store
use Rattle.fk_meaning.specs.Processor.{Call, Processor, Setting, values, last}
use Rattle.fk_meaning.specs.Local.{stored, taken, unframed, to_caller, local}
use Rattle.fk_meaning.specs.Request.{with_answer}
use Rattle.fk_sim_rounds.proofs.Words.{if_either}

stored_number : (v : ℕ) (variable : Variable) (p : Processor) → (stored v variable p).number ≡ p.number
stored_number v (Private i) p = refl
stored_number v (OfFile i) p = refl

taken_number : (words : ℕ) (p : Processor) → (taken words p).number ≡ p.number
taken_number words p =
    if_either {A = Processor} (λ q. q.number ≡ p.number) (words == 0) _ _ refl
    (if_either {A = Processor} (λ q. q.number ≡ p.number) (nat_lt (private_words - p.top) words) _ _ refl refl)

to_caller_number : (gives : Bool) (v : ℕ) (p : Processor) (calls : List Call) → (to_caller gives v p calls).number ≡ p.number
to_caller_number gives v p [] = refl
to_caller_number gives v p (c ∷ calls) = refl

leave_number : (gives framed : Bool) (p : Processor) → (to_caller gives (last (values p)) (unframed framed p) p.callers).number ≡ p.number
leave_number gives true p = to_caller_number gives (last (values p)) (unframed true p) p.callers
leave_number gives false p = to_caller_number gives (last (values p)) p p.callers

pub local_number : (set : Setting) (operation : Operation) (p : Processor) → (local set operation p).number ≡ p.number
local_number set (o.Set v) p = stored_number (last (values p)) v p
local_number set o.Take p = taken_number (store.words_of (last (values p))) p
local_number set (o.Leave gives framed) p = leave_number gives framed p
local_number set operation p = refl

pub answer_number : (operation : Operation) (v : ℕ) (p : Processor) → (with_answer operation v p).number ≡ p.number
answer_number o.Read v p = refl
answer_number operation v p = refl
