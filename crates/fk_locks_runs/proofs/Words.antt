-- The words of a lock as the requests of a round leave them.
use Rattle.std.proofs.Common.{◌≡◌, ℕ, zero, suc, ◌+◌, ◌%◌, ◌^◌, Bool, true, false, List, [], ◌∷◌, Option, Some, None, refl, sym, ap, ap₂, ◌∙◌, arith, ◌⊎◌, inl, inr}
use Rattle.std.specs.Prelude.{◌&&◌, fold, take, is_some, if◌then◌else◌}
use Rattle.std.proofs.lemmas.Bool.{cases_eq, ne_eqb}
use Rattle.fk_meaning_operation.specs.declared.operation.Operation.{Operation}
use Rattle.fk_meaning_operation.specs.declared.kinds.Class.{Class}
use Rattle.fk_meaning_operation.specs.declared.kinds.Class.TheVariants as class
use Rattle.fk_meaning_operation.specs.Kinds.{class_of, multiprefix_of}
use Rattle.fk_meaning_store.specs.declared.request.Request.{Request}
use Rattle.fk_meaning_store.specs.declared.request.Request.TheVariants.{Read, Write, Multi, Print, Byte, Heap, Check, Depth}
use Rattle.fk_meaning_store.specs.Serve.{is_shared, shared_index}
use Rattle.fk_meaning.specs.Processor.{Processor}
use Rattle.fk_meaning.specs.Request.{request}
use Rattle.fk_meaning.specs.Round.{Acting}
use Rattle.fk_meaning.specs.Touch.{after_touch, combined_with, is_word, operation_due, touch, touch_by, touch_of, touches, word_after}
use Rattle.fk_tickets.specs.Lock.{Draw, Look, Give, Event, Lock, after, event}
use Rattle.fk_locks_runs.specs.Locks.{AreOfLock, IsOfNext, IsOfNow, act_by, events, told_by}

-- ---- a request accesses one word

and_false : (b : Bool) → (b && false) ≡ false
and_false true = refl
and_false false = refl

apart_word : (x a : ℕ) → (is_word x a ≡ false) ⊎ (is_word (suc x) a ≡ false)
apart_word x a =
    elim (cases_eq x (shared_index a)) [
      | inl is ↦ let e = ne_eqb (suc x) (shared_index a) (λ same. omega (arith, is, same)) in inr (ap (λ b. is_shared a && b) e ∙ and_false (is_shared a))
      | inr not ↦ let e = ne_eqb x (shared_index a) not in inl (ap (λ b. is_shared a && b) e ∙ and_false (is_shared a))
    ]

apart : (x : ℕ) (q : Request) → (touches x q ≡ false) ⊎ (touches (suc x) q ≡ false)
apart x (Read a) = apart_word x a
apart x (Write a v) = apart_word x a
apart x (Multi kind a v) =
    elim (apart_word x a) [
      | inl e ↦ inl (ap (λ b. is_some (multiprefix_of kind) && b) e ∙ and_false (is_some (multiprefix_of kind)))
      | inr e ↦ inr (ap (λ b. is_some (multiprefix_of kind) && b) e ∙ and_false (is_some (multiprefix_of kind)))
    ]
apart x (Print v) = inl refl
apart x (Byte v) = inl refl
apart x (Heap v) = inl refl
apart x (Check a s) = inl refl
apart x (Depth d) = inl refl

by_class : (x : ℕ) (p : Processor) (c : Class) (o : Operation) → (touch_by x p c o ≡ None) ⊎ (touch_by (suc x) p c o ≡ None)
by_class x p class.Local o = inl refl
by_class x p class.Request o =
    elim (apart x (request o p)) [
      | inl e ↦ inl (ap (λ b. if b then Some (request o p) else None) e)
      | inr e ↦ inr (ap (λ b. if b then Some (request o p) else None) e)
    ]
by_class x p class.Tree o = inl refl

by_operation : (x : ℕ) (p : Processor) (o : Option Operation) → (touch_of x p o ≡ None) ⊎ (touch_of (suc x) p o ≡ None)
by_operation x p None = inl refl
by_operation x p (Some o) = by_class x p (class_of o) o

one_word : {W : Type 0} (x : ℕ) (a : Acting W) → (touch x a ≡ None) ⊎ (touch (suc x) a ≡ None)
one_word x a = by_operation x a.runner.has (operation_due a.due)

-- ---- one processor

-- the lock after the act of a processor, if any
record Moves (l : Lock) (h : ℕ) (next now : Option Request) : Type 0 where
  lock : Lock
  folds : (es : List Event) → fold after l (told_by (act_by next now) h es) ≡ fold after lock es
  next_is : lock.next ≡ after_touch next l.next
  now_is : lock.now ≡ after_touch now l.now

added : (kind v w : ℕ) → (kind ≡ 15) × (v ≡ 1) → (w + 1) % 2 ^ 32 ≡ combined_with (multiprefix_of kind) w v
added kind v w is = ap₂ (λ k u. combined_with (multiprefix_of k) w u) (sym is.0) (sym is.1)

moves_next : (l : Lock) (h : ℕ) (q : Request) → IsOfNext (Some q) → Moves l h (Some q) None
moves_next l h (Read a) of = absurd of
moves_next l h (Write a v) of = absurd of
moves_next l h (Multi kind a v) of = record { lock = after l (event h Draw); folds = λ es. refl; next_is = added kind v l.next of; now_is = refl }
moves_next l h (Print v) of = absurd of
moves_next l h (Byte v) of = absurd of
moves_next l h (Heap v) of = absurd of
moves_next l h (Check a s) of = absurd of
moves_next l h (Depth d) of = absurd of

moves_now : (l : Lock) (h : ℕ) (q : Request) → IsOfNow (Some q) → Moves l h None (Some q)
moves_now l h (Read a) of = record { lock = after l (event h Look); folds = λ es. refl; next_is = refl; now_is = refl }
moves_now l h (Write a v) of = absurd of
moves_now l h (Multi kind a v) of = record { lock = after l (event h Give); folds = λ es. refl; next_is = refl; now_is = added kind v l.now of }
moves_now l h (Print v) of = absurd of
moves_now l h (Byte v) of = absurd of
moves_now l h (Heap v) of = absurd of
moves_now l h (Check a s) of = absurd of
moves_now l h (Depth d) of = absurd of

moves : (l : Lock) (h : ℕ) (next now : Option Request) → IsOfNext next → IsOfNow now → (next ≡ None) ⊎ (now ≡ None) → Moves l h next now
moves l h None None of also one = record { lock = l; folds = λ es. refl; next_is = refl; now_is = refl }
moves l h (Some q) None of also one = moves_next l h q of
moves l h None (Some q) of also one = moves_now l h q also
moves l h (Some q) (Some r) of also (inl e) = cc
moves l h (Some q) (Some r) of also (inr e) = cc

-- ---- a round

pub record Words (next now : ℕ) (l : Lock) : Type 0 where
  pub next_is : next ≡ l.next
  pub now_is : now ≡ l.now

pub words_after : {W : Type 0} (x : ℕ) (actings : List (Acting W)) (l : Lock) → AreOfLock x actings
    → Words (word_after x actings l.next) (word_after (suc x) actings l.now) (fold after l (events x actings))
words_after x [] l of = record { next_is = refl; now_is = refl }
words_after x (a ∷ actings) l of =
    let m = moves l a.runner.has.number (touch x a) (touch (suc x) a) of.0 of.1 (one_word x a) in
    let rest = words_after x actings m.lock of.2 in
    let folds = m.folds (events x actings) in
    record {
      next_is = ap (word_after x actings) (sym m.next_is) ∙ rest.next_is ∙ sym (ap (λ (k : Lock). k.next) folds);
      now_is = ap (word_after (suc x) actings) (sym m.now_is) ∙ rest.now_is ∙ sym (ap (λ (k : Lock). k.now) folds);
    }

pub some_of_lock : {W : Type 0} (x h : ℕ) (actings : List (Acting W)) → AreOfLock x actings → AreOfLock x (take h actings)
some_of_lock x zero actings of = tt
some_of_lock x (suc h) [] of = tt
some_of_lock x (suc h) (a ∷ actings) of = (of.0, of.1, some_of_lock x h actings of.2)
