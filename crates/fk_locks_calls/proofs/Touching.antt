-- Which words of the lock the requests of a processor access.
use Rattle.std.proofs.Common.{◌≡◌, ◌≢◌, ◌+◌, ◌*◌, ◌<◌, ◌≤◌, ◌⊎◌, ◌&&◌, ℕ, suc, Bool, true, false, [], ◌∷◌, Option, Some, None, inl, inr, arith, ap, ap₂, ◌∙◌, refl, sym, subst}
use Rattle.std.specs.Prelude.{if◌then◌else◌}
use Rattle.std.proofs.lemmas.Bool.{eq-eqb, ne_eqb, le-leb, lt-ltb}
use Rattle.fk_meaning_operation.specs.declared.operation.Operation.TheVariants.{Read, Combine}
use Rattle.fk_meaning_operation.specs.declared.operation.Multiprefix.TheVariants.{MpAdd}
use Rattle.fk_meaning_store.specs.declared.request.Request as r
use Rattle.fk_meaning_store.specs.declared.request.Request.TheVariants as q
use Rattle.fk_meaning_store.specs.Store.{address_of, shared_words}
use Rattle.fk_meaning_store.specs.Serve.{is_shared, shared_index}
use Rattle.fk_meaning.specs.Processor.{Processor, values, last, before}
use Rattle.fk_meaning.specs.Round.{Step, Acting}
use Rattle.fk_meaning.specs.Touch.{is_word, touch, touch_of}
use Rattle.fk_tickets.specs.Lock.{Act, Draw, Look, Give}
use Rattle.fk_locks_runs.specs.Locks.{IsOfNext, IsOfNow, act_by}
use Rattle.fk_locks_calls.proofs.Events.{act_of}

index_is : (z : ℕ) → shared_index (address_of z) ≡ z
index_is z = omega arith

and_false : (b : Bool) → (b && false) ≡ false
and_false true = refl
and_false false = refl

shared : (z : ℕ) → z < shared_words → is_shared (address_of z) ≡ true
shared z lt =
    let low : address_of 0 ≤ address_of z = omega arith in
    let high : address_of z < address_of 0 + 4 * shared_words = omega (arith, lt) in
    ap₂ (λ a b. a && b) (le-leb (address_of 0) (address_of z) low) (lt-ltb (address_of z) (address_of 0 + 4 * shared_words) high)

pub word_here : (z : ℕ) → z < shared_words → is_word z (address_of z) ≡ true
word_here z lt = ap₂ (λ a b. a && b) (shared z lt) (eq-eqb z (shared_index (address_of z)) (sym (index_is z)))

pub word_other : (y z : ℕ) → (y ≡ z → ⊥) → is_word y (address_of z) ≡ false
word_other y z not = ap (λ b. is_shared (address_of z) && b) (ne_eqb y (shared_index (address_of z)) (λ same. not (same ∙ index_is z))) ∙ and_false (is_shared (address_of z))

-- an `mpadd` of 1, and a read
touch_multi : (y z : ℕ) (p : Processor) → values p ≡ 1 ∷ address_of z ∷ [] → touch_of y p (Some (Combine MpAdd)) ≡ (if is_word y (address_of z) then Some (q.Multi 15 (address_of z) 1) else None)
touch_multi y z p e = ap (λ vs. if is_word y (last (before 1 vs)) then Some (q.Multi 15 (last (before 1 vs)) (last vs)) else None) e

touch_read : (y z : ℕ) (p : Processor) → values p ≡ address_of z ∷ [] → touch_of y p (Some Read) ≡ (if is_word y (address_of z) then Some (q.Read (address_of z)) else None)
touch_read y z p e = ap (λ vs. if is_word y (last vs) then Some (q.Read (last vs)) else None) e

chosen : (b : Bool) (c : Option r.Request) → b ≡ true → (if b then c else None) ≡ c
chosen b c e = rw e refl

none : (b : Bool) (c : Option r.Request) → b ≡ false → (if b then c else None) ≡ None
none b c e = rw e refl

pub multi_here : (z : ℕ) (p : Processor) → z < shared_words → values p ≡ 1 ∷ address_of z ∷ [] → touch_of z p (Some (Combine MpAdd)) ≡ Some (q.Multi 15 (address_of z) 1)
multi_here z p lt e = touch_multi z z p e ∙ chosen (is_word z (address_of z)) (Some (q.Multi 15 (address_of z) 1)) (word_here z lt)

pub multi_other : (y z : ℕ) (p : Processor) → (y ≡ z → ⊥) → values p ≡ 1 ∷ address_of z ∷ [] → touch_of y p (Some (Combine MpAdd)) ≡ None
multi_other y z p not e = touch_multi y z p e ∙ none (is_word y (address_of z)) (Some (q.Multi 15 (address_of z) 1)) (word_other y z not)

pub read_here : (z : ℕ) (p : Processor) → z < shared_words → values p ≡ address_of z ∷ [] → touch_of z p (Some Read) ≡ Some (q.Read (address_of z))
read_here z p lt e = touch_read z z p e ∙ chosen (is_word z (address_of z)) (Some (q.Read (address_of z))) (word_here z lt)

pub read_other : (y z : ℕ) (p : Processor) → (y ≡ z → ⊥) → values p ≡ address_of z ∷ [] → touch_of y p (Some Read) ≡ None
read_other y z p not e = touch_read y z p e ∙ none (is_word y (address_of z)) (Some (q.Read (address_of z))) (word_other y z not)

-- ---- what the accesses of a processor are for the lock

pub data Kind : Type 0 where
  Nothing : Kind
  Drawing : Kind
  Looking : Kind
  Giving : Kind

abbrev pub next_of : (x : ℕ) → Kind → Option r.Request
next_of x Drawing = Some (q.Multi 15 (address_of x) 1)
next_of x kind = None

abbrev pub now_of : (x : ℕ) → Kind → Option r.Request
now_of x Looking = Some (q.Read (address_of (suc x)))
now_of x Giving = Some (q.Multi 15 (address_of (suc x)) 1)
now_of x kind = None

abbrev pub kind_act : Kind → Option Act
kind_act Nothing = None
kind_act Drawing = Some Draw
kind_act Looking = Some Look
kind_act Giving = Some Give

pub record Accesses {W : Type 0} (x : ℕ) (kind : Kind) (a : Acting W) : Type 0 where
  pub next : touch x a ≡ next_of x kind
  pub now : touch (suc x) a ≡ now_of x kind

pub next_is_of : {W : Type 0} (x : ℕ) (kind : Kind) (a : Acting W) → Accesses x kind a → IsOfNext (touch x a) × IsOfNow (touch (suc x) a)
next_is_of x kind a h = (subst IsOfNext (sym h.next) (by kind), subst IsOfNow (sym h.now) (also kind))
  where
    by : (k : Kind) → IsOfNext (next_of x k)
    by Nothing = tt
    by Drawing = (refl, refl)
    by Looking = tt
    by Giving = tt

    also : (k : Kind) → IsOfNow (now_of x k)
    also Nothing = tt
    also Drawing = tt
    also Looking = tt
    also Giving = (refl, refl)

pub act_is : {W : Type 0} (x : ℕ) (kind : Kind) (a : Acting W) → Accesses x kind a → act_of x a ≡ kind_act kind
act_is x kind a h = ap₂ act_by h.next h.now ∙ by kind
  where
    by : (k : Kind) → act_by (next_of x k) (now_of x k) ≡ kind_act k
    by Nothing = refl
    by Drawing = refl
    by Looking = refl
    by Giving = refl

-- ---- one that is in no call of the lock accesses nothing

abbrev pub Alone : {W : Type 0} → (x : ℕ) → Acting W → Type 0
Alone {W = W} x a = (touch x a ≢ None) ⊎ (touch (suc x) a ≢ None) → (s : Step W) × (a.due ≡ Some s) × (s.site < 27) × (a.runner.has.call.privates 0 ≡ address_of x)

either_none : (o : Option r.Request) → (o ≡ None) ⊎ (o ≢ None)
either_none None = inl refl
either_none (Some q') = inr (λ e. let bad : Some q' ≡ None = e in absurd (cc))

pub untouched : {W : Type 0} (x : ℕ) (a : Acting W) → Alone x a → ((s : Step W) → a.due ≡ Some s → s.site < 27 → a.runner.has.call.privates 0 ≡ address_of x → ⊥) → Accesses x Nothing a
untouched x a alone other = record {
  next = elim (either_none (touch x a)) [
    | inl e ↦ e
    | inr not ↦ absurd (let g = alone (inl not) in other g.0 g.1 g.2 g.3)
  ];
  now = elim (either_none (touch (suc x) a)) [
    | inl e ↦ e
    | inr not ↦ absurd (let g = alone (inr not) in other g.0 g.1 g.2 g.3)
  ];
}
