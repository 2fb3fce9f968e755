-- What one served request makes of a word of shared data.
use Rattle.std.proofs.Common.{◌≡◌, ℕ, Bool, true, false, ◌&&◌, true≢false, Option, Some, None, ap, sym, refl}
use Rattle.std.specs.Prelude.{◌==◌, is_some, nat_lt, if◌then◌else◌}
use Rattle.std.proofs.lemmas.Bool.{eqb-true}
use Rattle.fk_num.specs.Word.{put}
use Rattle.fk_num.specs.Op.{applied}
use Rattle.fk_meaning_operation.specs.Kinds.{multiprefix_of}
use Rattle.fk_meaning_operation.specs.declared.operation.Multiprefix.{Multiprefix}
use Rattle.fk_meaning_operation.specs.declared.kinds.FaultKind.{FaultKind}
use Rattle.fk_meaning_store.specs.declared.request.Request.{Request}
use Rattle.fk_meaning_store.specs.declared.request.Request.TheVariants.{Read, Write, Multi, Print, Byte, Heap, Check, Depth}
use Rattle.fk_meaning_store.specs.Store.{Store}
use Rattle.fk_meaning_store.specs.Serve.{Answer, Served, Faults, is_shared, shared_index, private_index, operator_of, combined, hired, words_of, may_use, serve}
use Rattle.fk_meaning.specs.Touch.{is_word, touches, combined_with, after, answer}

-- the word is as a request that touches it leaves it, and one that touches it is answered by it
abbrev pub GoodBy : (x : ℕ) → (touched : Bool) → (after answer : ℕ → ℕ) → Store → Answer → Type 0
GoodBy x touched f g s (Served s' v) =
    (s'.words x ≡ (if touched then f (s.words x) else s.words x)) × (touched ≡ true → v ≡ g (s.words x))
GoodBy x touched f g s (Faults kind) = Unit {0}

untouched : {A : Type 0} → false ≡ true → A
untouched e = absurd (true≢false (sym e))

module _ (x : ℕ) (s : Store) (h a : ℕ) where
  abbrev at : ℕ
  at = shared_index a

  abbrev read_by : Bool → ℕ
  read_by b = if b then s.words at else s.heaps h (private_index a)

  abbrev written_by : Bool → ℕ → Store
  written_by b v =
      if b
      then record s { words = put s.words at v }
      else record s { heaps = λ g. if g == h then put (s.heaps h) (private_index a) v else s.heaps g }

  same_word : (x == at) ≡ true → s.words at ≡ s.words x
  same_word e = ap s.words (sym (eqb-true x at e))

  unread : (b : Bool) → s.words x ≡ (if b then s.words x else s.words x)
  unread true = refl
  unread false = refl

  reads : (b : Bool) → GoodBy x (b && (x == at)) (λ w. w) (λ w. w) s (Served s (read_by b))
  reads true = (unread (x == at), same_word)
  reads false = (refl, untouched)

  writes : (v : ℕ) (b : Bool) → GoodBy x (b && (x == at)) (λ w. v) (λ w. v) s (Served (written_by b v) v)
  writes v true = (refl, λ e. refl)
  writes v false = (refl, untouched)

  combines_at : (f : ℕ → ℕ) (b : Bool) → (x == at) ≡ b → (if b then f (s.words at) else s.words x) ≡ (if b then f (s.words x) else s.words x)
  combines_at f true e = ap f (same_word e)
  combines_at f false e = refl

  combines : (by : Multiprefix) (v : ℕ) (b : Bool)
      → GoodBy x (b && (x == at)) (λ w. applied (operator_of by) w v) (λ w. w) s (Served (written_by b (applied (operator_of by) (read_by b) v)) (read_by b))
  combines by v true = (combines_at (λ w. applied (operator_of by) w v) (x == at) refl, same_word)
  combines by v false = (refl, untouched)

  multi : (v : ℕ) (o : Option Multiprefix) → GoodBy x (is_some o && is_word x a) (λ w. combined_with o w v) (λ w. w) s (combined o s h a v)
  multi v None = (refl, untouched)
  multi v (Some by) = combines by v (is_shared a)

hires : (x words : ℕ) (s : Store) (none : Bool) → (words == 0) ≡ none → GoodBy x false (λ w. w) (λ w. w) s (hired words s)
hires x words s true e = rw e (refl, untouched)
hires x words s false e = rw e (refl, untouched)

tested : (x : ℕ) (kind : FaultKind) (s : Store) (b : Bool) → GoodBy x false (λ w. w) (λ w. w) s (if b then Served s 0 else Faults kind)
tested x kind s true = (refl, untouched)
tested x kind s false = tt

pub good : (x : ℕ) (q : Request) (s : Store) (h : ℕ) → GoodBy x (touches x q) (after q) (answer q) s (serve q s h)
good x (Read a) s h = reads x s h a (is_shared a)
good x (Write a v) s h = writes x s h a v (is_shared a)
good x (Multi kind a v) s h = multi x s h a v (multiprefix_of kind)
good x (Print v) s h = (refl, untouched)
good x (Byte v) s h = (refl, untouched)
good x (Heap bytes) s h = hires x (words_of bytes) s (words_of bytes == 0) refl
good x (Check a shared_alone) s h = tested x _ s (may_use shared_alone a)
good x (Depth depth) s h = tested x _ s (nat_lt depth 256)
