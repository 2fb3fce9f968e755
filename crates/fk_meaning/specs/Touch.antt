-- What happens to one word of shared data in a round, and the answers to the processors that access
-- it.
use Rattle.std.specs.Prelude.{◌≡◌, ℕ, ◌==◌, ◌&&◌, Bool, true, false, List, [], ◌∷◌, Option, Some}
use Rattle.std.specs.Prelude.{None, option_map, is_some, slice_get, take, fold, if◌then◌else◌}
use Rattle.fk_num.specs.Op.{applied}
use Rattle.fk_tree.specs.Tree as t
use Rattle.fk_tree.specs.declared.node.Kind.TheVariants.{Lockstep}
use Rattle.fk_meaning_operation.specs.Kinds.{class_of, multiprefix_of}
use Rattle.fk_meaning_operation.specs.declared.operation.Multiprefix.{Multiprefix}
use Rattle.fk_meaning_operation.specs.declared.operation.Operation.{Operation}
use Rattle.fk_meaning_operation.specs.declared.operation.Operation.TheVariants as o
use Rattle.fk_meaning_operation.specs.declared.kinds.Class.{Class}
use Rattle.fk_meaning_operation.specs.declared.kinds.Class.TheVariants.{Local, Request, Tree}
use Rattle.fk_meaning_store.specs.declared.request.Request as request
use Rattle.fk_meaning_store.specs.declared.request.Request.TheVariants.{Read, Write, Multi}
use Rattle.fk_meaning_store.specs.Serve.{is_shared, shared_index, operator_of}
use Rattle.fk_meaning.specs.Processor.{Processor, Setting, values, last}
use Rattle.fk_meaning.specs.Request.{request as request_of}
use Rattle.fk_meaning.specs.Round.{Step, Runner, State, Round, Acting, asking, result}

-- whether an address is that of word x of shared data
abbrev pub is_word : (x address : ℕ) → Bool
is_word x a = is_shared a && (x == shared_index a)

abbrev pub touches : (x : ℕ) → request.Request → Bool
touches x (Read a) = is_word x a
touches x (Write a v) = is_word x a
touches x (Multi kind a v) = is_some (multiprefix_of kind) && is_word x a
touches x other = false

-- the request with which a processor accesses word x, if its operation is one
abbrev pub touch_by : (x : ℕ) → Processor → Class → Operation → Option request.Request
touch_by x p Local operation = None
touch_by x p Request operation = let q = request_of operation p in
    if touches x q then Some q else None
touch_by x p Tree operation = None

abbrev pub touch_of : (x : ℕ) → Processor → Option Operation → Option request.Request
touch_of x p None = None
touch_of x p (Some operation) = touch_by x p (class_of operation) operation

abbrev pub operation_due : {W : Type 0} → Option (Step W) → Option Operation
operation_due None = None
operation_due (Some step) = Some step.operation

abbrev pub touch : {W : Type 0} → (x : ℕ) → Acting W → Option request.Request
touch x a = touch_of x a.runner.has (operation_due a.due)

-- a word after a multiprefix
abbrev pub combined_with : Option Multiprefix → (word value : ℕ) → ℕ
combined_with None w v = w
combined_with (Some by) w v = applied (operator_of by) w v

-- the word after a request that accesses it, and the answer
abbrev pub after : request.Request → (word : ℕ) → ℕ
after (Write a v) w = v
after (Multi kind a v) w = combined_with (multiprefix_of kind) w v
after other w = w

abbrev pub answer : request.Request → (word : ℕ) → ℕ
answer (Write a v) w = v
answer other w = w

abbrev pub after_touch : Option request.Request → (word : ℕ) → ℕ
after_touch None w = w
after_touch (Some q) w = after q w

-- the word after processors have accessed it one after the other, in ascending order
abbrev pub word_after : {W : Type 0} → (x : ℕ) → List (Acting W) → (former : ℕ) → ℕ
word_after x [] w = w
word_after x (a ∷ actings) w = word_after x actings (after_touch (touch x a) w)

-- the values of the accesses to the word, in the same order
abbrev pub value_brought : request.Request → ℕ
value_brought (Write a v) = v
value_brought (Multi kind a v) = v
value_brought other = 0

abbrev pub brought_by : Option request.Request → List ℕ → List ℕ
brought_by None vs = vs
brought_by (Some q) vs = value_brought q ∷ vs

abbrev pub brought : {W : Type 0} → (x : ℕ) → List (Acting W) → List ℕ
brought x [] = []
brought x (a ∷ actings) = brought_by (touch x a) (brought x actings)

-- the last of some values, or another one if there are none
abbrev pub last_or : (other : ℕ) → List ℕ → ℕ
last_or other [] = other
last_or other (v ∷ vs) = last_or v vs

-- the last value of the processor with a number, if there is one
abbrev pub last_of : {W : Type 0} → List (Runner W) → (h : ℕ) → Option ℕ
last_of runners h = option_map (λ r. last (values r.has)) (slice_get runners h)

module _ {W : Type 0} (next : W → Option (Step W)) (setting : Setting) where
  -- in a round processor h accesses word x by a request
  abbrev pub Touches : Round → State W → (x h : ℕ) → request.Request → Type 0
  Touches round s x h q = (a : Acting W)
      × (slice_get (asking next setting round s.runners) h ≡ Some a) × (touch x a ≡ Some q)

  -- word x after the accesses of the processors below h, and the values of these accesses
  abbrev pub word_before : Round → State W → (x h : ℕ) → ℕ
  word_before round s x h =
      word_after x (take h (asking next setting round s.runners)) (s.store.words x)

  abbrev pub brought_below : Round → State W → (x h : ℕ) → List ℕ
  brought_below round s x h = brought x (take h (asking next setting round s.runners))

  abbrev pub all_brought : Round → State W → (x : ℕ) → List ℕ
  all_brought round s x = brought x (asking next setting round s.runners)

  -- in a round without a fault, each access to a word is answered by the word as the lower
  -- processors have left it
  pub record GoesInTurn (round : Round) (s : State W) (x : ℕ) : Type 0 where
    pub answers : (h : ℕ) (q : request.Request) → Touches round s x h q
        → last_of (result next setting round s).runners h
        ≡ Some (answer q (word_before round s x h))
    pub word : (result next setting round s).store.words x
        ≡ word_after x (asking next setting round s.runners) (s.store.words x)

  -- in a round without a fault only members of group n, in lockstep, access word x, all of them by
  -- one operation
  pub record IsGroupStep (round : Round) (s : State W) (n x : ℕ)
      (operation : Operation) : Type 0 where
    pub lockstep : t.kind s.tree n ≡ Some Lockstep
    pub no_fault : (result next setting round s).fault ≡ None
    pub alone : (h : ℕ) (q : request.Request) → Touches round s x h q
        → t.is_member h (t.members s.tree n) ≡ true
    pub one : (h : ℕ) (a : Acting W) → slice_get (asking next setting round s.runners) h ≡ Some a
        → (q : request.Request) → touch x a ≡ Some q → operation_due a.due ≡ Some operation

  -- reads answer the former word
  pub record Reads (round : Round) (s : State W) (x : ℕ) : Type 0 where
    pub answers : (h : ℕ) (q : request.Request) → Touches round s x h q
        → last_of (result next setting round s).runners h ≡ Some (s.store.words x)
    pub word : (result next setting round s).store.words x ≡ s.store.words x

  -- writes leave the value of the highest writer
  abbrev pub Writes : Round → State W → (x : ℕ) → Type 0
  Writes round s x = (result next setting round s).store.words x ≡ last_or (s.store.words x)
      (all_brought round s x)

  -- each multiprefix answers the former word combined with the values of the lower ones, and the
  -- word becomes the former one combined with all of them
  pub record Combines (by : Multiprefix) (round : Round) (s : State W) (x : ℕ) : Type 0 where
    pub answers : (h : ℕ) (q : request.Request) → Touches round s x h q
        → last_of (result next setting round s).runners h
        ≡ Some (fold (applied (operator_of by)) (s.store.words x) (brought_below round s x h))
    pub word : (result next setting round s).store.words x ≡ fold (applied (operator_of by))
        (s.store.words x) (all_brought round s x)

abbrev pub RequestsGoInTurn : (W : Type 0) → Type 0
RequestsGoInTurn W =
    (next : W → Option (Step W)) (setting : Setting) (round : Round) (s : State W) (x : ℕ)
    → (result next setting round s).fault ≡ None → GoesInTurn next setting round s x

pub record GroupStep (W : Type 0) : Type 0 where
  pub read : (next : W → Option (Step W)) (setting : Setting) (round : Round)
      (s : State W) (n x : ℕ)
      → IsGroupStep next setting round s n x o.Read → Reads next setting round s x
  pub write : (next : W → Option (Step W)) (setting : Setting) (round : Round)
      (s : State W) (n x : ℕ)
      → IsGroupStep next setting round s n x o.Write → Writes next setting round s x
  pub combine : (next : W → Option (Step W)) (setting : Setting) (round : Round) (s : State W)
      (n x : ℕ) (by : Multiprefix)
      → IsGroupStep next setting round s n x (o.Combine by) → Combines next setting by round s x
