-- Rounds keep values, variables and shared data words, whatever groups there are.
use Rattle.std.proofs.Common.{◌≡◌, ℕ, zero, suc, ◌+◌, ◌-◌, ◌^◌, ◌<◌, ◌≤◌, List, [], ◌∷◌, ◌++◌, length, Option, Some, None, Bool, true, false, sym, subst, arith, refl, ◌⊎◌, inl, inr}
use Rattle.std.specs.Prelude.{◌==◌, if◌then◌else◌, nat_lt, nat_le, map, slice_get, slice_index, All}
use Rattle.std.proofs.lemmas.Bool.{cases_lt, lt-ltb, le-ltb, leb-true}
use Rattle.std.proofs.lemmas.List.{get_or_past}
use Rattle.std.proofs.lemmas.List.Elements.{All-nil, All-cons, All-append}
use Rattle.fk_num.specs.Word.{Memory, put}
use Rattle.fk_num.specs.Op.{applied}
use Rattle.fk_space.specs.Space.{heap}
use Rattle.fk_tree.specs.Tree as t
use Rattle.fk_meaning_operation.specs.Kinds.{class_of, multiprefix_kind, multiprefix_of}
use Rattle.fk_meaning_operation.specs.declared.kinds.Class.{Class}
use Rattle.fk_meaning_operation.specs.declared.kinds.Class.TheVariants.{Local, Request, Tree}
use Rattle.fk_meaning_operation.specs.declared.kinds.FaultKind.TheVariants.{BadAddress, CallDepth}
use Rattle.fk_meaning_operation.specs.declared.operation.Multiprefix.{Multiprefix}
use Rattle.fk_meaning_operation.specs.declared.operation.Operation.{Operation}
use Rattle.fk_meaning_operation.specs.declared.operation.Operation.TheVariants as o
use Rattle.fk_meaning_store.specs.Store.{Store, address_of, shared_words}
use Rattle.fk_meaning_store.specs.Serve.{Answer, Served, Faults, is_shared, shared_index, private_index, may_use, read, write, operator_of, combined, block_address, words_of, serve}
use Rattle.fk_meaning.specs.Processor.{Processor, Setting, values, last, setting_of, drop_last}
use Rattle.fk_meaning.specs.Request.{address, arguments, entered, depth, request, with_answer}
use Rattle.fk_meaning.specs.Group.{has_room}
use Rattle.fk_meaning.specs.Round.{Step, Runner, State, Fault, Round, Acting, taking, runner_of, Phase, Passes, Breaks, Phases, do_local, local_phase, after_one, after_locals, begin, asking, do_request, answered, request_phase, after_phase, all_requests, highest, who, agreed, all_changes, settled_by, settled, tree_phase, result}
use Rattle.fk_meaning.specs.Schedule.{Schedule, run, beginners}
use Rattle.fk_core.specs.declared.op.CoreOp.{CoreOp}
use Rattle.fk_core.specs.Next.{Position, next, position, list_opening}
use Rattle.fk_sim_block.specs.Ready.{IsInRange}
use Rattle.fk_sim_rounds.specs.InRange.{AreGiven, ListsStayInRange}
use Rattle.fk_sim_rounds.proofs.Words.{if_either, IsWord, applied-is}
use Rattle.fk_sim_rounds.proofs.Few.{IsFew, all_few, root_few}
use Rattle.fk_sim_rounds.proofs.Ranges.{AreWords, IsSound, IsSmall, last-is, before-are, put-is, in_place-sound, drop-sound, local-sound}
use Rattle.fk_sim_rounds.proofs.RangeSteps.{does-sound}

-- ---- stores

pub record IsSoundStore (s : Store) : Type 0 where
  pub words : (i : ℕ) → IsWord (s.words i)
  pub heaps : (h i : ℕ) → IsWord (s.heaps h i)
  pub top : s.top ≤ shared_words

read-is : (s : Store) (h a : ℕ) → IsSoundStore s → IsWord (read s h a)
read-is s h a sound = if_either {A = ℕ} IsWord (is_shared a) (s.words (shared_index a)) (s.heaps h (private_index a)) (sound.words (shared_index a)) (sound.heaps h (private_index a))

put_heap-is : (s : Store) (h i v : ℕ) → IsSoundStore s → IsWord v → (g : ℕ) (j : ℕ) (b : Bool) → IsWord ((if b then put (s.heaps h) i v else s.heaps g) j)
put_heap-is s h i v sound w g j true = put-is (s.heaps h) i v (sound.heaps h) w j
put_heap-is s h i v sound w g j false = sound.heaps g j

write-sound : (s : Store) (h a v : ℕ) → IsSoundStore s → IsWord v → IsSoundStore (write s h a v)
write-sound s h a v sound w =
    if_either {A = Store} IsSoundStore (is_shared a) _ _
    (record { words = put-is s.words (shared_index a) v sound.words w; heaps = sound.heaps; top = sound.top })
    (record { words = sound.words; heaps = λ g j. put_heap-is s h (private_index a) v sound w g j (g == h); top = sound.top })

-- ---- requests

abbrev IsAnswered : Operation → Processor → Answer → Type 0
IsAnswered operation p (Served s v) = IsSoundStore s × IsSound (with_answer operation v p)
IsAnswered operation p (Faults kind) = Unit {0}

arguments-are : (n : ℕ) (vs : List ℕ) → AreWords vs → (i : ℕ) → IsWord (arguments n vs i)
arguments-are zero vs all i = omega arith
arguments-are (suc n) [] all i = omega arith
arguments-are (suc n) (v ∷ vs) all i = put-is (arguments n vs) n v (arguments-are n vs all.1) all.0 i

entered-sound : (n : ℕ) (p : Processor) → IsSound p → depth p < 256 → IsSound (entered n p)
entered-sound n p s lt = record {
  number = s.number;
  level = s.level;
  outer = s.outer;
  call = record { values = tt; privates = arguments-are n (values p) s.call.values };
  callers = (record { values = before-are n (values p) s.call.values; privates = s.call.privates }, s.callers);
  own = s.own;
  top = s.top;
  waiting = lt;
}

combined-answered : (by : Multiprefix) (o' : Option Multiprefix) (p : Processor) (s : Store) → IsSound p → IsSoundStore s
    → IsAnswered (o.Combine by) p (combined o' s p.number (address p) (last (values p)))
combined-answered by None p s is sound = (sound, in_place-sound 0 (drop_last 1 p) (drop-sound 1 p is) (omega arith))
combined-answered by (Some op) p s is sound =
    let former = read-is s p.number (address p) sound in (
      write-sound s p.number (address p) (applied (operator_of op) (read s p.number (address p)) (last (values p))) sound
          (applied-is (operator_of op) (read s p.number (address p)) (last (values p)) former (last-is (values p) is.call.values)),
      in_place-sound (read s p.number (address p)) (drop_last 1 p) (drop-sound 1 p is) former,
    )

hired-by : (p : Processor) (s : Store) (words : ℕ) → IsSound p → IsSoundStore s → (b : Bool) → nat_le words (shared_words - s.top) ≡ b
    → IsAnswered o.Heap p (let block = heap s.top shared_words words in Served (record s { top = block.0 }) (block_address block.1))
hired-by p s words is sound true e =
    let top = sound.top in
    let le = leb-true words (shared_words - s.top) e in
    rw e (record { words = sound.words; heaps = sound.heaps; top = omega arith }, in_place-sound (address_of s.top) p is (omega arith))
hired-by p s words is sound false e =
    rw e (record { words = sound.words; heaps = sound.heaps; top = omega arith }, in_place-sound 0 p is (omega arith))

called-by : (n : ℕ) (p : Processor) (s : Store) → IsSound p → IsSoundStore s → ((depth p < 256) ⊎ (256 ≤ depth p))
    → IsAnswered (o.Enter n) p (if nat_lt (depth p) 256 then Served s 0 else Faults CallDepth)
called-by n p s is sound (inl lt) = rw (lt-ltb (depth p) 256 lt) (sound, entered-sound n p is lt)
called-by n p s is sound (inr le) = rw (le-ltb (depth p) 256 le) tt

served-sound : (operation : Operation) (p : Processor) (s : Store) → IsSound p → IsSoundStore s → IsAnswered operation p (serve (request operation p) s p.number)
served-sound (o.Check shared_alone) p s is sound =
    if_either {A = Answer} (IsAnswered (o.Check shared_alone) p) (may_use shared_alone (last (values p))) (Served s 0) (Faults BadAddress) (sound, is) tt
served-sound o.Read p s is sound = (sound, in_place-sound (read s p.number (last (values p))) p is (read-is s p.number (last (values p)) sound))
served-sound o.Write p s is sound =
    let v = last-is (values p) is.call.values in
    (write-sound s p.number (address p) (last (values p)) sound v, in_place-sound (last (values p)) (drop_last 1 p) (drop-sound 1 p is) v)
served-sound (o.Combine by) p s is sound = combined-answered by (multiprefix_of (multiprefix_kind by)) p s is sound
served-sound o.PrintNumber p s is sound = (record { words = sound.words; heaps = sound.heaps; top = sound.top }, drop-sound 1 p is)
served-sound o.PrintByte p s is sound = (record { words = sound.words; heaps = sound.heaps; top = sound.top }, drop-sound 1 p is)
served-sound o.Heap p s is sound =
    let words = words_of (last (values p)) in
    if_either {A = Answer} (IsAnswered o.Heap p) (words == 0) (Served s 0) _ (sound, in_place-sound 0 p is (omega arith)) (hired-by p s words is sound (nat_le words (shared_words - s.top)) refl)
served-sound (o.Enter n) p s is sound = called-by n p s is sound (cases_lt (depth p) 256)
served-sound operation p s is sound = if_either {A = Answer} (IsAnswered operation p) (nat_lt (depth p) 256) (Served s 0) (Faults CallDepth) (sound, is) tt

-- ---- the phases

abbrev IsActing : Acting Position → Type 0
IsActing a = IsSound a.runner.has

abbrev AllActing : List (Acting Position) → Type 0
AllActing [] = Unit {0}
AllActing (a ∷ as') = IsActing a × AllActing as'

-- a step of the tree that is due finds the words that it needs
abbrev FindsRoom : Option (Step Position) → Processor → Type 0
FindsRoom None p = Unit {0}
FindsRoom (Some step) p = has_room step.operation p ≡ true

abbrev AllFindRoom : List (Acting Position) → Type 0
AllFindRoom [] = Unit {0}
AllFindRoom (a ∷ as') = FindsRoom a.due a.runner.has × AllFindRoom as'

local_room : (operation : Operation) (p : Processor) → class_of operation ≡ Local → has_room operation p ≡ true
local_room (o.Frame nesting words) p e = absurd (cc)
local_room (o.Split by) p e = absurd (cc)
local_room operation p e = refl

abbrev pub AllSound : List (Runner Position) → Type 0
AllSound [] = Unit {0}
AllSound (r ∷ rs) = IsSound r.has × AllSound rs

-- what a group agrees on is the value of a processor
who_last : (all : List (Acting Position)) (h : ℕ) → AllActing all → IsWord (last (values (who all h)))
who_last [] h is = omega arith
who_last (a ∷ all) zero is = last-is (values a.runner.has) is.0.call.values
who_last (a ∷ all) (suc h) is = who_last all h is.1

-- values and variables are words, and no group has more members than there are processors
pub record IsSoundState (most : ℕ) (s : State Position) : Type 0 where
  pub store : IsSoundStore s.store
  pub tree : IsFew most s.tree
  pub runners : AllSound s.runners

module _ (core : List CoreOp) (set : Setting) (small : IsSmall set) where
  local_by : (a : Acting Position) (step : Step Position) (c : Class) → IsActing a → IsActing (do_local (next core) set a c step)
  local_by a step Local is = local-sound set step.operation a.runner.has small is
  local_by a step Request is = is
  local_by a step Tree is = is

  local_is : (a : Acting Position) (due : Option (Step Position)) → IsActing a → IsActing (local_phase (next core) set a due)
  local_is a None is = is
  local_is a (Some step) is = local_by a step (class_of step.operation) is

  after_sound : (c : ℕ) (r : Runner Position) → IsSound r.has → IsSound (after_locals (next core) set c r).has
  after_sound zero r is = is
  after_sound (suc c) r is = after_sound c (after_one (next core) set r) (local_is (taking r (next core r.left)) (next core r.left) is)

  begin_is : (c : ℕ) (r : Runner Position) → IsSound r.has → IsActing (begin (next core) set c r)
  begin_is zero r is = is
  begin_is (suc c) r is = after_sound c r is

  asking_are : (round : Round) (rs : List (Runner Position)) → AllSound rs → AllActing (asking (next core) set round rs)
  asking_are [] [] all = tt
  asking_are [] (r ∷ rs) all = tt
  asking_are (c ∷ round) [] all = tt
  asking_are (c ∷ round) (r ∷ rs) all =
      let a = begin (next core) set c r in (local_is a a.due (begin_is c r all.0), asking_are round rs all.1)

  -- a request passes, or breaks
  abbrev IsPhase : Phase Position → Type 0
  IsPhase (Passes s a) = IsSoundStore s × IsActing a × FindsRoom a.due a.runner.has
  IsPhase (Breaks site) = Unit {0}

  answered_is : (step : Step Position) (p : Processor) (answer : Answer) → IsAnswered step.operation p answer → IsPhase (answered step p answer)
  answered_is step p (Served s v) is = (is.0, is.1, tt)
  answered_is step p (Faults kind) is = tt

  step_by : (s : Store) (a : Acting Position) (step : Step Position) → a.due ≡ Some step → IsSoundStore s → IsActing a → (b : Bool) → has_room step.operation a.runner.has ≡ b
      → IsPhase (if b then Passes s a else Breaks step.site)
  step_by s a step e sound is true room = (sound, is, subst (λ due. FindsRoom due a.runner.has) (sym e) room)
  step_by s a step e sound is false room = tt

  request_by : (s : Store) (a : Acting Position) (step : Step Position) (c : Class) → class_of step.operation ≡ c → a.due ≡ Some step → IsSoundStore s → IsActing a → IsPhase (do_request s a c step)
  request_by s a step Local f e sound is = (sound, is, subst (λ due. FindsRoom due a.runner.has) (sym e) (local_room step.operation a.runner.has f))
  request_by s a step Request f e sound is =
      answered_is step a.runner.has (serve (request step.operation a.runner.has) s a.runner.has.number) (served-sound step.operation a.runner.has s is sound)
  request_by s a step Tree f e sound is = step_by s a step e sound is (has_room step.operation a.runner.has) refl

  request_is : (s : Store) (a : Acting Position) (due : Option (Step Position)) → a.due ≡ due → IsSoundStore s → IsActing a → IsPhase (request_phase s a due)
  request_is s a None e sound is = (sound, is, subst (λ due. FindsRoom due a.runner.has) (sym e) tt)
  request_is s a (Some step) e sound is = request_by s a step (class_of step.operation) refl e sound is

  record ArePhases (r : Phases Position) : Type 0 where
    store : IsSoundStore r.store
    acting : AllActing r.acting
    room : r.fault ≡ None → AllFindRoom r.acting

  after_is : (number : ℕ) (s : Store) (a : Acting Position) (as' : List (Acting Position)) (phase : Phase Position) → IsSoundStore s → IsActing a → AllActing as' → IsPhase phase
      → ((s' : Store) → IsSoundStore s' → ArePhases (all_requests (suc number) as' s')) → ArePhases (after_phase number s a as' (all_requests (suc number) as') phase)
  after_is number s a as' (Passes s' a') sound is all phase rest =
      let r = rest s' phase.0 in record { store = r.store; acting = (phase.1, r.acting); room = λ none. (phase.2, r.room none) }
  after_is number s a as' (Breaks site) sound is all phase rest = record { store = sound; acting = (is, all); room = λ none. absurd (let e = none in cc) }

  requests_are : (number : ℕ) (as' : List (Acting Position)) (s : Store) → IsSoundStore s → AllActing as' → ArePhases (all_requests number as' s)
  requests_are number [] s sound all = record { store = sound; acting = tt; room = λ none. tt }
  requests_are number (a ∷ as') s sound all =
      after_is number s a as' (request_phase s a a.due) sound all.0 all.1 (request_is s a a.due refl sound all.0) (λ s' sound'. requests_are (suc number) as' s' sound' all.1)

  -- ---- the phase of the tree

  settled_one : (all : List (Acting Position)) (old new : t.Tree) (r : Runner Position) (due : Option (Step Position)) → AllActing all → IsFew set.processors new
      → IsSound r.has → FindsRoom due r.has → IsSound (settled_by all old new r due).has
  settled_one all old new r None are few is room = is
  settled_one all old new r (Some step) are few is room =
      let members = t.members old (old.places r.has.number) in
      let many = few (new.places r.has.number) in
      let word = small.processors in
      does-sound step.operation (agreed all members) (length (t.members new (new.places r.has.number))) r.has room is (who_last all (highest members) are) (omega (arith, many, word))

  settled_are : (all : List (Acting Position)) (old new : t.Tree) → AllActing all → IsFew set.processors new → (as' : List (Acting Position)) → AllActing as' → AllFindRoom as'
      → AllSound (settled all old new as')
  settled_are all old new are few [] is room = tt
  settled_are all old new are few (a ∷ as') is room =
      (settled_one all old new a.runner a.due are few is.0 room.0, settled_are all old new are few as' is.1 room.1)

  runners_are : (as' : List (Acting Position)) → AllActing as' → AllSound (map runner_of as')
  runners_are [] is = tt
  runners_are (a ∷ as') is = (is.0, runners_are as' is.1)

  tree_is : (tree : t.Tree) (s : Store) (as' : List (Acting Position)) (fault : Option Fault) → IsSoundStore s → IsFew set.processors tree → AllActing as' → (fault ≡ None → AllFindRoom as')
      → IsSoundState set.processors (tree_phase tree s as' fault)
  tree_is tree s as' None sound few is room =
      let new = all_changes as' tree as' tree in
      let fewer = all_few set.processors as' tree as' tree few in
      record { store = sound; tree = fewer; runners = settled_are as' tree new is fewer as' is (room refl) }
  tree_is tree s as' (Some fault) sound few is room = record { store = sound; tree = few; runners = runners_are as' is }

  result_is : (round : Round) (s : State Position) → IsSoundState set.processors s → IsSoundState set.processors (result (next core) set round s)
  result_is round s is =
      let r = all_requests 0 (asking (next core) set round s.runners) s.store in
      let are = requests_are 0 (asking (next core) set round s.runners) s.store is.store (asking_are round s.runners is.runners) in
      tree_is s.tree r.store r.acting r.fault are.store is.tree are.acting are.room

  run_is : (schedule : Schedule) (s : State Position) → IsSoundState set.processors s → IsSoundState set.processors (run (next core) set schedule s)
  run_is [] s is = is
  run_is (round ∷ schedule) s is = run_is schedule (result (next core) set round s) (result_is round s is)

-- ---- the opening

words_at : (xs : List ℕ) → All IsWord xs → (i : ℕ) → IsWord (slice_index xs i)
words_at xs all i = by (cases_lt i (length xs))
  where
    by : ((i < length xs) ⊎ (length xs ≤ i)) → IsWord (slice_index xs i)
    by (inl lt) = all i 0 lt
    by (inr le) = let e = get_or_past xs i 0 le in omega arith

beginners_are : (set : Setting) (firsts : Memory) (left : Position) (number count : ℕ) → number + count ≤ 1024 → set.processors ≤ 1024 → set.globals + set.inputs ≤ 2 ^ 19 → ((i : ℕ) → IsWord (firsts i))
    → AllSound (beginners set firsts left number count)
beginners_are set firsts left number zero le few room is = tt
beginners_are set firsts left number (suc n) le few room is = (
  record {
    number = omega arith;
    level = record { number = omega arith; rank = omega arith; size = omega arith; blocks = omega arith };
    outer = tt;
    call = record { values = tt; privates = λ i. omega arith };
    callers = tt;
    own = is;
    top = omega arith;
    waiting = omega arith;
  },
  beginners_are set firsts left (suc number) n (omega arith) few room is,
)

opening_is : (main : ℕ) (words firsts input : List ℕ) (p : ℕ) → AreGiven words firsts input p → IsSoundState p (list_opening main words firsts input p)
opening_is main words firsts input p given =
    let few = given.few in
    let room = given.room in
    record {
      store = record {
        words = words_at (words ++ input) (All-append IsWord words input given.globals_are_words given.input_are_words);
        heaps = λ h j. omega arith;
        top = omega arith;
      };
      tree = root_few p;
      runners = beginners_are (setting_of p words input) (slice_index firsts) (position main []) 0 p (omega arith) few room (words_at firsts given.firsts_are_words);
    }

-- ---- what it says of a processor

words_all : (vs : List ℕ) → AreWords vs → All IsWord vs
words_all [] all = All-nil IsWord
words_all (v ∷ vs) all = All-cons IsWord v vs all.0 (words_all vs all.1)

in_range : (p : Processor) → IsSound p → IsInRange p
in_range p s = record { values = words_all p.call.values s.call.values; privates = s.call.privates; own = s.own; top = s.top; waiting = s.waiting }

range_at : (rs : List (Runner Position)) (h : ℕ) (r : Runner Position) → AllSound rs → slice_get rs h ≡ Some r → IsInRange r.has
range_at [] h r all e = absurd (cc)
range_at (q ∷ rs) zero r all e = let same : q ≡ r = cc in subst (λ x. IsInRange x.has) same (in_range q.has all.0)
range_at (q ∷ rs) (suc h) r all e = range_at rs h r all.1 e

pub lists_stay_in_range : ListsStayInRange
lists_stay_in_range core main words firsts input p schedule given h r e =
    let few = given.few in
    let room = given.room in
    let set = setting_of p words input in
    let first = list_opening main words firsts input p in
    let small : IsSmall set = record { processors = omega arith; inputs = omega arith; globals = omega arith } in
    range_at (run (next core) set schedule first).runners h r (run_is core set small schedule first (opening_is main words firsts input p given)).runners e
