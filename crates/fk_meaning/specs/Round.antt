-- Rounds: some processors act, each with a count. The work that is left may have any form that
-- gives its next operation.
use Rattle.std.specs.Prelude.{◌≡◌, ℕ, zero, suc, ◌==◌, nat_lt, Bool, true, false, ◌&&◌, List, []}
use Rattle.std.specs.Prelude.{◌∷◌, length, slice_index, Option, Some, None, is_none, is_some, map}
use Rattle.std.specs.Prelude.{if◌then◌else◌}
use Rattle.std.specs.List.{list_all}
use Rattle.fk_tree.specs.Tree as t
use Rattle.fk_tree.specs.declared.node.Kind.{Kind}
use Rattle.fk_tree.specs.declared.node.Kind.TheVariants.{Lockstep}
use Rattle.fk_meaning_operation.specs.Kinds.{class_of, joint_of}
use Rattle.fk_meaning_operation.specs.declared.operation.Operation.{Operation}
use Rattle.fk_meaning_operation.specs.declared.kinds.Class.{Class}
use Rattle.fk_meaning_operation.specs.declared.kinds.Class.TheVariants.{Local, Request, Tree}
use Rattle.fk_meaning_operation.specs.declared.kinds.Joint.{Joint}
use Rattle.fk_meaning_operation.specs.declared.kinds.Joint.TheVariants.{Alone, Starting, AtBarrier}
use Rattle.fk_meaning_operation.specs.declared.kinds.Joint.TheVariants.{Closing, Resuming}
use Rattle.fk_meaning_store.specs.Store.{Store}
use Rattle.fk_meaning_store.specs.Serve.{Answer, Served, Faults, serve}
use Rattle.fk_meaning.specs.Processor.{Processor, Setting, values, last}
use Rattle.fk_meaning.specs.Local.{local, is_onward}
use Rattle.fk_meaning.specs.Request.{request, with_answer}
use Rattle.fk_meaning.specs.Group.{does, goes_onward, changes, has_room}

-- an operation, its site, and the work that is left after it on either branch
pub record Step (W : Type 0) : Type 0 where
  pub operation : Operation
  pub site : ℕ
  pub rest : (onward : Bool) → W

-- a processor, and the work that it has left
pub record Runner (W : Type 0) : Type 0 where
  pub left : W
  pub has : Processor

pub record Fault : Type 0 where
  pub site : ℕ
  pub processor : ℕ

-- the runners are in the order of their numbers, from 0. A fault ends the run
pub record State (W : Type 0) : Type 0 where
  pub store : Store
  pub tree : t.Tree
  pub runners : List (Runner W)
  pub fault : Option Fault

-- a count for each processor, which is 0 if the processor isn't in the round
abbrev pub Round : Type 0
Round = List ℕ

-- the round without the processors from number `first` on
abbrev pub cut : (first : ℕ) → Round → Round
cut zero [] = []
cut zero (c ∷ round) = 0 ∷ cut zero round
cut (suc n) [] = []
cut (suc n) (c ∷ round) = c ∷ cut n round

-- a processor in a round, and the operation that it has taken but not done yet
pub record Acting (W : Type 0) : Type 0 where
  pub due : Option (Step W)
  pub runner : Runner W

abbrev pub taking : {W : Type 0} → Runner W → Option (Step W) → Acting W
taking r step = record { due = step; runner = r }

-- the operation is done, and the processor takes a branch
abbrev pub done : {W : Type 0} → Step W → (onward : Bool) → Processor → Acting W
done step onward p = record { due = None; runner = record { left = step.rest onward; has = p } }

abbrev pub runner_of : {W : Type 0} → Acting W → Runner W
runner_of a = a.runner

-- the phase of requests. A processor passes it, or faults at its site: a request is refused, or a
-- step of the tree finds no words
pub data Phase (W : Type 0) : Type 0 where
  Passes : (store : Store) (acting : Acting W) → Phase W
  Breaks : (site : ℕ) → Phase W

abbrev pub answered : {W : Type 0} → Step W → Processor → Answer → Phase W
answered step p (Served s v) = Passes s (done step true (with_answer step.operation v p))
answered step p (Faults kind) = Breaks step.site

abbrev pub do_request : {W : Type 0} → Store → Acting W → Class → Step W → Phase W
do_request s a Local step = Passes s a
do_request s a Request step =
    let p = a.runner.has in answered step p (serve (request step.operation p) s p.number)
do_request s a Tree step = if has_room step.operation a.runner.has then Passes s a
    else Breaks step.site

abbrev pub request_phase : {W : Type 0} → Store → Acting W → Option (Step W) → Phase W
request_phase s a None = Passes s a
request_phase s a (Some step) = do_request s a (class_of step.operation) step

-- all processors pass it in ascending order, up to the first fault
pub record Phases (W : Type 0) : Type 0 where
  pub store : Store
  pub acting : List (Acting W)
  pub fault : Option Fault

abbrev pub before_others : {W : Type 0} → Acting W → Phases W → Phases W
before_others a after = record after { acting = a ∷ after.acting }

abbrev pub after_phase : {W : Type 0} → (number : ℕ) → Store → Acting W → List (Acting W)
    → (Store → Phases W) → Phase W → Phases W
after_phase number s a actings others (Passes s' a') = before_others a' (others s')
after_phase number s a actings others (Breaks site) =
    record {
      store = s;
      acting = a ∷ actings;
      fault = Some (record { site = site; processor = number });
    }

abbrev pub all_requests : {W : Type 0} → (number : ℕ) → List (Acting W) → Store → Phases W
all_requests number [] s = record { store = s; acting = []; fault = None }
all_requests number (a ∷ actings) s =
    after_phase number s a actings (all_requests (suc number) actings) (request_phase s a a.due)

-- the phase of the tree: the lowest and the highest member of a group, and the processor with a
-- number
abbrev pub lowest : List ℕ → ℕ
lowest [] = 0
lowest (h ∷ hs) = h

abbrev pub highest : List ℕ → ℕ
highest [] = 0
highest (h ∷ []) = h
highest (h ∷ g ∷ hs) = highest (g ∷ hs)

abbrev pub nobody : Processor
nobody = record {
  number = 0;
  level = record {
    number = 0;
    rank = 0;
    size = 0;
    space = record { low = 0; high = 0; frames = 0; blocks = 0 };
  };
  outer = [];
  call = record { values = []; privates = λ i. 0; frames = λ i. 0 };
  callers = [];
  own = λ i. 0;
  top = 0;
}

abbrev pub who : {W : Type 0} → List (Acting W) → ℕ → Processor
who [] h = nobody
who (a ∷ actings) zero = a.runner.has
who (a ∷ actings) (suc h) = who actings h

-- the last value of the highest of some members
abbrev pub agreed : {W : Type 0} → List (Acting W) → (members : List ℕ) → ℕ
agreed actings members = last (values (who actings (highest members)))

-- a step at a node is one step for all its members: the lowest of them applies it to the tree
abbrev pub change_by : {W : Type 0} → List (Acting W) → (old : t.Tree) → (h : ℕ) → Option (Step W)
    → t.Tree → t.Tree
change_by actings old h None tree = tree
change_by actings old h (Some step) tree =
    let n = old.places h in
    let members = t.members old n in
    if h == lowest members then changes step.operation n (who actings)
    (agreed actings members) h tree else tree

abbrev pub all_changes : {W : Type 0} → List (Acting W) → (old : t.Tree) → List (Acting W)
    → t.Tree → t.Tree
all_changes actings old [] tree = tree
all_changes actings old (a ∷ others) tree =
    all_changes actings old others (change_by actings old a.runner.has.number a.due tree)

-- each member does its own part of the step, in the group that it has in the new tree
abbrev pub settled_by : {W : Type 0} → List (Acting W) → (old new : t.Tree) → Runner W
    → Option (Step W) → Runner W
settled_by actings old new r None = r
settled_by actings old new r (Some step) =
    let h = r.has.number in
    let members = t.members old (old.places h) in
    let value = agreed actings members in
    record {
      left = step.rest (goes_onward step.operation value (lowest members) r.has);
      has = does step.operation value (length (t.members new (new.places h))) r.has;
    }

abbrev pub settled : {W : Type 0} → List (Acting W) → (old new : t.Tree) → List (Acting W)
    → List (Runner W)
settled actings old new [] = []
settled actings old new (a ∷ others) =
    settled_by actings old new a.runner a.due ∷ settled actings old new others

-- the steps of the tree take place if there was no fault
abbrev pub tree_phase : {W : Type 0} → t.Tree → Store → List (Acting W) → Option Fault → State W
tree_phase tree s actings None =
    let new = all_changes actings tree actings tree in
    record { store = s; tree = new; runners = settled actings tree new actings; fault = None }
tree_phase tree s actings (Some fault) =
    record { store = s; tree = tree; runners = map runner_of actings; fault = Some fault }

-- which rounds are allowed. First the joint operation that each processor is about to do
abbrev pub joint_due : {W : Type 0} → Option (Step W) → Joint
joint_due None = Alone
joint_due (Some step) = joint_of step.operation

abbrev pub joint_at : {W : Type 0} → List (Acting W) → ℕ → Joint
joint_at [] h = Alone
joint_at (a ∷ actings) zero = joint_due a.due
joint_at (a ∷ actings) (suc h) = joint_at actings h

abbrev pub same_joint : Joint → Joint → Bool
same_joint Alone Alone = true
same_joint Starting Starting = true
same_joint AtBarrier AtBarrier = true
same_joint Closing Closing = true
same_joint Resuming Resuming = true
same_joint a b = false

-- the members that run the body of an asynchronous node
abbrev pub body_of : Option Kind → (members : List ℕ) → List ℕ
body_of None members = []
body_of (Some kind) members = t.runs kind members

-- all members that a joint operation needs do it, each with count 1, and it is due for all of them
abbrev pub all_do : Round → (ℕ → Joint) → Joint → List ℕ → Bool
all_do round does joint members =
    list_all (λ h. (slice_index round h == 1) && same_joint joint (does h)) members

abbrev pub joins : Round → (ℕ → Joint) → t.Tree → (n : ℕ) → Joint → Bool
joins round does tree n Alone = true
joins round does tree n Starting = all_do round does Starting (t.members tree n)
joins round does tree n AtBarrier =
    all_do round does AtBarrier (body_of (t.kind tree n) (t.members tree n))
joins round does tree n Closing = all_do round does Closing (t.members tree n)
joins round does tree n Resuming = t.ready tree n && all_do round does Resuming (t.members tree n)

-- a group in lockstep acts as a whole and with one count. At every other node each member acts by
-- itself, except in joint operations
abbrev pub fits_kind : Round → (ℕ → Joint) → t.Tree → (h n : ℕ) → Option Kind → Bool
fits_kind round does tree h n (Some Lockstep) =
    list_all (λ m. slice_index round m == slice_index round h) (t.members tree n)
fits_kind round does tree h n kind = joins round does tree n (does h)

-- a processor that isn't in the round always fits
abbrev pub fits : Round → (ℕ → Joint) → t.Tree → (h count : ℕ) → Bool
fits round does tree h zero = true
fits round does tree h (suc c) = let n = tree.places h in
    fits_kind round does tree h n (t.kind tree n)

abbrev pub all_fit : Round → (ℕ → Joint) → t.Tree → (h : ℕ) → (counts : List ℕ) → Bool
all_fit round does tree h [] = true
all_fit round does tree h (c ∷ counts) =
    fits round does tree h c && all_fit round does tree (suc h) counts

abbrev pub is_local : Class → Bool
is_local Local = true
is_local Request = false
is_local Tree = false

module _ {W : Type 0} (next : W → Option (Step W)) (setting : Setting) where
  -- the phase of local operations
  abbrev pub do_local : Acting W → Class → Step W → Acting W
  do_local a Local step =
      done step (is_onward step.operation a.runner.has) (local setting step.operation a.runner.has)
  do_local a Request step = a
  do_local a Tree step = a

  abbrev pub local_phase : Acting W → Option (Step W) → Acting W
  local_phase a None = a
  local_phase a (Some step) = do_local a (class_of step.operation) step

  -- a processor after `count` local operations
  abbrev pub after_one : Runner W → Runner W
  after_one r = let a = taking r (next r.left) in (local_phase a a.due).runner

  abbrev pub after_locals : (count : ℕ) → Runner W → Runner W
  after_locals zero r = r
  after_locals (suc c) r = after_locals c (after_one r)

  -- a processor with a count does all but the last of its operations, and takes the last one
  abbrev pub begin : (count : ℕ) → Runner W → Acting W
  begin zero r = taking r None
  begin (suc c) r = let q = after_locals c r in taking q (next q.left)

  abbrev pub begin_all : Round → List (Runner W) → List (Acting W)
  begin_all (c ∷ round) (r ∷ rs) = begin c r ∷ begin_all round rs
  begin_all round rs = []

  abbrev pub all_locals : List (Acting W) → List (Acting W)
  all_locals actings = map (λ a. local_phase a a.due) actings

  -- the processors before the requests of a round
  abbrev pub asking : Round → List (Runner W) → List (Acting W)
  asking round rs = all_locals (begin_all round rs)

  -- the state after a round: first the local operations, then the requests, then the steps of the
  -- tree
  abbrev pub result : Round → State W → State W
  result round s =
      let r = all_requests 0 (asking round s.runners) s.store in
      tree_phase s.tree r.store r.acting r.fault

  -- whether the next `count` operations are local
  abbrev pub is_local_next : Option (Step W) → Bool
  is_local_next None = false
  is_local_next (Some step) = is_local (class_of step.operation)

  abbrev pub are_local : (count : ℕ) → Runner W → Bool
  are_local zero r = true
  are_local (suc c) r = is_local_next (next r.left) && are_local c (after_one r)

  -- a count is at most 255, and all but the last of its operations are local
  abbrev pub may_act : (count : ℕ) → Runner W → Bool
  may_act zero r = true
  may_act (suc c) r = nat_lt c 255 && are_local c r && is_some (next (after_locals c r).left)

  abbrev pub all_may_act : Round → List (Runner W) → Bool
  all_may_act [] [] = true
  all_may_act (c ∷ round) (r ∷ rs) = may_act c r && all_may_act round rs
  all_may_act [] (r ∷ rs) = false
  all_may_act (c ∷ round) [] = false

  -- a round is allowed if each processor may be in it by itself, and all of them fit together
  abbrev pub is_allowed : Round → State W → Bool
  is_allowed round s =
      all_may_act round s.runners
      && all_fit round (joint_at (begin_all round s.runners)) s.tree 0 round

  -- an allowed round is possible if it has no fault
  abbrev pub is_possible : Round → State W → Bool
  is_possible round s = is_none s.fault && is_allowed round s && is_none (result round s).fault

  -- a round is stopped if it is what is left of an allowed round with a first fault, after removing
  -- all processors above the one that faults
  pub record IsStopped (round : Round) (s : State W) : Type 0 where
    pub running : s.fault ≡ None
    pub whole : Round
    pub allowed : is_allowed whole s ≡ true
    pub fault : Fault
    pub faults : (result whole s).fault ≡ Some fault
    pub is_cut : round ≡ cut (suc fault.processor) whole
