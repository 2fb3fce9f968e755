-- What one processor has after it has acted: with its group, by itself, or where it waits.
use Rattle.std.proofs.Common.{◌≡◌, ◌≢◌, ◌⊎◌, inl, inr, ⊎_elim, ℕ, zero, suc, Bool, true, false, true≢false, List, [], ◌∷◌, ◌++◌, length, Option, Some, None, is_some, refl, sym, ap, ◌∙◌, subst, if◌then◌else◌}
use Rattle.std.specs.Prelude.{◌==◌, nat_lt, not}
use Rattle.fk_meaning_operation.specs.Kinds.{class_of, joint_of}
use Rattle.fk_meaning_operation.specs.declared.operation.Operation.{Operation}
use Rattle.fk_meaning_operation.specs.declared.operation.Operation.TheVariants as o
use Rattle.fk_meaning_operation.specs.declared.operation.SplitKind.{SplitKind}
use Rattle.fk_meaning_operation.specs.declared.operation.SplitKind.TheVariants as split_by
use Rattle.fk_meaning_operation.specs.declared.kinds.Class.{Class}
use Rattle.fk_meaning_operation.specs.declared.kinds.Class.TheVariants.{Local, Request, Tree}
use Rattle.fk_meaning_operation.specs.declared.kinds.Joint.TheVariants as joint
use Rattle.fk_meaning.specs.Processor.{Processor, Setting, values, last}
use Rattle.fk_meaning.specs.Behind.{grown}
use Rattle.fk_meaning.specs.Local.{local, is_onward}
use Rattle.fk_meaning.specs.Request.{with_answer}
use Rattle.fk_meaning.specs.Group.{not_negative, parts, does, goes_onward}
use Rattle.fk_meaning.specs.Round.{Step, Runner, Acting, taking, done, do_local, local_phase, after_locals}
use Rattle.fk_lockstep.specs.InStep.{is_agree}
use Rattle.fk_lockstep.specs.Untouched.{changes_tree}
use Rattle.fk_lockstep.proofs.Rounds.{Outcome, OutcomeBy}
use Rattle.fk_lockstep.specs.Course.{Context, InGroup, Waits, ByItself, Stays, Does, DoesNext, FollowsFor, Follows}
use Rattle.fk_lockstep.specs.Counts.{Counts, ArePending, Leaves, CountsGoOn, CountedNext, CountedFor, IsCounted}

pub untrue : {A : Type 0} → false ≡ true → A
untrue e = absurd (true≢false (sym e))

-- what all members of a group have: what is left, the value on which they have agreed, and the numbers of parts that are
-- pending
pub record Here (W : Type 0) : Type 0 where
  pub left : W
  pub agreed : Option ℕ
  pub numbers : List ℕ

-- what is told of it further in
pub record Out (W : Type 0) : Type 0 where
  pub left : W
  pub numbers : List ℕ

abbrev pub told : {W : Type 0} → Here W → Out W
told x = record { left = x.left; numbers = x.numbers }

abbrev pub lefts : {W : Type 0} → List (Out W) → List W
lefts [] = []
lefts (x ∷ xs) = x.left ∷ lefts xs

-- where nothing is pending
abbrev pub bare : {W : Type 0} → List W → List (Out W)
bare [] = []
bare (w ∷ ws) = record { left = w; numbers = [] } ∷ bare ws

pub lefts_bare : {W : Type 0} (ws : List W) → lefts (bare ws) ≡ ws
lefts_bare [] = refl
lefts_bare (w ∷ ws) = ap (λ (vs : List _). w ∷ vs) (lefts_bare ws)

-- the numbers end with those that are pending behind the part
abbrev pub Ends : {W : Type 0} → List (Out W) → List ℕ → Type 0
Ends [] ns = Unit {0}
Ends (x ∷ xs) ns = (more : List ℕ) × (ns ≡ more ++ x.numbers)

pub ends_more : {W : Type 0} (b : List (Out W)) (first : Bool) (v : ℕ) (ns : List ℕ) → Ends b ns → Ends b (grown first v ns)
ends_more [] first v ns e = tt
ends_more (x ∷ xs) true v ns e = (v ∷ e.0, ap (λ (ms : List ℕ). v ∷ ms) e.1)
ends_more (x ∷ xs) false v ns e = e

abbrev pub HasValue : {W : Type 0} → Option ℕ → Runner W → Type 0
HasValue None r = Unit {0}
HasValue (Some v) r = last (values r.has) ≡ v

abbrev pub without : {W : Type 0} → W → List ℕ → Here W
without w ns = record { left = w; agreed = None; numbers = ns }

-- what is pending behind a step of the tree that changes nothing in it
abbrev pub numbers_after : Operation → (before behind value : ℕ) → List ℕ → List ℕ
numbers_after op m n v ns = if is_agree op then grown (nat_lt m n) v ns else ns

agree_value : (op : Operation) (v size : ℕ) (p : Processor) → is_agree op ≡ true → last (values (does op v size p)) ≡ v
agree_value o.Agree v size p e = refl
agree_value op v size p e = untrue e

abbrev pub within : ℕ → Bool
within zero = false
within (suc n) = true

-- which way a group goes
abbrev pub way : Option ℕ → Operation → Bool
way (Some v) (o.Branch true) = not (v == 0)
way (Some v) (o.Branch false) = v == 0
way a op = true

onward_is : {W : Type 0} (a : Option ℕ) (op : Operation) (r : Runner W) → ((onward : Bool) → op ≡ o.Branch onward → is_some a ≡ true) → HasValue a r
    → is_onward op r.has ≡ way a op
onward_is (Some v) (o.Branch true) r may value = ap (λ w. not (w == 0)) value
onward_is (Some v) (o.Branch false) r may value = ap (λ w. w == 0) value
onward_is None (o.Branch onward) r may value = untrue (may onward refl)
onward_is (Some v) op r may value = refl
onward_is None op r may value = refl

pub plain_way : (op : Operation) (highest lowest : ℕ) (p : Processor) → changes_tree op ≡ false → goes_onward op highest lowest p ≡ true
plain_way o.Begin highest lowest p e = absurd (true≢false e)
plain_way (o.Split by) highest lowest p e = absurd (true≢false e)
plain_way o.Shrink highest lowest p e = absurd (true≢false e)
plain_way o.Seq highest lowest p e = absurd (true≢false e)
plain_way op highest lowest p e = refl

abbrev pub is_changing : {W : Type 0} → Option (Step W) → Bool
is_changing None = false
is_changing (Some step) = changes_tree step.operation

some_if : (v : ℕ) (b : Bool) → b ≡ is_some (if b then Some v else None)
some_if v true = refl
some_if v false = refl

-- members of a group make as many parts
pub parts_same : {W : Type 0} (next : W → Option (Step W)) (outs : W → List W) (counts : Counts W) (by : SplitKind) (here : W) (rest : Bool → W) → CountsGoOn next outs counts (o.Split by) here rest
    → (q r : Processor) (ns : List ℕ) → ArePending next outs counts here q ns → ArePending next outs counts here r ns → parts by (values q) ≡ parts by (values r)
parts_same next outs counts split_by.Fork here rest c q r ns e f = ap not_negative (ap head (sym (c.0 0 None q ns e).1 ∙ (c.0 0 None r ns f).1))
  where
    head : List ℕ → ℕ
    head [] = 0
    head (v ∷ vs) = v
parts_same next outs counts split_by.IfElse here rest c q r ns e f = refl
parts_same next outs counts by here rest c q r ns e f = refl

module _ {W : Type 0} (next : W → Option (Step W)) (outs : W → List W) (counts : Counts W) where
  pub record Is (x : Here W) (r : Runner W) : Type 0 where
    pub left : r.left ≡ x.left
    pub value : HasValue x.agreed r
    pub numbers : ArePending next outs counts x.left r.has x.numbers
    pub counted : IsCounted next outs counts x.left

  -- there are as many as are pending
  pub record AtNode (behind : List (Out W)) (x : Here W) : Type 0 where
    pub many : length x.numbers ≡ counts.pending x.left
    pub ends : Ends behind x.numbers

  pub record Grouped (behind : List (Out W)) (x : Here W) : Type 0 where
    pub outs_are : outs x.left ≡ lefts behind
    pub follows : Follows next outs (InGroup (is_some x.agreed)) x.left
    pub ends : Ends behind x.numbers

  pub record Parted (n : ℕ) (behind : List (Out W)) (x : Here W) : Type 0 where
    pub outs_are : outs x.left ≡ lefts behind
    pub follows : Follows next outs (Waits (within n)) x.left
    pub unagreed : x.agreed ≡ None
    pub at : AtNode behind x

  -- who runs by itself has its meeting ahead, or has ended. What is pending there is pending all the while
  pub record Loner (alone : Bool) (ahead : List W) (ns : List ℕ) (Holds : Type 0) (r : Runner W) : Type 0 where
    pub outs_are : outs r.left ≡ ahead
    pub follows : Follows next outs (ByItself alone) r.left
    pub more : List ℕ
    pub numbers : ArePending next outs counts r.left r.has (more ++ ns)
    pub counted : IsCounted next outs counts r.left
    pub holds : Holds

  abbrev pub LonerOrNone : (alone : Bool) (ahead : List W) (ns : List ℕ) (Holds : Type 0) (r : Runner W) → Type 0
  LonerOrNone alone ahead ns Holds r = (next r.left ≡ None) ⊎ Loner alone ahead ns Holds r

  abbrev pub ahead_of : ℕ → List (Out W) → Here W → List W
  ahead_of zero behind x = lefts behind
  ahead_of (suc n) behind x = x.left ∷ lefts behind

  abbrev pub Apart : (n : ℕ) → List (Out W) → Here W → Runner W → Type 0
  Apart n behind x r = LonerOrNone (within n) (ahead_of n behind x) x.numbers (AtNode behind x) r

  -- what is pending, operation by operation
  pub counts_so : (w : W) (step : Step W) → IsCounted next outs counts w → next w ≡ Some step → CountsGoOn next outs counts step.operation w step.rest
  counts_so w step f e = (subst (CountedNext next outs counts (CountedFor next outs counts 0) w) e (f 1)).0

  pub counts_on : (w : W) (step : Step W) → IsCounted next outs counts w → next w ≡ Some step → (onward : Bool) → IsCounted next outs counts (step.rest onward)
  counts_on w step f e onward n = (subst (CountedNext next outs counts (CountedFor next outs counts n) w) e (f (suc n))).1 onward

  leaves_by : (op : Operation) (w : W) (rest : Bool → W) (c : Class) → class_of op ≡ c → c ≢ Tree → CountsGoOn next outs counts op w rest → Leaves next outs counts c op w rest
  leaves_by o.Agree w rest c is isnt h = absurd (isnt (sym is))
  leaves_by (o.Split by) w rest c is isnt h = absurd (isnt (sym is))
  leaves_by o.Farm w rest c is isnt h = absurd (isnt (sym is))
  leaves_by o.Begin w rest c is isnt h = absurd (isnt (sym is))
  leaves_by op w rest c is isnt h = subst (λ (c' : Class). Leaves next outs counts c' op w rest) is h

  plain_numbers : (op : Operation) (w : W) (rest : Bool → W) → class_of op ≡ Tree → changes_tree op ≡ false → CountsGoOn next outs counts op w rest
      → (v size : ℕ) (p : Processor) (ns : List ℕ) → ArePending next outs counts w p ns
      → ArePending next outs counts (rest true) (does op v size p) (numbers_after op (counts.pending w) (counts.pending (rest true)) v ns)
  plain_numbers o.Agree w rest is e h v size p ns are = h v p ns are
  plain_numbers o.Begin w rest is e h v size p ns are = absurd (true≢false e)
  plain_numbers (o.Split by) w rest is e h v size p ns are = absurd (true≢false e)
  plain_numbers o.Shrink w rest is e h v size p ns are = absurd (true≢false e)
  plain_numbers o.End w rest is e h v size p ns are = absurd (true≢false e)
  plain_numbers o.Farm w rest is e h v size p ns are = absurd (true≢false e)
  plain_numbers o.Seq w rest is e h v size p ns are = absurd (true≢false e)
  plain_numbers o.Resume w rest is e h v size p ns are = absurd (true≢false e)
  plain_numbers (o.Meet true) w rest is e h v size p ns are = absurd (true≢false e)
  plain_numbers (o.Meet false) w rest is e h v size p ns are = h v 0 size p ns are
  plain_numbers op w rest is e h v size p ns are = (subst (λ (c : Class). Leaves next outs counts c op w rest) is h) v 0 size p ns are

  pub does_so : (context : Context) (w : W) (step : Step W) → Follows next outs context w → next w ≡ Some step → (n : ℕ) → Does next outs (FollowsFor next outs n) context step.operation w step.rest
  does_so context w step f e n = subst (DoesNext next outs (FollowsFor next outs n) context w) e (f (suc n))

  -- local operations and requests leave a processor where it is
  group_stays : (F : Context → W → Type 0) (agreed : Bool) (op : Operation) (w : W) (rest : Bool → W) (c : Class) → class_of op ≡ c → c ≢ Tree
      → Does next outs F (InGroup agreed) op w rest → Stays next outs F (InGroup false) w rest
  group_stays F agreed (o.Branch onward) w rest c is isnt h = h.1
  group_stays F agreed o.Block w rest c is isnt h = absurd (isnt (sym is))
  group_stays F agreed o.Agree w rest c is isnt h = absurd (isnt (sym is))
  group_stays F agreed (o.Split by) w rest c is isnt h = absurd (isnt (sym is))
  group_stays F agreed o.Shrink w rest c is isnt h = absurd (isnt (sym is))
  group_stays F agreed o.End w rest c is isnt h = absurd (isnt (sym is))
  group_stays F agreed o.Farm w rest c is isnt h = absurd (isnt (sym is))
  group_stays F agreed o.Seq w rest c is isnt h = absurd (isnt (sym is))
  group_stays F agreed o.Begin w rest c is isnt h = absurd h
  group_stays F agreed o.Resume w rest c is isnt h = absurd h
  group_stays F agreed (o.Meet true) w rest c is isnt h = absurd h
  group_stays F agreed (o.Meet false) w rest c is isnt h = absurd (isnt (sym is))
  group_stays F agreed o.Halt w rest c is isnt h = absurd h
  group_stays F agreed op w rest c is isnt h = h

  group_branch : (F : Context → W → Type 0) (agreed : Bool) (op : Operation) (w : W) (rest : Bool → W) (onward : Bool) → op ≡ o.Branch onward
      → Does next outs F (InGroup agreed) op w rest → agreed ≡ true
  group_branch F agreed op w rest onward e h = (subst (λ (op' : Operation). Does next outs F (InGroup agreed) op' w rest) e h).0

  -- steps of the tree that don't change it
  group_plain : (F : Context → W → Type 0) (agreed : Bool) (op : Operation) (w : W) (rest : Bool → W) → class_of op ≡ Tree → changes_tree op ≡ false
      → Does next outs F (InGroup agreed) op w rest → Stays next outs F (InGroup (is_agree op)) w rest
  group_plain F agreed o.Block w rest is e h = h.1
  group_plain F agreed o.Agree w rest is e h = h
  group_plain F agreed (o.Split by) w rest is e h = absurd (true≢false e)
  group_plain F agreed o.Shrink w rest is e h = absurd (true≢false e)
  group_plain F agreed o.End w rest is e h = absurd (true≢false e)
  group_plain F agreed o.Farm w rest is e h = absurd (true≢false e)
  group_plain F agreed o.Seq w rest is e h = absurd (true≢false e)
  group_plain F agreed o.Begin w rest is e h = absurd h
  group_plain F agreed o.Resume w rest is e h = absurd h
  group_plain F agreed (o.Meet true) w rest is e h = absurd h
  group_plain F agreed (o.Meet false) w rest is e h = h
  group_plain F agreed o.Halt w rest is e h = absurd h
  group_plain F agreed (o.Branch onward) w rest is e h = h.1
  group_plain F agreed op w rest is e h = h

  alone_stays : (F : Context → W → Type 0) (alone : Bool) (op : Operation) (w : W) (rest : Bool → W) (c : Class) → class_of op ≡ c → c ≢ Tree
      → Does next outs F (ByItself alone) op w rest → Stays next outs F (ByItself alone) w rest
  alone_stays F true o.Begin w rest c is isnt h = absurd h
  alone_stays F false o.Begin w rest c is isnt h = absurd (isnt (sym is))
  alone_stays F true (o.Meet true) w rest c is isnt h = absurd (isnt (sym is))
  alone_stays F false (o.Meet true) w rest c is isnt h = absurd h
  alone_stays F true o.Halt w rest c is isnt h = absurd h
  alone_stays F false o.Halt w rest c is isnt h = absurd (isnt (sym is))
  alone_stays F true (o.Split by) w rest c is isnt h = absurd h
  alone_stays F true o.Shrink w rest c is isnt h = absurd h
  alone_stays F true o.End w rest c is isnt h = absurd h
  alone_stays F true o.Farm w rest c is isnt h = absurd h
  alone_stays F true o.Seq w rest c is isnt h = absurd h
  alone_stays F true o.Resume w rest c is isnt h = absurd h
  alone_stays F false (o.Split by) w rest c is isnt h = absurd h
  alone_stays F false o.Shrink w rest c is isnt h = absurd h
  alone_stays F false o.End w rest c is isnt h = absurd h
  alone_stays F false o.Farm w rest c is isnt h = absurd h
  alone_stays F false o.Seq w rest c is isnt h = absurd h
  alone_stays F false o.Resume w rest c is isnt h = absurd h
  alone_stays F true (o.Meet false) w rest c is isnt h = h
  alone_stays F false (o.Meet false) w rest c is isnt h = h
  alone_stays F true op w rest c is isnt h = h
  alone_stays F false op w rest c is isnt h = h

  pub alone_plain : (F : Context → W → Type 0) (alone : Bool) (op : Operation) (w : W) (rest : Bool → W) → changes_tree op ≡ false → op ≢ o.Halt
      → Does next outs F (ByItself alone) op w rest → Stays next outs F (ByItself alone) w rest
  alone_plain F true o.Begin w rest e isnt h = absurd h
  alone_plain F false o.Begin w rest e isnt h = absurd (true≢false e)
  alone_plain F true (o.Meet true) w rest e isnt h = absurd (true≢false e)
  alone_plain F false (o.Meet true) w rest e isnt h = absurd h
  alone_plain F true o.Halt w rest e isnt h = absurd h
  alone_plain F false o.Halt w rest e isnt h = absurd (isnt refl)
  alone_plain F true (o.Split by) w rest e isnt h = absurd h
  alone_plain F true o.Shrink w rest e isnt h = absurd h
  alone_plain F true o.End w rest e isnt h = absurd h
  alone_plain F true o.Farm w rest e isnt h = absurd h
  alone_plain F true o.Seq w rest e isnt h = absurd h
  alone_plain F true o.Resume w rest e isnt h = absurd h
  alone_plain F false (o.Split by) w rest e isnt h = absurd h
  alone_plain F false o.Shrink w rest e isnt h = absurd h
  alone_plain F false o.End w rest e isnt h = absurd h
  alone_plain F false o.Farm w rest e isnt h = absurd h
  alone_plain F false o.Seq w rest e isnt h = absurd h
  alone_plain F false o.Resume w rest e isnt h = absurd h
  alone_plain F true (o.Meet false) w rest e isnt h = h
  alone_plain F false (o.Meet false) w rest e isnt h = h
  alone_plain F true op w rest e isnt h = h
  alone_plain F false op w rest e isnt h = h

  halts : (alone : Bool) (op : Operation) → (op ≡ o.Halt) ⊎ (op ≢ o.Halt)
  halts alone o.Halt = inl refl
  halts alone op = inr (λ e. cc)

  alone_halt : (F : Context → W → Type 0) (alone : Bool) (op : Operation) (w : W) (rest : Bool → W) → op ≡ o.Halt
      → Does next outs F (ByItself alone) op w rest → (onward : Bool) → next (rest onward) ≡ None
  alone_halt F alone op w rest e h = by alone (subst (λ (op' : Operation). Does next outs F (ByItself alone) op' w rest) e h)
    where
      by : (alone' : Bool) → Does next outs F (ByItself alone') o.Halt w rest → (onward : Bool) → next (rest onward) ≡ None
      by true h' = absurd h'
      by false h' = h'

  -- the only operation of who waits
  waits_resume : (F : Context → W → Type 0) (inner : Bool) (op : Operation) (w : W) (rest : Bool → W) → Does next outs F (Waits inner) op w rest → op ≡ o.Resume
  waits_resume F inner o.Resume w rest h = refl
  waits_resume F inner op w rest h = absurd h

  -- who runs by itself changes the tree only together with others
  alone_joint : (F : Context → W → Type 0) (alone : Bool) (op : Operation) (w : W) (rest : Bool → W) → changes_tree op ≡ true
      → Does next outs F (ByItself alone) op w rest → joint_of op ≢ joint.Alone
  alone_joint F true o.Begin w rest e h = absurd h
  alone_joint F false o.Begin w rest e h = λ same_one. cc
  alone_joint F true (o.Meet true) w rest e h = λ same_one. cc
  alone_joint F false (o.Meet true) w rest e h = absurd h
  alone_joint F true (o.Meet false) w rest e h = untrue e
  alone_joint F false (o.Meet false) w rest e h = untrue e
  alone_joint F true (o.Split by) w rest e h = absurd h
  alone_joint F true o.Shrink w rest e h = absurd h
  alone_joint F true o.End w rest e h = absurd h
  alone_joint F true o.Farm w rest e h = absurd h
  alone_joint F true o.Seq w rest e h = absurd h
  alone_joint F true o.Resume w rest e h = absurd h
  alone_joint F false (o.Split by) w rest e h = absurd h
  alone_joint F false o.Shrink w rest e h = absurd h
  alone_joint F false o.End w rest e h = absurd h
  alone_joint F false o.Farm w rest e h = absurd h
  alone_joint F false o.Seq w rest e h = absurd h
  alone_joint F false o.Resume w rest e h = absurd h
  alone_joint F true op w rest e h = untrue e
  alone_joint F false op w rest e h = untrue e

  pub going_on : (alone : Bool) (ahead : List W) (ns : List ℕ) (Holds : Type 0) (r : Runner W) → LonerOrNone alone ahead ns Holds r → (step : Step W) → next r.left ≡ Some step → Loner alone ahead ns Holds r
  going_on alone ahead ns Holds r h step e = ⊎_elim (λ none. let clash : None ≡ Some step = sym none ∙ e in absurd (cc)) (λ g. g) h

  pub lone_joint : (alone : Bool) (ahead : List W) (ns : List ℕ) (Holds : Type 0) (r : Runner W) → LonerOrNone alone ahead ns Holds r → (step : Step W) → next r.left ≡ Some step → changes_tree step.operation ≡ true
      → joint_of step.operation ≢ joint.Alone
  lone_joint alone ahead ns Holds r h step e changes =
      alone_joint (FollowsFor next outs 0) alone step.operation r.left step.rest changes (does_so (ByItself alone) r.left step (going_on alone ahead ns Holds r h step e).follows e 0)

  -- a processor after a step of the tree that changes nothing in it, where the highest member has a value
  pub record Settles (v : ℕ) (step : Step W) (q r : Runner W) : Type 0 where
    pub size : ℕ
    pub left : r.left ≡ step.rest true
    pub has : r.has ≡ does step.operation v size q.has

  module _ (set : Setting) where
    -- a processor takes an operation, and has done it after the phase of requests unless it is a step of the tree
    abbrev pub taken_by : Runner W → Acting W
    taken_by q = local_phase next set (taking q (next q.left)) (next q.left)

    pub acting_elim : (P : Acting W → Type 0) (q : Runner W) (b : Acting W)
        → (next q.left ≡ None → P (taking q None))
        → ((step : Step W) → next q.left ≡ Some step → class_of step.operation ≡ Local → P (done step (is_onward step.operation q.has) (local set step.operation q.has)))
        → ((step : Step W) (v : ℕ) → next q.left ≡ Some step → class_of step.operation ≡ Request → P (done step true (with_answer step.operation v q.has)))
        → ((step : Step W) → next q.left ≡ Some step → class_of step.operation ≡ Tree → P (taking q (Some step)))
        → Outcome (taken_by q) (taken_by q).due b → P b
    acting_elim P q b f g k l out = by (next q.left) refl out
      where
        by_class : (step : Step W) → next q.left ≡ Some step → (c : Class) → class_of step.operation ≡ c
            → Outcome (do_local next set (taking q (Some step)) c step) (do_local next set (taking q (Some step)) c step).due b → P b
        by_class step e Local is out' = subst P (sym out') (g step e is)
        by_class step e Request is out' =
            let out'' : OutcomeBy Request (taking q (Some step)) step b = subst (λ (c : Class). OutcomeBy c (taking q (Some step)) step b) is out' in
            subst P (sym out''.1) (k step out''.0 e is)
        by_class step e Tree is out' =
            let out'' : OutcomeBy Tree (taking q (Some step)) step b = subst (λ (c : Class). OutcomeBy c (taking q (Some step)) step b) is out' in
            subst P (sym out'') (l step e is)

        by : (due : Option (Step W)) → next q.left ≡ due → Outcome (local_phase next set (taking q due) due) (local_phase next set (taking q due) due).due b → P b
        by None e out' = subst P (sym out') (f e)
        by (Some step) e out' = by_class step e (class_of step.operation) refl out'

    -- what a group has after local operations, as its members have
    abbrev passed : Here W → Class → Step W → Here W
    passed x Local step = without (step.rest (way x.agreed step.operation)) x.numbers
    passed x Request step = x
    passed x Tree step = x

    abbrev passed_by : Here W → Option (Step W) → Here W
    passed_by x None = x
    passed_by x (Some step) = passed x (class_of step.operation) step

    abbrev pub after_passing : (count : ℕ) → Here W → Here W
    after_passing zero x = x
    after_passing (suc c) x = after_passing c (passed_by x (next x.left))

    -- and at last, where the highest member has a value
    abbrev closed_tree : Here W → (value : ℕ) → Step W → (changes : Bool) → Here W
    closed_tree x v step true = x
    closed_tree x v step false = record {
      left = step.rest true;
      agreed = if is_agree step.operation then Some v else None;
      numbers = numbers_after step.operation (counts.pending x.left) (counts.pending (step.rest true)) v x.numbers;
    }

    abbrev closed_class : Here W → (value : ℕ) → Class → Step W → Here W
    closed_class x v Local step = without (step.rest (way x.agreed step.operation)) x.numbers
    closed_class x v Request step = without (step.rest true) x.numbers
    closed_class x v Tree step = closed_tree x v step (changes_tree step.operation)

    abbrev closed_by : Here W → (value : ℕ) → Option (Step W) → Here W
    closed_by x v None = x
    closed_by x v (Some step) = closed_class x v (class_of step.operation) step

    abbrev pub closed : (value : ℕ) → Here W → Here W
    closed v x = closed_by x v (next x.left)

    local_not_tree : ◌≢◌ {A = Class} Local Tree
    local_not_tree e = cc

    request_not_tree : ◌≢◌ {A = Class} Request Tree
    request_not_tree e = cc

    -- one more operation that is no step of the tree
    one_more : (behind : List (Out W)) (x : Here W) → Grouped behind x → (step : Step W) → next x.left ≡ Some step → (c : Class) → class_of step.operation ≡ c → c ≢ Tree
        → (onward : Bool) → Grouped behind (without (step.rest onward) x.numbers)
    one_more behind x g step e c is isnt onward =
        let so = does_so (InGroup (is_some x.agreed)) x.left step g.follows e in
        record {
          outs_are = (group_stays (FollowsFor next outs 0) (is_some x.agreed) step.operation x.left step.rest c is isnt (so 0) onward).0 ∙ g.outs_are;
          follows = λ n. (group_stays (FollowsFor next outs n) (is_some x.agreed) step.operation x.left step.rest c is isnt (so n) onward).1;
          ends = g.ends;
        }

    -- and what is pending then
    one_local : (x : Here W) (r : Runner W) → Is x r → (step : Step W) → next x.left ≡ Some step → class_of step.operation ≡ Local → (onward : Bool)
        → ArePending next outs counts (step.rest onward) (local set step.operation r.has) x.numbers
    one_local x r is step e c onward =
        leaves_by step.operation x.left step.rest Local c local_not_tree (counts_so x.left step is.counted e) set onward r.has x.numbers is.numbers

    one_request : (x : Here W) (r : Runner W) → Is x r → (step : Step W) → next x.left ≡ Some step → class_of step.operation ≡ Request → (a : ℕ)
        → ArePending next outs counts (step.rest true) (with_answer step.operation a r.has) x.numbers
    one_request x r is step e c a =
        leaves_by step.operation x.left step.rest Request c request_not_tree (counts_so x.left step is.counted e) a r.has x.numbers is.numbers

    goes_way : (behind : List (Out W)) (x : Here W) → Grouped behind x → (r : Runner W) → Is x r → (step : Step W) → next x.left ≡ Some step → is_onward step.operation r.has ≡ way x.agreed step.operation
    goes_way behind x g r is step e =
        onward_is x.agreed step.operation r
        (λ onward op. group_branch (FollowsFor next outs 0) (is_some x.agreed) step.operation x.left step.rest onward op (does_so (InGroup (is_some x.agreed)) x.left step g.follows e 0))
        is.value

    passed_grouped : (behind : List (Out W)) (x : Here W) → Grouped behind x → (due : Option (Step W)) → next x.left ≡ due → Grouped behind (passed_by x due)
    passed_grouped behind x g None e = g
    passed_grouped behind x g (Some step) e = by (class_of step.operation) refl
      where
        by : (c : Class) → class_of step.operation ≡ c → Grouped behind (passed x c step)
        by Local is = one_more behind x g step e Local is local_not_tree (way x.agreed step.operation)
        by Request is = g
        by Tree is = g

    passed_is : (behind : List (Out W)) (x : Here W) → Grouped behind x → (r : Runner W) → Is x r → (due : Option (Step W)) → next x.left ≡ due
        → Is (passed_by x due) (local_phase next set (taking r due) due).runner
    passed_is behind x g r is None e = is
    passed_is behind x g r is (Some step) e = by (class_of step.operation) refl
      where
        by : (c : Class) → class_of step.operation ≡ c → Is (passed x c step) (do_local next set (taking r (Some step)) c step).runner
        by Local c = record {
          left = ap step.rest (goes_way behind x g r is step e);
          value = tt;
          numbers = one_local x r is step e c (way x.agreed step.operation);
          counted = counts_on x.left step is.counted e (way x.agreed step.operation);
        }
        by Request c = is
        by Tree c = is

    pub passing_grouped : (count : ℕ) (behind : List (Out W)) (x : Here W) → Grouped behind x → Grouped behind (after_passing count x)
    passing_grouped zero behind x g = g
    passing_grouped (suc c) behind x g = passing_grouped c behind (passed_by x (next x.left)) (passed_grouped behind x g (next x.left) refl)

    pub passing_is : (count : ℕ) (behind : List (Out W)) (x : Here W) → Grouped behind x → (r : Runner W) → Is x r → Is (after_passing count x) (after_locals next set count r)
    passing_is zero behind x g r is = is
    passing_is (suc c) behind x g r is =
        let x' = passed_by x (next x.left) in
        let due = next x.left in
        let one : Is x' (local_phase next set (taking r (next r.left)) (next r.left)).runner
        = subst (λ (d : Option (Step W)). Is x' (local_phase next set (taking r d) d).runner) (sym (ap next is.left)) (passed_is behind x g r is due refl) in
        passing_is c behind x' (passed_grouped behind x g due refl) (local_phase next set (taking r (next r.left)) (next r.left)).runner one

    pub closed_grouped : (v : ℕ) (behind : List (Out W)) (x : Here W) → Grouped behind x → Grouped behind (closed v x)
    closed_grouped v behind x g = by (next x.left) refl
      where
        by_tree : (step : Step W) → next x.left ≡ Some step → class_of step.operation ≡ Tree → (changes : Bool) → changes_tree step.operation ≡ changes → Grouped behind (closed_tree x v step changes)
        by_tree step e is true quiet = g
        by_tree step e is false quiet =
            let so = does_so (InGroup (is_some x.agreed)) x.left step g.follows e in
            let same : is_agree step.operation ≡ is_some (if is_agree step.operation then Some v else None) = some_if v (is_agree step.operation) in
            record {
              outs_are = (group_plain (FollowsFor next outs 0) (is_some x.agreed) step.operation x.left step.rest is quiet (so 0) true).0 ∙ g.outs_are;
              follows = λ n. subst (λ (b : Bool). FollowsFor next outs n (InGroup b) (step.rest true)) same
                  (group_plain (FollowsFor next outs n) (is_some x.agreed) step.operation x.left step.rest is quiet (so n) true).1;
              ends = ends_after (is_agree step.operation) (nat_lt (counts.pending x.left) (counts.pending (step.rest true)));
            }
          where
            ends_after : (agrees first : Bool) → Ends behind (if agrees then grown first v x.numbers else x.numbers)
            ends_after true first = ends_more behind first v x.numbers g.ends
            ends_after false first = g.ends

        by_class : (step : Step W) → next x.left ≡ Some step → (c : Class) → class_of step.operation ≡ c → Grouped behind (closed_class x v c step)
        by_class step e Local is = one_more behind x g step e Local is local_not_tree (way x.agreed step.operation)
        by_class step e Request is = one_more behind x g step e Request is request_not_tree true
        by_class step e Tree is = by_tree step e is (changes_tree step.operation) refl

        by : (due : Option (Step W)) → next x.left ≡ due → Grouped behind (closed_by x v due)
        by None e = g
        by (Some step) e = by_class step e (class_of step.operation) refl

    -- a processor before the steps of the tree that change it: those that don't are done
    module _ (settle : Runner W → Option (Step W) → Runner W) where
      abbrev pub quietly : Acting W → Runner W
      quietly b = if is_changing b.due then b.runner else settle b.runner b.due

      module _ (behind : List (Out W)) (x : Here W) (g : Grouped behind x) (v : ℕ) (q : Runner W) (is : Is x q)
          (none : (r : Runner W) → settle r None ≡ r)
          (some : (step : Step W) → changes_tree step.operation ≡ false → Settles v step q (settle q (Some step))) where
        along : (due : Option (Step W)) → next x.left ≡ due → (r : Runner W) → Is (closed_by x v due) r → Is (closed v x) r
        along due e r h = subst (λ (d : Option (Step W)). Is (closed_by x v d) r) (sym e) h

        along_class : (step : Step W) → next q.left ≡ Some step → (c : Class) → class_of step.operation ≡ c → (r : Runner W) → Is (closed_class x v c step) r → Is (closed v x) r
        along_class step e c e' r h = along (Some step) (sym (ap next is.left) ∙ e) r (subst (λ (c' : Class). Is (closed_class x v c' step) r) (sym e') h)

        by_changes : (step : Step W) → next x.left ≡ Some step → class_of step.operation ≡ Tree → (changes : Bool) → changes_tree step.operation ≡ changes
            → Is (closed_tree x v step changes) (if changes then q else settle q (Some step))
        by_changes step stands tree true e = is
        by_changes step stands tree false e =
            let so = some step e in
            let m = counts.pending x.left in
            let n = counts.pending (step.rest true) in
            record {
              left = so.left;
              value = value_by (is_agree step.operation) (λ agrees. ap (λ (p : Processor). last (values p)) so.has ∙ agree_value step.operation v so.size q.has agrees);
              numbers = subst (λ (p : Processor). ArePending next outs counts (step.rest true) p (numbers_after step.operation m n v x.numbers)) (sym so.has)
                  (plain_numbers step.operation x.left step.rest tree e (counts_so x.left step is.counted stands) v so.size q.has x.numbers is.numbers);
              counted = counts_on x.left step is.counted stands true;
            }
          where
            value_by : (agrees : Bool) → (agrees ≡ true → last (values (settle q (Some step)).has) ≡ v) → HasValue (if agrees then Some v else None) (settle q (Some step))
            value_by true f = f refl
            value_by false f = tt

        pub closed_is : (b : Acting W) → Outcome (taken_by q) (taken_by q).due b → Is (closed v x) (quietly b)
        closed_is b out =
            acting_elim (λ (a : Acting W). Is (closed v x) (quietly a)) q b
            (λ e. along None (sym (ap next is.left) ∙ e) (settle q None) (subst (Is x) (sym (none q)) is))
            (λ step e c.
            let r = (done step (is_onward step.operation q.has) (local set step.operation q.has)).runner in
            let stands : next x.left ≡ Some step = sym (ap next is.left) ∙ e in
            along_class step e Local c (settle r None)
            (subst (Is (without (step.rest (way x.agreed step.operation)) x.numbers)) (sym (none r))
            (record {
              left = ap step.rest (goes_way behind x g q is step stands);
              value = tt;
              numbers = one_local x q is step stands c (way x.agreed step.operation);
              counted = counts_on x.left step is.counted stands (way x.agreed step.operation);
            })))
            (λ step a e c.
            let r = (done step true (with_answer step.operation a q.has)).runner in
            let stands : next x.left ≡ Some step = sym (ap next is.left) ∙ e in
            along_class step e Request c (settle r None)
            (subst (Is (without (step.rest true) x.numbers)) (sym (none r))
            (record { left = refl; value = tt; numbers = one_request x q is step stands c a; counted = counts_on x.left step is.counted stands true })))
            (λ step e c.
            along_class step e Tree c (if changes_tree step.operation then q else settle q (Some step))
            (by_changes step (sym (ap next is.left) ∙ e) c (changes_tree step.operation) refl))
            out

      -- by itself
      module _ (alone : Bool) (ahead : List W) (ns : List ℕ) (Holds : Type 0) where
        abbrev Lone : Runner W → Type 0
        Lone r = LonerOrNone alone ahead ns Holds r

        abbrev IsLone : Runner W → Type 0
        IsLone r = Loner alone ahead ns Holds r

        lone_local : (r : Runner W) → IsLone r → (step : Step W) → next r.left ≡ Some step → class_of step.operation ≡ Local
            → IsLone (done step (is_onward step.operation r.has) (local set step.operation r.has)).runner
        lone_local r g step e is =
            let onward = is_onward step.operation r.has in
            let so = does_so (ByItself alone) r.left step g.follows e in
            record {
              outs_are = (alone_stays (FollowsFor next outs 0) alone step.operation r.left step.rest Local is local_not_tree (so 0) onward).0 ∙ g.outs_are;
              follows = λ n. (alone_stays (FollowsFor next outs n) alone step.operation r.left step.rest Local is local_not_tree (so n) onward).1;
              more = g.more;
              numbers = leaves_by step.operation r.left step.rest Local is local_not_tree (counts_so r.left step g.counted e) set onward r.has (g.more ++ ns) g.numbers;
              counted = counts_on r.left step g.counted e onward;
              holds = g.holds;
            }

        lone_request : (r : Runner W) → IsLone r → (step : Step W) → next r.left ≡ Some step → class_of step.operation ≡ Request → (a : ℕ)
            → IsLone (done step true (with_answer step.operation a r.has)).runner
        lone_request r g step e is a =
            let so = does_so (ByItself alone) r.left step g.follows e in
            record {
              outs_are = (alone_stays (FollowsFor next outs 0) alone step.operation r.left step.rest Request is request_not_tree (so 0) true).0 ∙ g.outs_are;
              follows = λ n. (alone_stays (FollowsFor next outs n) alone step.operation r.left step.rest Request is request_not_tree (so n) true).1;
              more = g.more;
              numbers = leaves_by step.operation r.left step.rest Request is request_not_tree (counts_so r.left step g.counted e) a r.has (g.more ++ ns) g.numbers;
              counted = counts_on r.left step g.counted e true;
              holds = g.holds;
            }

        lone_plain : (r : Runner W) → IsLone r → (step : Step W) → next r.left ≡ Some step → class_of step.operation ≡ Tree → changes_tree step.operation ≡ false
            → (v : ℕ) (r' : Runner W) → Settles v step r r' → Lone r'
        lone_plain r g step e tree quiet v r' t =
            let so = does_so (ByItself alone) r.left step g.follows e in
            ⊎_elim
            (λ halt. inl (ap next t.left ∙ alone_halt (FollowsFor next outs 0) alone step.operation r.left step.rest halt (so 0) true))
            (λ other. inr (record {
              outs_are = ap outs t.left ∙ (alone_plain (FollowsFor next outs 0) alone step.operation r.left step.rest quiet other (so 0) true).0 ∙ g.outs_are;
              follows = λ n. subst (FollowsFor next outs n (ByItself alone)) (sym t.left) (alone_plain (FollowsFor next outs n) alone step.operation r.left step.rest quiet other (so n) true).1;
              more = more_by (is_agree step.operation) (nat_lt (counts.pending r.left) (counts.pending (step.rest true)));
              numbers = subst (ArePending next outs counts r'.left r'.has) (more_is (is_agree step.operation) (nat_lt (counts.pending r.left) (counts.pending (step.rest true))))
                  (subst (λ (w : W). ArePending next outs counts w r'.has (numbers_after step.operation (counts.pending r.left) (counts.pending (step.rest true)) v (g.more ++ ns))) (sym t.left)
                  (subst (λ (p : Processor). ArePending next outs counts (step.rest true) p (numbers_after step.operation (counts.pending r.left) (counts.pending (step.rest true)) v (g.more ++ ns))) (sym t.has)
                  (plain_numbers step.operation r.left step.rest tree quiet (counts_so r.left step g.counted e) v t.size r.has (g.more ++ ns) g.numbers)));
              counted = subst (IsCounted next outs counts) (sym t.left) (counts_on r.left step g.counted e true);
              holds = g.holds;
            }))
            (halts alone step.operation)
          where
            more_by : (agrees first : Bool) → List ℕ
            more_by true first = grown first v g.more
            more_by false first = g.more

            more_is : (agrees first : Bool) → (if agrees then grown first v (g.more ++ ns) else g.more ++ ns) ≡ more_by agrees first ++ ns
            more_is true true = refl
            more_is true false = refl
            more_is false first = refl

        goes : (r : Runner W) → Lone r → (step : Step W) → next r.left ≡ Some step → IsLone r
        goes r h step e = going_on alone ahead ns Holds r h step e

        lone_one : (r : Runner W) → Lone r → (due : Option (Step W)) → next r.left ≡ due → Lone (local_phase next set (taking r due) due).runner
        lone_one r h None e = h
        lone_one r h (Some step) e = by (class_of step.operation) refl
          where
            by : (c : Class) → class_of step.operation ≡ c → Lone (do_local next set (taking r (Some step)) c step).runner
            by Local is = inr (lone_local r (goes r h step e) step e is)
            by Request is = h
            by Tree is = h

        pub lone_many : (count : ℕ) (r : Runner W) → Lone r → Lone (after_locals next set count r)
        lone_many zero r h = h
        lone_many (suc c) r h = lone_many c (local_phase next set (taking r (next r.left)) (next r.left)).runner (lone_one r h (next r.left) refl)

        pub lone_closed : (q : Runner W) → Lone q → ((r : Runner W) → settle r None ≡ r) → (v : ℕ)
            → ((step : Step W) → changes_tree step.operation ≡ false → Settles v step q (settle q (Some step)))
            → (b : Acting W) → Outcome (taken_by q) (taken_by q).due b → Lone (quietly b)
        lone_closed q h none v some b out =
            acting_elim (λ (a : Acting W). Lone (quietly a)) q b
            (λ e. subst Lone (sym (none q)) h)
            (λ step e c. subst Lone (sym (none (done step (is_onward step.operation q.has) (local set step.operation q.has)).runner))
            (inr (lone_local q (goes q h step e) step e c)))
            (λ step a e c. subst Lone (sym (none (done step true (with_answer step.operation a q.has)).runner))
            (inr (lone_request q (goes q h step e) step e c a)))
            (λ step e c. by_tree step e c (changes_tree step.operation) refl)
            out
          where
            by_tree : (step : Step W) → next q.left ≡ Some step → class_of step.operation ≡ Tree → (changes : Bool) → changes_tree step.operation ≡ changes → Lone (if changes then q else settle q (Some step))
            by_tree step e tree true quiet = h
            by_tree step e tree false quiet = lone_plain q (goes q h step e) step e tree quiet v (settle q (Some step)) (some step quiet)

      -- where it waits
      module _ (n : ℕ) (behind : List (Out W)) (x : Here W) (g : Parted n behind x) where
        pub resumes : (step : Step W) → next x.left ≡ Some step → step.operation ≡ o.Resume
        resumes step e =
            waits_resume (FollowsFor next outs 0) (within n) step.operation x.left step.rest (does_so (Waits (within n)) x.left step g.follows e 0)

        resume_class : (step : Step W) → next x.left ≡ Some step → class_of step.operation ≡ Tree
        resume_class step e = ap class_of (resumes step e)

        wait_one : (r : Runner W) → r.left ≡ x.left → (due : Option (Step W)) → next x.left ≡ due → (local_phase next set (taking r due) due).runner ≡ r
        wait_one r is None e = refl
        wait_one r is (Some step) e = ap (λ (c : Class). (do_local next set (taking r (Some step)) c step).runner) (resume_class step e)

        pub wait_many : (count : ℕ) (r : Runner W) → r.left ≡ x.left → after_locals next set count r ≡ r
        wait_many zero r is = refl
        wait_many (suc c) r is =
            let same : (local_phase next set (taking r (next r.left)) (next r.left)).runner ≡ r = wait_one r is (next r.left) (ap next (sym is)) in
            ap (after_locals next set c) same ∙ wait_many c r is

        pub wait_closed : (q : Runner W) → q.left ≡ x.left → ((r : Runner W) → settle r None ≡ r) → (b : Acting W) → Outcome (taken_by q) (taken_by q).due b → quietly b ≡ q
        wait_closed q is none b out =
            acting_elim (λ (a : Acting W). quietly a ≡ q) q b
            (λ e. none q)
            (λ step e c. not_resume step e Local c local_not_tree)
            (λ step v e c. not_resume step e Request c request_not_tree)
            (λ step e c. ap (λ (changes : Bool). if changes then q else settle q (Some step)) (ap changes_tree (resumes step (ap next (sym is) ∙ e))))
            out
          where
            not_resume : {A : Type 0} (step : Step W) → next q.left ≡ Some step → (c : Class) → class_of step.operation ≡ c → c ≢ Tree → A
            not_resume step e c is' isnt = absurd (isnt (sym is' ∙ resume_class step (ap next (sym is) ∙ e)))
