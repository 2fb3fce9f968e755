-- Operations, by where a processor stands: where they may, and what they leave of its levels.
use Rattle.std.proofs.Common.{◌≡◌, ◌≢◌, ℕ, zero, suc, ◌==◌, ◌+◌, ◌-◌, Bool, true, false, List, [], ◌∷◌, Option, Some, None, refl, sym, ap, ◌∙◌, subst, if◌then◌else◌}
use Rattle.std.specs.Prelude.{nat_lt}
use Rattle.fk_meaning_operation.specs.Kinds.{class_of, joint_of}
use Rattle.fk_meaning_operation.specs.declared.kinds.Class.{Class}
use Rattle.fk_meaning_operation.specs.declared.kinds.Class.TheVariants as class
use Rattle.fk_meaning_operation.specs.declared.kinds.Joint.{Joint}
use Rattle.fk_meaning_operation.specs.declared.kinds.Joint.TheVariants as joint
use Rattle.fk_meaning_operation.specs.declared.operation.Operation.{Operation}
use Rattle.fk_meaning_operation.specs.declared.operation.Operation.TheVariants as o
use Rattle.fk_meaning_operation.specs.declared.operation.Variable.{Variable}
use Rattle.fk_meaning_operation.specs.declared.operation.Variable.TheVariants.{Private, OfFile}
use Rattle.fk_space.specs.Space.{Space, free, frame}
use Rattle.fk_meaning_store.specs.Store.{private_words}
use Rattle.fk_meaning_store.specs.Serve.{words_of}
use Rattle.fk_meaning.specs.Processor.{Level, Call, Processor, Setting, values, last, in_place}
use Rattle.fk_meaning.specs.Local.{stored, taken, unframed, to_caller, local}
use Rattle.fk_meaning.specs.Request.{with_answer}
use Rattle.fk_meaning.specs.Group.{framed, allotted, with_block, does}
use Rattle.fk_meaning.specs.Round.{Step, same_joint}
use Rattle.fk_lockstep.specs.Untouched.{changes_tree}
use Rattle.fk_lockstep.proofs.Round.{first_is}
use Rattle.fk_lockstep_tree.specs.Where.{Where, InRoot, Waits, InGroup, InBody, BehindBody, stays, goes, GoesNext, GoesFor, Goes}
use Rattle.fk_lockstep_tree.specs.Ranges.{range_of}

-- ---- where they may stand

stays_is : (c : Class) (place to : Where) → stays c place ≡ Some to → to ≡ place
stays_is class.Local place to e = sym (first_is place to e)
stays_is class.Request place to e = sym (first_is place to e)
stays_is class.Tree place to e = absurd (cc)

-- who doesn't change the tree stays where it is
pub keeps_place : (place : Where) (op : Operation) (onward : Bool) (to : Where) → changes_tree op ≡ false → goes place op onward ≡ Some to → to ≡ place
keeps_place InRoot (o.Leave gives true) onward to keep e = absurd (cc)
keeps_place InRoot o.Begin onward to keep e = absurd (cc)
keeps_place InRoot (o.Meet false) onward to keep e = sym (first_is InRoot to e)
keeps_place InRoot o.Halt onward to keep e = sym (first_is InRoot to e)
keeps_place InRoot op onward to keep e = stays_is (class_of op) InRoot to e
keeps_place (Waits n) o.Resume onward to keep e = absurd (cc)
keeps_place (Waits n) op onward to keep e = absurd (cc)
keeps_place (InGroup n) o.Agree onward to keep e = sym (first_is (InGroup n) to e)
keeps_place (InGroup n) (o.Frame nesting words) onward to keep e = sym (first_is (InGroup n) to e)
keeps_place (InGroup n) o.Block onward to keep e = sym (first_is (InGroup n) to e)
keeps_place (InGroup n) (o.Split by) onward to keep e = absurd (cc)
keeps_place (InGroup n) o.Shrink onward to keep e = absurd (cc)
keeps_place (InGroup n) o.Farm onward to keep e = absurd (cc)
keeps_place (InGroup n) o.Seq onward to keep e = absurd (cc)
keeps_place (InGroup n) o.End onward to keep e = absurd (cc)
keeps_place (InGroup n) op onward to keep e = stays_is (class_of op) (InGroup n) to e
keeps_place (InBody n) (o.Leave gives true) onward to keep e = absurd (cc)
keeps_place (InBody n) (o.Meet true) onward to keep e = absurd (cc)
keeps_place (InBody n) (o.Meet false) onward to keep e = sym (first_is (InBody n) to e)
keeps_place (InBody n) op onward to keep e = stays_is (class_of op) (InBody n) to e
keeps_place (BehindBody n) (o.Meet true) onward to keep e = absurd (cc)
keeps_place (BehindBody n) op onward to keep e = absurd (cc)

pub keeps_tree : (op : Operation) → (class_of op ≡ class.Tree → ⊥) → changes_tree op ≡ false
keeps_tree o.Begin off = absurd (off refl)
keeps_tree (o.Split by) off = absurd (off refl)
keeps_tree o.Shrink off = absurd (off refl)
keeps_tree o.End off = absurd (off refl)
keeps_tree o.Farm off = absurd (off refl)
keeps_tree o.Seq off = absurd (off refl)
keeps_tree (o.Meet true) off = absurd (off refl)
keeps_tree (o.Meet false) off = refl
keeps_tree o.Resume off = absurd (off refl)
keeps_tree op off = refl

-- which steps change the tree, by where they stand
pub root_begins : (op : Operation) (onward : Bool) (to : Where) → changes_tree op ≡ true → goes InRoot op onward ≡ Some to → op ≡ o.Begin
root_begins o.Begin onward to changes e = refl
root_begins (o.Split by) onward to changes e = absurd (cc)
root_begins o.Shrink onward to changes e = absurd (cc)
root_begins o.End onward to changes e = absurd (cc)
root_begins o.Farm onward to changes e = absurd (cc)
root_begins o.Seq onward to changes e = absurd (cc)
root_begins (o.Meet true) onward to changes e = absurd (cc)
root_begins (o.Meet false) onward to changes e = absurd (cc)
root_begins o.Resume onward to changes e = absurd (cc)
root_begins op onward to changes e = absurd (cc)

pub waiters_resume : (n : ℕ) (op : Operation) (onward : Bool) (to : Where) → goes (Waits n) op onward ≡ Some to → op ≡ o.Resume
waiters_resume n o.Resume onward to e = refl
waiters_resume n op onward to e = absurd (cc)

-- the steps of groups in lockstep that change the tree
abbrev pub OfGroups : Operation → Type 0
OfGroups (o.Split by) = Unit {0}
OfGroups o.Shrink = Unit {0}
OfGroups o.End = Unit {0}
OfGroups o.Farm = Unit {0}
OfGroups o.Seq = Unit {0}
OfGroups operation = ⊥

pub group_steps : (n : ℕ) (op : Operation) (onward : Bool) (to : Where) → changes_tree op ≡ true → goes (InGroup n) op onward ≡ Some to → OfGroups op
group_steps n o.Begin onward to changes e = absurd (cc)
group_steps n (o.Split by) onward to changes e = tt
group_steps n o.Shrink onward to changes e = tt
group_steps n o.End onward to changes e = tt
group_steps n o.Farm onward to changes e = tt
group_steps n o.Seq onward to changes e = tt
group_steps n (o.Meet true) onward to changes e = absurd (cc)
group_steps n (o.Meet false) onward to changes e = absurd (cc)
group_steps n o.Resume onward to changes e = absurd (cc)
group_steps n op onward to changes e = absurd (cc)

-- the group of a `start` doesn't shrink
pub shrinks_deep : (n : ℕ) (onward : Bool) (to : Where) → goes (InGroup n) o.Shrink onward ≡ Some to → (m : ℕ) × (n ≡ suc m)
shrinks_deep zero onward to e = absurd (cc)
shrinks_deep (suc m) onward to e = (m, refl)

pub bodies_meet : (n : ℕ) (op : Operation) (onward : Bool) (to : Where) → changes_tree op ≡ true → goes (InBody n) op onward ≡ Some to → op ≡ o.Meet true
bodies_meet n o.Begin onward to changes e = absurd (cc)
bodies_meet n (o.Split by) onward to changes e = absurd (cc)
bodies_meet n o.Shrink onward to changes e = absurd (cc)
bodies_meet n o.End onward to changes e = absurd (cc)
bodies_meet n o.Farm onward to changes e = absurd (cc)
bodies_meet n o.Seq onward to changes e = absurd (cc)
bodies_meet n (o.Meet true) onward to changes e = refl
bodies_meet n (o.Meet false) onward to changes e = absurd (cc)
bodies_meet n o.Resume onward to changes e = absurd (cc)
bodies_meet n op onward to changes e = absurd (cc)

pub others_meet : (n : ℕ) (op : Operation) (onward : Bool) (to : Where) → goes (BehindBody n) op onward ≡ Some to → op ≡ o.Meet true
others_meet n (o.Meet true) onward to e = refl
others_meet n op onward to e = absurd (cc)

-- a joint operation that changes the tree is known by what those who do it do together
pub joint_tells : (op op' : Operation) → changes_tree op ≡ true → joint_of op ≢ joint.Alone → same_joint (joint_of op) (joint_of op') ≡ true → op' ≡ op
joint_tells o.Begin o.Begin e alone same = refl
joint_tells o.Begin (o.Meet true) e alone same = absurd (cc)
joint_tells o.Begin (o.Meet false) e alone same = absurd (cc)
joint_tells o.Begin op' e alone same = absurd (cc)
joint_tells o.Resume o.Resume e alone same = refl
joint_tells o.Resume (o.Meet true) e alone same = absurd (cc)
joint_tells o.Resume (o.Meet false) e alone same = absurd (cc)
joint_tells o.Resume op' e alone same = absurd (cc)
joint_tells (o.Meet true) (o.Meet true) e alone same = refl
joint_tells (o.Meet true) (o.Meet false) e alone same = absurd (cc)
joint_tells (o.Meet true) op' e alone same = absurd (cc)
joint_tells (o.Meet false) op' e alone same = absurd (cc)
joint_tells op op' e alone same = absurd (alone refl)

pub not_alone : (j : Joint) → j ≢ joint.Alone → same_joint j joint.Alone ≡ true → ⊥
not_alone joint.Alone ne e = ne refl
not_alone joint.Starting ne e = absurd (cc)
not_alone joint.AtBarrier ne e = absurd (cc)
not_alone joint.Closing ne e = absurd (cc)
not_alone joint.Resuming ne e = absurd (cc)

pub joint_is_step : (op : Operation) → joint_of op ≢ joint.Alone → class_of op ≡ class.Tree
joint_is_step o.Begin alone = refl
joint_is_step o.Resume alone = refl
joint_is_step (o.Meet true) alone = refl
joint_is_step (o.Meet false) alone = refl
joint_is_step op alone = absurd (alone refl)

-- ---- levels

-- an operation leaves a processor its number and the levels around its own
abbrev SameAround : Processor → Processor → Type 0
SameAround p q = (q.number ≡ p.number) × (q.outer ≡ p.outer)

-- a level of which a group has taken words, or to which it has given some back
pub record TakenLevel (l m : Level) : Type 0 where
  pub size : m.size ≡ l.size
  pub range : range_of m.space ≡ range_of l.space

-- its own level stays, but for such words of a group
abbrev pub SameLevel : Where → Level → Level → Type 0
SameLevel (InGroup n) l m = TakenLevel l m
SameLevel place l m = m ≡ l

abbrev pub SameLevels : Where → Processor → Processor → Type 0
SameLevels place p q = SameAround p q × SameLevel place p.level q.level

abbrev Unchanged : Processor → Processor → Type 0
Unchanged p q = SameAround p q × (q.level ≡ p.level)

same_taken : (l m : Level) → m ≡ l → TakenLevel l m
same_taken l m e = record { size = ap (λ (n : Level). n.size) e; range = ap (λ (n : Level). range_of n.space) e }

-- with other words taken
taken_more : (l : Level) (s : Space) → range_of s ≡ range_of l.space → TakenLevel l (record l { space = s })
taken_more l s e = record { size = refl; range = e }

same_level : (place : Where) (l m : Level) → m ≡ l → SameLevel place l m
same_level InRoot l m e = e
same_level (Waits n) l m e = e
same_level (InGroup n) l m e = same_taken l m e
same_level (InBody n) l m e = e
same_level (BehindBody n) l m e = e

-- in each place no more has changed than in a group
pub as_taken : (place : Where) (l m : Level) → SameLevel place l m → TakenLevel l m
as_taken InRoot l m e = same_taken l m e
as_taken (Waits n) l m e = same_taken l m e
as_taken (InGroup n) l m e = e
as_taken (InBody n) l m e = same_taken l m e
as_taken (BehindBody n) l m e = same_taken l m e

unchanged : (place : Where) (p q : Processor) → Unchanged p q → SameLevels place p q
unchanged place p q e = (e.0, same_level place p.level q.level e.1)

either_same : (b : Bool) (p x y : Processor) → Unchanged p x → Unchanged p y → Unchanged p (if b then x else y)
either_same true p x y one other = one
either_same false p x y one other = other

stored_same : (v : ℕ) (variable : Variable) (p : Processor) → Unchanged p (stored v variable p)
stored_same v (Private i) p = ((refl, refl), refl)
stored_same v (OfFile i) p = ((refl, refl), refl)

taken_same : (words : ℕ) (p : Processor) → Unchanged p (taken words p)
taken_same words p =
    either_same (words == 0) p _ _ ((refl, refl), refl) (either_same (nat_lt (private_words - p.top) words) p _ _ ((refl, refl), refl) ((refl, refl), refl))

caller_same : (gives : Bool) (v : ℕ) (p : Processor) (calls : List Call) → Unchanged p (to_caller gives v p calls)
caller_same gives v p [] = ((refl, refl), refl)
caller_same gives v p (c ∷ calls) = ((refl, refl), refl)

-- a function that gives its frame back
unframed_same : (n : ℕ) (gives : Bool) (v : ℕ) (p : Processor) (calls : List Call) → SameLevels (InGroup n) p (to_caller gives v (unframed true p) calls)
unframed_same n gives v p calls =
    let q = unframed true p in
    let same = caller_same gives v q calls in
    let back : TakenLevel p.level q.level = record { size = refl; range = refl } in
    ((same.0.0, same.0.1), subst (λ (l : Level). TakenLevel p.level l) (sym same.1) back)

pub local_same : (set : Setting) (place : Where) (op : Operation) (onward : Bool) (to : Where) (p : Processor) → goes place op onward ≡ Some to → SameLevels place p (local set op p)
local_same set InRoot (o.Leave gives true) onward to p e = absurd (cc)
local_same set (Waits n) (o.Leave gives true) onward to p e = absurd (cc)
local_same set (InGroup n) (o.Leave gives true) onward to p e = unframed_same n gives (last (values p)) p p.callers
local_same set (InBody n) (o.Leave gives true) onward to p e = absurd (cc)
local_same set (BehindBody n) (o.Leave gives true) onward to p e = absurd (cc)
local_same set place (o.Leave gives false) onward to p e = unchanged place p (to_caller gives (last (values p)) p p.callers) (caller_same gives (last (values p)) p p.callers)
local_same set place (o.Set v) onward to p e = unchanged place p (stored (last (values p)) v p) (stored_same (last (values p)) v p)
local_same set place o.Take onward to p e = unchanged place p (taken (words_of (last (values p))) p) (taken_same (words_of (last (values p))) p)
local_same set place op onward to p e = unchanged place p (local set op p) ((refl, refl), refl)

pub answer_same : (place : Where) (op : Operation) (v : ℕ) (p : Processor) → SameLevels place p (with_answer op v p)
answer_same place o.Read v p = unchanged place p (with_answer o.Read v p) ((refl, refl), refl)
answer_same place op v p = unchanged place p (with_answer op v p) ((refl, refl), refl)

-- a frame and a block are words of the space
framed_same : (n nesting words : ℕ) (p : Processor) → SameLevels (InGroup n) p (framed nesting p (frame p.level.space words))
framed_same n nesting words p = by (nat_lt (free p.level.space) words)
  where
    by : (full : Bool) → SameLevels (InGroup n) p (framed nesting p (if full then None else Some (record (p.level.space) { frames = p.level.space.frames + words })))
    by true = ((refl, refl), same_taken p.level p.level refl)
    by false = ((refl, refl), taken_more p.level (record (p.level.space) { frames = p.level.space.frames + words }) refl)

allotted_same : (n words : ℕ) (p : Processor) → SameLevels (InGroup n) p (with_block words p)
allotted_same n words p = by (words == 0) (nat_lt (free p.level.space) words)
  where
    by : (none full : Bool) → SameLevels (InGroup n) p (
        if none then in_place 0 p
        else allotted p (if full then None else Some (p.level.space.blocks - words, record (p.level.space) { blocks = p.level.space.blocks - words })))
    by true full = ((refl, refl), same_taken p.level p.level refl)
    by false true = ((refl, refl), same_taken p.level p.level refl)
    by false false = ((refl, refl), taken_more p.level (record (p.level.space) { blocks = p.level.space.blocks - words }) refl)

frames_in : (place : Where) (nesting words : ℕ) (onward : Bool) (to : Where) (p : Processor) → goes place (o.Frame nesting words) onward ≡ Some to
    → SameLevels place p (framed nesting p (frame p.level.space words))
frames_in InRoot nesting words onward to p e = absurd (cc)
frames_in (Waits n) nesting words onward to p e = absurd (cc)
frames_in (InGroup n) nesting words onward to p e = framed_same n nesting words p
frames_in (InBody n) nesting words onward to p e = absurd (cc)
frames_in (BehindBody n) nesting words onward to p e = absurd (cc)

blocks_in : (place : Where) (words : ℕ) (onward : Bool) (to : Where) (p : Processor) → goes place o.Block onward ≡ Some to → SameLevels place p (with_block words p)
blocks_in InRoot words onward to p e = absurd (cc)
blocks_in (Waits n) words onward to p e = absurd (cc)
blocks_in (InGroup n) words onward to p e = allotted_same n words p
blocks_in (InBody n) words onward to p e = absurd (cc)
blocks_in (BehindBody n) words onward to p e = absurd (cc)

pub does_same : (place : Where) (op : Operation) (onward : Bool) (to : Where) (highest size : ℕ) (p : Processor) → changes_tree op ≡ false → goes place op onward ≡ Some to
    → SameLevels place p (does op highest size p)
does_same place (o.Frame nesting words) onward to highest size p keep e = frames_in place nesting words onward to p e
does_same place o.Block onward to highest size p keep e = blocks_in place (words_of (last (values p))) onward to p e
does_same place o.Begin onward to highest size p keep e = absurd (cc)
does_same place (o.Split by) onward to highest size p keep e = absurd (cc)
does_same place o.Shrink onward to highest size p keep e = absurd (cc)
does_same place o.End onward to highest size p keep e = absurd (cc)
does_same place op onward to highest size p keep e = unchanged place p (does op highest size p) ((refl, refl), refl)

-- ---- on one of its ways

module _ {W : Type 0} (next : W → Option (Step W)) where
  pub goes_on : (place : Where) (here : W) (step : Step W) → Goes next place here → next here ≡ Some step
      → (onward : Bool) → (to : Where) × (goes place step.operation onward ≡ Some to) × Goes next to (step.rest onward)
  goes_on place here step g e onward =
      let at : (n : ℕ) → GoesNext next (GoesFor next n) place (Some step) = λ n. subst (GoesNext next (GoesFor next n) place) e (g (suc n)) in
      let first = at 0 onward in (
        first.0,
        first.1,
        λ n.
            let x = at n onward in
            subst (λ (q : Where). GoesFor next n q (step.rest onward)) (first_is x.0 first.0 (sym x.1 ∙ first.1)) x.2,
      )

  -- and is where another fact tells
  pub goes_to : (place : Where) (here : W) (step : Step W) → Goes next place here → next here ≡ Some step → (onward : Bool) (to : Where) → goes place step.operation onward ≡ Some to → Goes next to (step.rest onward)
  goes_to place here step g e onward to is =
      let x = goes_on place here step g e onward in
      subst (λ (q : Where). Goes next q (step.rest onward)) (first_is x.0 to (sym x.1 ∙ is)) x.2

  -- nothing is left in the root alone
  pub ends_in_root : (place : Where) (here : W) → Goes next place here → next here ≡ None → place ≡ InRoot
  ends_in_root place here g e = subst (GoesNext next (GoesFor next 0) place) e (g 1)
