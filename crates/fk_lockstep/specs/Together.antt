-- Members of a group that have the same work left, before and after a round.
use Rattle.std.specs.Prelude.{◌≡◌, ℕ, Bool, true, false, List, [], ◌∷◌, Option, Some, None}
use Rattle.std.specs.Prelude.{slice_get}
use Rattle.fk_meaning_operation.specs.declared.operation.Operation.{Operation}
use Rattle.fk_meaning_operation.specs.declared.operation.Operation.TheVariants as o
use Rattle.fk_tree.specs.Tree as t
use Rattle.fk_meaning.specs.Processor.{Level, Call, Processor, Setting, values, last}
use Rattle.fk_meaning.specs.Group.{parts, part, goes_onward}
use Rattle.fk_meaning.specs.Round.{Step, Runner, State, Round, Acting, all_requests, lowest, agreed}
use Rattle.fk_meaning.specs.Round.{asking, result}
use Rattle.fk_meaning_forms.specs.Code.{Code}
use Rattle.fk_meaning.specs.Next.{Work, next}
use Rattle.fk_lockstep.specs.InStep.{leaves_step, InStep, WorkInStep}

-- levels that differ in `$` alone
pub record SameLevel (l m : Level) : Type 0 where
  pub number : l.number ≡ m.number
  pub size : l.size ≡ m.size
  pub space : l.space ≡ m.space

abbrev pub SameLevels : List Level → List Level → Type 0
SameLevels [] [] = Unit {0}
SameLevels (l ∷ ls) (m ∷ ms) = SameLevel l m × SameLevels ls ms
SameLevels ls ms = ⊥

-- equally many calls, whose functions took the same group frames
abbrev pub SameFrames : List Call → List Call → Type 0
SameFrames [] [] = Unit {0}
SameFrames (c ∷ cs) (d ∷ ds) = (c.frames 0 ≡ d.frames 0) × SameFrames cs ds
SameFrames cs ds = ⊥

-- two members of a group have the same group, the same groups around it, and the same frames
pub record SamePlace (p q : Processor) : Type 0 where
  pub level : SameLevel p.level q.level
  pub outer : SameLevels p.outer q.outer
  pub frame : p.call.frames 0 ≡ q.call.frames 0
  pub callers : SameFrames p.callers q.callers

-- two members take the same branch at a step of the tree; at a split they enter the same part of
-- equally many, or both wait
abbrev pub OneWay : Operation → (highest lowest : ℕ) → Processor → Processor → Type 0
OneWay (o.Split by) highest lowest p q =
    (part by (values p) ≡ part by (values q)) × (parts by (values p) ≡ parts by (values q))
OneWay operation highest lowest p q =
    goes_onward operation highest lowest p ≡ goes_onward operation highest lowest q

module _ (may_call : (function : ℕ) → Bool) where
  -- two processors have the same code left, which is in step, and levels that differ in `$` alone;
  -- directly after an agree they have the same last value
  pub record Together (agreed : Bool) (r q : Runner Work) : Type 0 where
    pub left : r.left ≡ q.left
    pub place : SamePlace r.has q.has
    pub in_step : WorkInStep may_call agreed r.left
    pub value : agreed ≡ true → last (values r.has) ≡ last (values q.has)

-- for any form of what is left to do
module _ {W : Type 0} (next : W → Option (Step W)) (setting : Setting) (round : Round)
    (s : State W) where
  -- the processors before the steps of the tree, and the members of the group that a processor is
  -- in before the round
  abbrev pub stepping : List (Acting W)
  stepping = (all_requests 0 (asking next setting round s.runners) s.store).acting

  abbrev pub group_of : Processor → List ℕ
  group_of p = t.members s.tree (s.tree.places p.number)

  abbrev pub DoesStep : (h : ℕ) → Acting W → Step W → Type 0
  DoesStep h a step = (slice_get stepping h ≡ Some a) × (a.due ≡ Some step)

  -- two processors at one node act in a round without a fault with the same count, and take the
  -- same branch at a step of the tree
  pub record ActTogether (g h : ℕ) (r q : Runner W) : Type 0 where
    pub no_fault : (result next setting round s).fault ≡ None
    pub first : slice_get s.runners g ≡ Some r
    pub second : slice_get s.runners h ≡ Some q
    pub count : ℕ
    pub first_count : slice_get round g ≡ Some count
    pub second_count : slice_get round h ≡ Some count
    pub one_node : s.tree.places r.has.number ≡ s.tree.places q.has.number
    pub one_way : (a b : Acting W) (step : Step W) → DoesStep g a step → DoesStep h b step
        → OneWay step.operation (agreed stepping (group_of r.has))
        (lowest (group_of r.has)) a.runner.has b.runner.has
    pub still_one_node :
        (result next setting round s).tree.places r.has.number
        ≡ (result next setting round s).tree.places q.has.number

-- after a round of a program two processors have the same code left, and levels that differ in `$`
-- alone. They are together again, unless they have come to the end of a part or to a body that they
-- run by themselves
pub record GoOn (may_call : (function : ℕ) → Bool) (bodies : (binding : ℕ) → Code ℕ)
    (setting : Setting) (round : Round) (s : State Work) (g h : ℕ) : Type 0 where
  pub first : Runner Work
  pub second : Runner Work
  pub first_is : slice_get (result (next bodies) setting round s).runners g ≡ Some first
  pub second_is : slice_get (result (next bodies) setting round s).runners h ≡ Some second
  pub left : first.left ≡ second.left
  pub place : SamePlace first.has second.has
  pub together :
      ((a : Acting Work) (step : Step Work) → DoesStep (next bodies) setting round s g a step
      → leaves_step step.operation ≡ false)
      → (agreed : Bool) × Together may_call agreed first second

abbrev pub GroupsGoOn : Type 0
GroupsGoOn =
    (may_call : (function : ℕ) → Bool) (bodies : (binding : ℕ) → Code ℕ)
    → ((function : ℕ) → may_call function ≡ true → InStep may_call false (bodies function))
    → (setting : Setting) (round : Round) (s : State Work) (g h : ℕ) (r q : Runner Work)
    → ActTogether (next bodies) setting round s g h r q
    → (agreed : Bool) → Together may_call agreed r q
    → GoOn may_call bodies setting round s g h
