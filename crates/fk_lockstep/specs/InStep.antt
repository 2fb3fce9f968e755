-- Code that a group runs in lockstep, and what is left of it: its members take the same branch at
-- each branch operation.
use Rattle.std.specs.Prelude.{◌≡◌, ℕ, Bool, true, false, List, [], ◌∷◌, Some}
use Rattle.fk_meaning_operation.specs.declared.operation.Operation.{Operation}
use Rattle.fk_meaning_operation.specs.declared.operation.Operation.TheVariants as o
use Rattle.fk_meaning.specs.Round.{Step}
use Rattle.fk_meaning_forms.specs.Code.{Code, done, perform, choose, while, until, turn, again}
use Rattle.fk_meaning_forms.specs.Code.{quit, break, continue, call, ends}
use Rattle.fk_meaning.specs.Next.{Work, next}

abbrev pub is_agree : Operation → Bool
is_agree o.Agree = true
is_agree operation = false

-- a branch uses a value on which the group has agreed, and so does `shalloc`; both come directly
-- after the agree
abbrev pub may_stand : (agreed : Bool) → Operation → Bool
may_stand agreed (o.Branch onward) = agreed
may_stand agreed o.Block = agreed
may_stand agreed operation = true

-- operations after which the members of a group are no longer in lockstep: those that begin a body
-- which the members run by themselves, and the end of a part
abbrev pub leaves_step : Operation → Bool
leaves_step o.Farm = true
leaves_step o.Seq = true
leaves_step o.End = true
leaves_step operation = false

abbrev pub Unless : Bool → Type 0 → Type 0
Unless true claim = Unit {0}
Unless false claim = claim

-- `may_call`: a function may be called if the group stays in lockstep in it
module _ {A : Type 0} (may_call : (function : ℕ) → Bool) where
  -- code of a text. The bodies of `farm` and `seq` are left out, and no loop is under way in it
  abbrev pub InStep : (agreed : Bool) → Code A → Type 0
  InStep agreed done = Unit {0}
  InStep agreed (perform t op rest) = (may_stand agreed op ≡ true) × InStep (is_agree op) rest
  InStep agreed (choose t op a b rest) =
      (may_stand agreed op ≡ true) × Unless (leaves_step op) (InStep false a) × InStep false b
      × InStep false rest
  InStep agreed (while test body step rest) = InStep false test × InStep false body
      × InStep false step × InStep false rest
  InStep agreed (until body test rest) = InStep false body × InStep false test × InStep false rest
  InStep agreed (turn test body step rest) = ⊥
  InStep agreed (again test body step rest) = ⊥
  InStep agreed (quit t op rest) = (may_stand agreed op ≡ true) × InStep false rest
  InStep agreed (break rest) = InStep false rest
  InStep agreed (continue rest) = InStep false rest
  InStep agreed (call t op f opening rest) =
      (may_stand agreed op ≡ true) × (may_call f ≡ true) × InStep false opening × InStep false rest
  InStep agreed (ends t op rest) = (may_stand agreed op ≡ true) × InStep false rest

  -- what is left in a run, up to the point where the members leave lockstep
  abbrev pub Runs : (agreed : Bool) → Code A → Type 0
  Runs agreed done = Unit {0}
  Runs agreed (perform t op rest) = (may_stand agreed op ≡ true)
      × Unless (leaves_step op) (Runs (is_agree op) rest)
  Runs agreed (choose t op a b rest) =
      (may_stand agreed op ≡ true) × Unless (leaves_step op) (InStep false a) × InStep false b
      × Runs false rest
  Runs agreed (while test body step rest) = InStep false test × InStep false body
      × InStep false step × Runs false rest
  Runs agreed (until body test rest) = InStep false body × InStep false test × Runs false rest
  Runs agreed (turn test body step rest) = InStep false test × InStep false body × InStep false step
      × Runs false rest
  Runs agreed (again test body step rest) = InStep false test × InStep false body
      × InStep false step × Runs false rest
  Runs agreed (quit t op rest) = (may_stand agreed op ≡ true) × Runs false rest
  Runs agreed (break rest) = Unit {0}
  Runs agreed (continue rest) = Unit {0}
  Runs agreed (call t op f opening rest) =
      (may_stand agreed op ≡ true) × (may_call f ≡ true) × InStep false opening × Runs false rest
  Runs agreed (ends t op rest) = may_stand agreed op ≡ true

  -- what is left after each loop that is under way in it
  abbrev pub Loops : Code A → Type 0
  Loops done = Unit {0}
  Loops (perform t op rest) = Loops rest
  Loops (choose t op a b rest) = Loops rest
  Loops (while test body step rest) = Loops rest
  Loops (until body test rest) = Loops rest
  Loops (turn test body step rest) = InStep false test × InStep false body × InStep false step
      × Runs false rest × Loops rest
  Loops (again test body step rest) = InStep false test × InStep false body × InStep false step
      × Runs false rest × Loops rest
  Loops (quit t op rest) = Loops rest
  Loops (break rest) = Loops rest
  Loops (continue rest) = Loops rest
  Loops (call t op f opening rest) = Loops rest
  Loops (ends t op rest) = Loops rest

module _ (may_call : (function : ℕ) → Bool) where
  -- the work of a processor: that of the running function and of those that wait for a call
  pub record CodeInStep (agreed : Bool) (code : Code ℕ) : Type 0 where
    pub runs : Runs may_call agreed code
    pub loops : Loops may_call code

  abbrev pub AllInStep : List (Code ℕ) → Type 0
  AllInStep [] = Unit {0}
  AllInStep (code ∷ codes) = CodeInStep false code × AllInStep codes

  pub record WorkInStep (agreed : Bool) (work : Work) : Type 0 where
    pub left : CodeInStep agreed work.left
    pub callers : AllInStep work.callers

  -- the next operation may be where it is, and the work after it is in step again, whichever branch
  -- is taken
  pub record StepInStep (agreed : Bool) (step : Step Work) : Type 0 where
    pub stands : may_stand agreed step.operation ≡ true
    pub goes_on : leaves_step step.operation ≡ false → (onward : Bool)
        → WorkInStep (is_agree step.operation) (step.rest onward)

-- work in step stays in step, if the functions that may be called are in step
abbrev pub StaysInStep : Type 0
StaysInStep =
    (may_call : (function : ℕ) → Bool) (bodies : (binding : ℕ) → Code ℕ)
    → ((function : ℕ) → may_call function ≡ true → InStep may_call false (bodies function))
    → (agreed : Bool) (work : Work) → WorkInStep may_call agreed work
    → (step : Step Work) → next bodies work ≡ Some step → StepInStep may_call agreed step
