-- Members of a group that are at one place of a list of operations, for any form of what is left to
-- do.
use Rattle.std.specs.Prelude.{◌≡◌, ℕ, zero, suc, Bool, true, false, List, [], Option, Some}
use Rattle.std.specs.Prelude.{slice_get}
use Rattle.fk_syntax.specs.Program.{ProgramTree}
use Rattle.fk_meaning.specs.Alike.{Same}
use Rattle.fk_meaning.specs.Processor.{Setting, values, last}
use Rattle.fk_meaning.specs.Round.{Step, Runner, State, Round, Acting, result}
use Rattle.fk_meaning_forms.specs.Code.{Code}
use Rattle.fk_meaning_forms.specs.Tables.{Tables}
use Rattle.fk_meaning_forms.specs.Program.{bodies_of}
use Rattle.fk_meaning.specs.Next as source
use Rattle.fk_meaning.specs.Next.{Work, going}
use Rattle.fk_core.specs.declared.op.CoreOp.{CoreOp}
use Rattle.fk_core.specs.Next as core
use Rattle.fk_core.specs.Next.{position}
use Rattle.fk_core.specs.KeepsRuns.{HasCodeOf}
use Rattle.fk_lockstep.specs.InStep.{leaves_step, InStep, WorkInStep}
use Rattle.fk_lockstep.specs.Together.{SamePlace, DoesStep, ActTogether}

-- work of one form goes on as work of another form does: for any number of operations, and
-- whichever branches are taken, the operations are the same
module _ {V W : Type 0} (next : V → Option (Step V)) (next' : W → Option (Step W)) where
  abbrev pub GoesAlike : (operations : ℕ) → V → W → Type 0
  GoesAlike zero v w = Unit {0}
  GoesAlike (suc n) v w = Same (GoesAlike n) (next v) (next' w)

  abbrev pub GoesAs : V → W → Type 0
  GoesAs v w = (operations : ℕ) → GoesAlike operations v w

module _ {W : Type 0} (next : W → Option (Step W)) (may_call : (function : ℕ) → Bool)
    (bodies : (binding : ℕ) → Code ℕ) where
  -- two processors have the same work left, which goes on as code that is in step; otherwise as in
  -- `Together`
  pub record TogetherAt (agreed : Bool) (r q : Runner W) : Type 0 where
    pub left : r.left ≡ q.left
    pub place : SamePlace r.has q.has
    pub code : Work
    pub goes_as : GoesAs (source.next bodies) next code r.left
    pub in_step : WorkInStep may_call agreed code
    pub value : agreed ≡ true → last (values r.has) ≡ last (values q.has)

  pub record GoOnAt (setting : Setting) (round : Round) (s : State W) (g h : ℕ) : Type 0 where
    pub first : Runner W
    pub second : Runner W
    pub first_is : slice_get (result next setting round s).runners g ≡ Some first
    pub second_is : slice_get (result next setting round s).runners h ≡ Some second
    pub left : first.left ≡ second.left
    pub place : SamePlace first.has second.has
    pub together :
        ((a : Acting W) (step : Step W) → DoesStep next setting round s g a step
        → leaves_step step.operation ≡ false)
        → (agreed : Bool) × TogetherAt agreed first second

abbrev pub FormsGoOn : (W : Type 0) → Type 0
FormsGoOn W =
    (next : W → Option (Step W)) (may_call : (function : ℕ) → Bool)
    (bodies : (binding : ℕ) → Code ℕ)
    → ((function : ℕ) → may_call function ≡ true → InStep may_call false (bodies function))
    → (setting : Setting) (round : Round) (s : State W) (g h : ℕ) (r q : Runner W)
    → ActTogether next setting round s g h r q
    → (agreed : Bool) → TogetherAt next may_call bodies agreed r q
    → GoOnAt next may_call bodies setting round s g h

-- in a list that has the code of a program, the entry of a function goes on as the code of the
-- function
abbrev pub EntriesGoAsCode : Type 0
EntriesGoAsCode =
    (tables : Tables) (program : ProgramTree) (ops : List CoreOp) (entry : ℕ → ℕ)
    → HasCodeOf tables program ops entry
    → (function : ℕ)
    → GoesAs (source.next (bodies_of tables program)) (core.next ops)
    (going (bodies_of tables program function) []) (position (entry function) [])
