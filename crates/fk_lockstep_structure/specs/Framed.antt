-- Where code may enter and leave calls, and where it may take words of its group's space.
use Rattle.std.specs.Prelude.{◌≡◌, ℕ, Bool, true, false, [], length}
use Rattle.fk_meaning_operation.specs.declared.operation.Operation.{Operation}
use Rattle.fk_meaning_operation.specs.declared.operation.Operation.TheVariants as o
use Rattle.fk_meaning_forms.specs.Code.{Code, done, perform, choose, while, until, turn, again}
use Rattle.fk_meaning_forms.specs.Code.{quit, break, continue, call, ends}
use Rattle.fk_meaning.specs.Next.{Work, going, next}
use Rattle.fk_meaning.specs.Shape.{of_function, splits, closes, Shape}
use Rattle.fk_meaning.specs.Behind.{opens_body}
use Rattle.fk_lockstep.specs.Frames.{Remains, Enters, Leaves, calling, takes_space, is_own_frame}
use Rattle.fk_lockstep.specs.Frames.{is_start, is_split, IsFramed}
use Rattle.fk_lockstep_structure.specs.Placed.{Who, OfGroup, OfBody, OfMain, is_group, is_main}
use Rattle.fk_lockstep_structure.specs.Placed.{callee_of}
use Rattle.fk_lockstep_structure.specs.Ahead.{all_outs}

abbrev pub is_resume : Operation → Bool
is_resume o.Resume = true
is_resume op = false

-- the code after parts begins with a resume
abbrev pub resumes : {A : Type 0} → Code A → Bool
resumes (perform t op rest) = is_resume op
resumes code = false

abbrev pub is_body : Who → Bool
is_body OfBody = true
is_body who = false

-- which processors run the branches of a choice
abbrev pub inside : Who → Operation → Who
inside who o.Begin = OfGroup
inside who o.Farm = OfBody
inside who o.Seq = OfBody
inside who op = who

-- an operation that neither enters nor leaves a call. Only groups take words of their space, and no
-- resume occurs in a body. What closes a body leads back to a group
pub record Stays (who behind : Who) (op : Operation) : Type 0 where
  pub remains : calling op ≡ Remains
  pub in_group : takes_space op ≡ true → is_group who ≡ true
  pub resumes : is_resume op ≡ true → is_body who ≡ false
  pub closes : closes op ≡ true → is_group behind ≡ true

-- a `start` occurs in `main`; only groups split and have bodies
pub record Chooses (who : Who) (op : Operation) : Type 0 where
  pub starts : is_start op ≡ true → is_main who ≡ true
  pub divides : is_split op ≡ true → is_group who ≡ true
  pub bodies : opens_body op ≡ true → is_group who ≡ true

-- `main` ends by a halt, and every other function by leaving its call
pub record Ends (who : Who) (op : Operation) : Type 0 where
  pub halts : is_main who ≡ true → calling op ≡ Remains
  pub leaves : is_main who ≡ false → calling op ≡ Leaves
  pub in_group : takes_space op ≡ true → is_group who ≡ true

module _ {A : Type 0} (may_call : (in_group : Bool) → (function : ℕ) → Bool) where
  -- a function takes its frame at the opening of a call, and nowhere else
  abbrev pub Opens : Who → Code A → Type 0
  Opens who done = Unit {0}
  Opens who (perform t op rest) = Stays who who op × Opens who rest
  Opens who code = ⊥

  abbrev pub Framed : Who → Code A → Type 0
  Framed who done = Unit {0}
  Framed who (perform t op rest) = Stays who who op × (is_own_frame op ≡ false) × Framed who rest
  Framed who (choose t op a b rest) =
      Chooses who op × Framed (inside who op) a × Framed (inside who op) b
      × (splits op ≡ true → resumes rest ≡ true) × Framed who rest
  Framed who (while test body step rest) = Framed who test × Framed who body × Framed who step
      × Framed who rest
  Framed who (until body test rest) = Framed who body × Framed who test × Framed who rest
  Framed who (turn test body step rest) = ⊥
  Framed who (again test body step rest) = ⊥
  Framed who (quit t op rest) = Framed who rest
  Framed who (break rest) = Framed who rest
  Framed who (continue rest) = Framed who rest
  Framed who (call t op f opening rest) =
      (calling op ≡ Enters) × (may_call (is_group who) f ≡ true) × Opens (callee_of who) opening
      × Framed who rest
  Framed who (ends t op rest) = Ends who op × Framed who rest

-- the rules on frames that the functions of a program and its `main` keep
pub record AreFramed (may_call : (in_group : Bool) → (function : ℕ) → Bool)
    (bodies : (binding : ℕ) → Code ℕ) (main : ℕ) : Type 0 where
  pub nested : (function : ℕ) → Shape false false of_function (bodies function)
  pub in_group : (function : ℕ) → may_call true function ≡ true
      → Framed may_call OfGroup (bodies function)
  pub in_body : (function : ℕ) → may_call false function ≡ true
      → Framed may_call OfBody (bodies function)
  pub main_of : Framed may_call (OfMain false) (bodies main)

-- the number of calls that wait
abbrev pub depth : Work → ℕ
depth work = length work.callers

-- code that keeps these rules enters and leaves calls, and takes words of a group's space, only
-- where it may
abbrev pub CodeIsFramed : Type 0
CodeIsFramed =
    (may_call : (in_group : Bool) → (function : ℕ) → Bool)
    (bodies : (binding : ℕ) → Code ℕ) (main : ℕ)
    → AreFramed may_call bodies main
    → IsFramed (next bodies) all_outs depth 0 true (going (bodies main) [])
