-- Flat lists whose indices tell the nests of the running call.
use Rattle.std.specs.Prelude.{◌≡◌, ℕ, suc, ◌-◌, ◌^◌, ◌<◌, ◌≤◌, Bool, true, false, List, [], ◌∷◌}
use Rattle.std.specs.Prelude.{◌++◌, length, Option, Some, None, is_some, slice_get, All}
use Rattle.fk_space.specs.Space.{IsSpace}
use Rattle.fk_meaning_operation.specs.declared.operation.OwnValue.TheVariants.{FrameAddress}
use Rattle.fk_meaning_operation.specs.declared.operation.Operation.{Operation}
use Rattle.fk_meaning_operation.specs.declared.operation.Operation.TheVariants as o
use Rattle.fk_meaning_store.specs.Serve.{may_use}
use Rattle.fk_meaning.specs.Processor.{Setting, setting_of, group_space}
use Rattle.fk_meaning.specs.Local.{known}
use Rattle.fk_meaning.specs.Round.{Runner}
use Rattle.fk_meaning.specs.Schedule.{Schedule, run}
use Rattle.fk_core.specs.declared.op.CoreOp.{CoreOp}
use Rattle.fk_core.specs.Numbers.{operation_of}
use Rattle.fk_core.specs.Next.{Position, is_jump, behind_jump, landing, follows, next, list_opening}
use Rattle.fk_lockstep_frames.specs.Nests.{Nest, OfFunction, nesting, has_word, behind, May}
use Rattle.fk_lockstep_frames.specs.Taken.{numbers_of, TakesInPart, KeepsNumbers, HasNests}
use Rattle.fk_lockstep_frames.specs.Taken.{IsFirstFrame}

-- `nests` gives for each index the nests of its call, the innermost first and the function last;
-- `in_main` tells whether an index is in `main`
module _ (core : List CoreOp) (in_main : (index : ℕ) → Bool) (nests : (index : ℕ) → List Nest) where
  -- the nests of all calls of a position
  abbrev pub nests_of : (indices : List ℕ) → List Nest
  nests_of [] = []
  nests_of (i ∷ indices) = nests i ++ nests_of indices

  abbrev pub told : Position → List Nest
  told w = nests_of (w.at ∷ w.callers)

  -- an index in `main` outside each `start`
  pub record IsOutermost (i : ℕ) : Type 0 where
    pub main : in_main i ≡ true
    pub nested : nests i ≡ OfFunction None ∷ []

  -- the call goes on from index i at index j, with these nests
  pub record Leads (there : List Nest) (i j : ℕ) : Type 0 where
    pub main : in_main j ≡ in_main i
    pub nested : nests j ≡ there

  -- a function is entered with nothing taken, and its caller goes on as before
  pub record Calls (i : ℕ) : Type 0 where
    pub main : in_main (suc i) ≡ false
    pub begins : nests (suc i) ≡ OfFunction None ∷ []
    pub back : Leads (nests i) i (behind_jump core (suc i))

  -- a function that is called is left in its own nest, and gives its frame back if it has one
  pub record Returns (framed : Bool) (i : ℕ) : Type 0 where
    pub main : in_main i ≡ false
    pub frame : Option ℕ
    pub nested : nests i ≡ OfFunction frame ∷ []
    pub gives_back : is_some frame ≡ framed

  -- an address of a word of a frame is got only where the call has this frame
  abbrev pub Asks : Operation → (i : ℕ) → Type 0
  Asks (o.Get (FrameAddress number word)) i = has_word (nests i) number word ≡ true
  Asks o.Begin i = IsOutermost i
  Asks (o.Leave gives framed) i = Unit {0}
  Asks operation i = May operation (nests i)

  abbrev pub GoesOn : Operation → (i target : ℕ) → Type 0
  GoesOn (o.Enter arguments) i target = Calls i
  GoesOn (o.Leave gives framed) i target = Returns framed i
  GoesOn o.Halt i target = IsOutermost i
  GoesOn operation i target =
      (onward : Bool) → Leads (behind operation onward (nests i)) i
      (follows core operation i target [] onward).at

  pub record Fits (i target : ℕ) (operation : Operation) : Type 0 where
    pub asks : Asks operation i
    pub goes_on : GoesOn operation i target

-- the nests at all indices of a list whose `main` begins at an index
pub record HasLocalFrames (core : List CoreOp) (main : ℕ) : Type 0 where
  pub in_main : (index : ℕ) → Bool
  pub nests : (index : ℕ) → List Nest
  pub begins : IsOutermost core in_main nests main
  pub ends : IsOutermost core in_main nests (length core)
  pub jumps : (i : ℕ) (op : CoreOp) → slice_get core i ≡ Some op → is_jump op ≡ true
      → Leads core in_main nests (nests i) i op.target
  pub fits : (i : ℕ) (op : CoreOp) (operation : Operation) → slice_get core i ≡ Some op
      → operation_of op.kind op.number ≡ Some operation
      → Fits core in_main nests i op.target operation

-- a processor has the nests that its position tells, and may use the address of each word of the
-- frames that its call has there. The frame of a part is the first in the group of that part, and
-- the only one of that call. `@` is small in each group, and both `@` and `$` are as around it in a
-- part that isn't numbered
pub record HasToldFrames (core : List CoreOp) (main : ℕ) (local : HasLocalFrames core main)
    (setting : Setting) (r : Runner Position) : Type 0 where
  pub nests : HasNests (told core local.in_main local.nests r.left) r.has
  pub usable : (number word : ℕ)
      → has_word (local.nests (landing core r.left.at)) number word ≡ true
      → may_use true (known setting r.has (FrameAddress number word)) ≡ true
  pub begins : (part word : ℕ)
      → has_word (local.nests (landing core r.left.at)) (suc part) word ≡ true
      → let nest = nesting (local.nests (landing core r.left.at)) in
      (suc part ≤ nest) × IsFirstFrame (nest - suc part) (suc part) r.has
  pub small : All (λ n. n.0 < 2 ^ 16) (numbers_of r.has)
  pub numbers : KeepsNumbers (local.nests (landing core r.left.at)) (numbers_of r.has)
  pub taken : TakesInPart (local.nests (landing core r.left.at)) r.has.level.space

-- in every run each processor has the nests that its position tells, if the words for groups are a
-- space
abbrev pub ListsTellFrames : Type 0
ListsTellFrames =
    (core : List CoreOp) (main : ℕ) (local : HasLocalFrames core main)
    (words firsts input : List ℕ) (p : ℕ) (schedule : Schedule)
    → let setting = setting_of p words input in
    IsSpace (group_space setting)
    → (h : ℕ) (r : Runner Position)
    → slice_get (run (next core) setting schedule (list_opening main words firsts input p)).runners
    h ≡ Some r
    → HasToldFrames core main local setting r
