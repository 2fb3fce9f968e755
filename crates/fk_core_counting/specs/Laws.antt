-- The levels that a list tells in its order.
use Rattle.std.specs.Prelude.{◌≡◌, ℕ, suc, ◌<◌, ◌≤◌, Bool, true, false, List, length, slice_get}
use Rattle.std.specs.Prelude.{Option, Some, None}
use Rattle.fk_meaning_operation.specs.declared.operation.SplitKind.{SplitKind}
use Rattle.fk_meaning_operation.specs.declared.operation.SplitKind.TheVariants.{IfElse}
use Rattle.fk_meaning_operation.specs.declared.operation.Operation.{Operation}
use Rattle.fk_meaning_operation.specs.declared.operation.Operation.TheVariants.{Begin, Split}
use Rattle.fk_meaning_operation.specs.declared.operation.Operation.TheVariants.{Shrink, Frame}
use Rattle.fk_meaning_forms.specs.Code.{Code, done, perform, choose, while, until, turn, again}
use Rattle.fk_meaning_forms.specs.Code.{quit, break, continue, call, ends}
use Rattle.fk_meaning.specs.Shape.{of_function, splits, Shape}
use Rattle.fk_core.specs.declared.op.CoreOp.{CoreOp}
use Rattle.fk_core_levels.specs.Count.{read, counts, nests}
use Rattle.fk_core_levels.specs.Forks.{level_forks}
use Rattle.fk_core_liveness.specs.declared.places.FunctionKind.{FunctionKind}
use Rattle.fk_core_liveness.specs.declared.places.FunctionKind.TheVariants.{Main}
use Rattle.fk_core_liveness.specs.Frames.{is_main_place}
use Rattle.fk_core_typing.specs.LocalAddresses.{HasKnowledge}
use Rattle.fk_core_typing.specs.Laws.{IsTypedList}
use Rattle.fk_lockstep_frames.specs.Nests.{nesting, levels_of, forks_of}
use Rattle.fk_lockstep_frames.specs.Lists.{HasLocalFrames}
use Rattle.fk_lockstep_structure.specs.Placed.{Who, is_main, Placed}

-- Whether the branches of a choice are in a part of a split with one body, given whether the choice
-- itself is.
abbrev pub under : Operation → (outside : Bool) → Bool
under (Split IfElse) b = false
under (Split by) b = true
under Begin b = false
under operation b = b

-- Only in such a part the test of a loop ends with a shrink.
abbrev pub ShrinksIn : {A : Type 0} → (in_split : Bool) → Code A → Type 0
ShrinksIn b done = Unit {0}
ShrinksIn b (perform n op rest) = ShrinksIn b rest
ShrinksIn b (choose n op x y rest) = ShrinksIn (under op b) x × ShrinksIn (under op b) y
    × ShrinksIn b rest
ShrinksIn b (while test body step rest) = ShrinksIn b test × ShrinksIn b body × ShrinksIn b step
    × ShrinksIn b rest
ShrinksIn b (until body test rest) = ShrinksIn b body × ShrinksIn b test × ShrinksIn b rest
ShrinksIn b (turn test body step rest) = ⊥
ShrinksIn b (again test body step rest) = ⊥
ShrinksIn b (quit n op rest) = (op ≡ Shrink → b ≡ true) × ShrinksIn b rest
ShrinksIn b (break rest) = ShrinksIn b rest
ShrinksIn b (continue rest) = ShrinksIn b rest
ShrinksIn b (call n op f opening rest) = ShrinksIn b rest
ShrinksIn b (ends n op rest) = ShrinksIn b rest

abbrev pub takes_in_part : Operation → Bool
takes_in_part (Frame (suc number) words) = true
takes_in_part operation = false

-- A frame of a part is taken where the part begins.
abbrev pub FramesIn : {A : Type 0} → (begins : Bool) → Code A → Type 0
FramesIn b done = Unit {0}
FramesIn b (perform n op rest) = (takes_in_part op ≡ true → b ≡ true) × FramesIn false rest
FramesIn b (choose n op x y rest) = FramesIn (splits op) x × FramesIn (splits op) y
    × FramesIn false rest
FramesIn b (while test body step rest) = FramesIn false test × FramesIn false body
    × FramesIn false step × FramesIn false rest
FramesIn b (until body test rest) = FramesIn false body × FramesIn false test
    × FramesIn false rest
FramesIn b (turn test body step rest) = ⊥
FramesIn b (again test body step rest) = ⊥
FramesIn b (quit n op rest) = FramesIn false rest
FramesIn b (break rest) = FramesIn false rest
FramesIn b (continue rest) = FramesIn false rest
FramesIn b (call n op f opening rest) = FramesIn false rest
FramesIn b (ends n op rest) = FramesIn false rest

-- A function is run by such processors, and only `main` by those of `main`. Outside of its splits
-- no loop shrinks, and no frame is taken but the function's own.
pub record IsRun (may_call : (in_group : Bool) → (function : ℕ) → Bool)
    (kind : FunctionKind) (code : Code ℕ) : Type 0 where
  pub who : Who
  pub placed : Placed may_call who false code
  pub by_main : is_main who ≡ false → is_main_place kind ≡ false
  pub shrinks : ShrinksIn false code
  pub frames : FramesIn false code

-- The list counts the levels and the parts that the nests of each index tell, and tells which
-- levels a `fork` left. In `main` only the group of a `start` splits, and a frame has a level where
-- a loop shrinks.
pub record TellsLevels (core : List CoreOp) (main : ℕ) (local : HasLocalFrames core main)
    : Type 0 where
  pub levels : (i : ℕ) → i < length core
      → slice_get (counts core) i ≡ Some (levels_of (local.in_main i) (local.nests i))
  pub parts : (i : ℕ) → i < length core
      → slice_get (nests core) i ≡ Some (nesting (local.nests i))
  pub forks : (i level : ℕ) → i < length core
      → level < levels_of (local.in_main i) (local.nests i)
      → level_forks core i level ≡ forks_of (local.in_main i) (local.nests i) level
  pub splits : (i : ℕ) (op : CoreOp) (by : SplitKind) → slice_get core i ≡ Some op
      → read op ≡ Some (Split by) → local.in_main i ≡ true → 1 ≤ nesting (local.nests i)
  pub shrinks : (i : ℕ) (op : CoreOp) → slice_get core i ≡ Some op → read op ≡ Some Shrink
      → 1 ≤ levels_of (local.in_main i) (local.nests i)

abbrev pub TypedListsTellLevels : Type 0
TypedListsTellLevels =
    (bodies : (binding : ℕ) → Code ℕ) (core : List CoreOp) (entry : ℕ → ℕ)
    (place_of : (binding : ℕ) → FunctionKind) (frame_of : (binding : ℕ) → Option ℕ)
    (may_call : (in_group : Bool) → (function : ℕ) → Bool)
    → IsTypedList bodies core entry place_of frame_of
    → ((binding : ℕ) → Shape false false of_function (bodies binding))
    → ((binding : ℕ) → IsRun may_call (place_of binding) (bodies binding))
    → (main : ℕ) → place_of main ≡ Main → frame_of main ≡ None
    → (local : HasLocalFrames core (entry main)) × HasKnowledge core (entry main) local.nests
    × TellsLevels core (entry main) local
