-- The levels that the frames of calls save, by the parts that the calls are in.
use Rattle.std.specs.Prelude.{◌≡◌, ℕ, suc, ◌+◌, ◌-◌, ◌^◌, ◌<◌, ◌≤◌, Bool, true, false, List, []}
use Rattle.std.specs.Prelude.{◌∷◌, length, Some, slice_get}
use Rattle.fk_meaning_operation.specs.declared.operation.Operation.{Operation}
use Rattle.fk_meaning_operation.specs.declared.operation.Operation.TheVariants.{Split, Shrink, End}
use Rattle.fk_meaning_operation.specs.declared.operation.SplitKind.TheVariants.{Fork}
use Rattle.fk_meaning.specs.Processor.{Level, setting_of}
use Rattle.fk_meaning.specs.Round.{Runner}
use Rattle.fk_meaning.specs.Schedule.{Schedule, run}
use Rattle.fk_core.specs.declared.op.CoreOp.{CoreOp}
use Rattle.fk_core.specs.Next.{Position, position, landing, next, list_opening}
use Rattle.fk_lockstep_frames.specs.Nests.{Nest, nesting}
use Rattle.fk_lockstep_frames.specs.Lists.{HasLocalFrames}
use Rattle.fk_lockstep_tree.specs.Where.{InRoot, Goes}
use Rattle.fk_sim_block.specs.Next.{OpAt}
use Rattle.fk_sim_block.specs.Node.{Nestings}
use Rattle.fk_sim_block.specs.Lockstep.{NoneSaved}
use Rattle.fk_sim_block.specs.Parts.{HasFrameWords, HasNumbersBy}

-- The outermost part that a processor is in is the group of a `start`, in `main`. So no part is
-- around `main`, and a call of another function, with these nests, has parts of its own only where
-- some part is around it.
pub record StandsIn (main : Bool) (outside : ℕ) (nests : List Nest) : Type 0 where
  pub outermost : main ≡ true → outside ≡ 0
  pub called : main ≡ false → outside ≡ 0 → nesting nests ≡ 0

module _ (core : List CoreOp) (main : ℕ) (local : HasLocalFrames core main) where
  -- How many parts these calls are in. The group of a `start` is one of them.
  abbrev pub parts_in : (indices : List ℕ) → ℕ
  parts_in [] = 0
  parts_in (i ∷ indices) = nesting (local.nests i) + parts_in indices

  abbrev pub StandsAt : (outside index : ℕ) → Type 0
  StandsAt outside i = StandsIn (local.in_main i) outside (local.nests i)

  -- The parts around a call are those that the calls are in which wait for it.
  abbrev pub AllStandAt : (indices : List ℕ) → Type 0
  AllStandAt [] = Unit {0}
  AllStandAt (i ∷ indices) = StandsAt (parts_in indices) i × AllStandAt indices

  -- A processor has as many levels around its own as its calls are in parts.
  pub record HasToldLevels (r : Runner Position) : Type 0 where
    pub groups : length r.has.outer ≡ parts_in (landing core r.left.at ∷ r.left.callers)
    pub calls : AllStandAt (landing core r.left.at ∷ r.left.callers)

-- This holds in every run of a list in which only groups split.
abbrev pub LevelsAreTold : Type 0
LevelsAreTold =
    (core : List CoreOp) (main : ℕ) (local : HasLocalFrames core main)
    → Goes (next core) InRoot (position main [])
    → (words firsts input : List ℕ) (p : ℕ) (schedule : Schedule)
    → let setting = setting_of p words input in
    (h : ℕ) (r : Runner Position)
    → slice_get (run (next core) setting schedule (list_opening main words firsts input p)).runners
    h ≡ Some r
    → HasToldLevels core main local r

-- ---- as machines need it

-- The operations by which members leave a part.
abbrev pub leaves_part : Operation → Bool
leaves_part Shrink = true
leaves_part End = true
leaves_part operation = false

-- In the root, and in the group of a `start`, the frames of a processor's calls have no saved
-- level. Where it is about to leave any other part, the frame of its call has one.
pub record SavesLevels (core : List CoreOp) (nestings : Nestings)
    (r : Runner Position) : Type 0 where
  pub none : (op : CoreOp) (operation : Operation)
      → OpAt core (landing core r.left.at) op operation → length r.has.outer ≤ 1
      → NoneSaved nestings (landing core r.left.at ∷ r.left.callers)
  pub some : (op : CoreOp) (operation : Operation)
      → OpAt core (landing core r.left.at) op operation → 2 ≤ length r.has.outer
      → leaves_part operation ≡ true → 0 < nestings.levels (landing core r.left.at)

-- `@` is small. Where a processor is about to `fork` in a part of its call, it is told how many
-- words the frames of its group have taken. Where it is about to leave a part of its call, it has
-- the `@` and `$` of the group around, unless a `fork` left that level.
pub record SavesNumbers (core : List CoreOp) (nestings : Nestings)
    (r : Runner Position) : Type 0 where
  pub small : r.has.level.number < 2 ^ 16
  pub taken : (op : CoreOp) → let i = landing core r.left.at in OpAt core i op (Split Fork)
      → HasFrameWords (nestings.levels i) (nestings.forks (suc i) (nestings.levels i)) r.has.level
  pub around : (op : CoreOp) (operation : Operation) (l : Level) (further : List Level)
      → let i = landing core r.left.at in
      OpAt core i op operation → leaves_part operation ≡ true → r.has.outer ≡ l ∷ further
      → 0 < nestings.levels i
      → HasNumbersBy (nestings.forks i (nestings.levels i - 1)) l r.has.level
