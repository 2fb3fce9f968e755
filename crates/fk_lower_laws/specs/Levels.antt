-- Frames with room for the levels of parts.
use Rattle.std.specs.Prelude.{◌≡◌, ℕ, suc, ◌+◌, ◌*◌, ◌<◌, ◌≤◌, Bool, true, List, [], length}
use Rattle.std.specs.Prelude.{Option, Some, slice_get}
use Rattle.fk_meaning_operation.specs.declared.operation.Operation.{Operation}
use Rattle.fk_meaning_operation.specs.declared.operation.Operation.TheVariants as o
use Rattle.fk_core.specs.declared.op.CoreOp.{CoreOp}
use Rattle.fk_core.specs.Next.{is_jump, behind_jump, follows}
use Rattle.fk_core_levels.specs.Count.{counts}
use Rattle.fk_core_levels.specs.Forks.{level_forks}
use Rattle.fk_core_levels.specs.Behind.{IsBound}
use Rattle.fk_sim_block.specs.Next.{OpAt}
use Rattle.fk_sim_block.specs.Stands.{Frames, ahead}
use Rattle.fk_core_liveness.specs.declared.places.FunctionKind.TheVariants.{Main, Called}
use Rattle.fk_core_liveness.specs.Frames.{is_main_place}
use Rattle.fk_lockstep_frames.specs.Nests.{nesting, levels_of, forks_of}
use Rattle.fk_core_typing.specs.Values.{Place, with_frame, entered, place_behind, MayBeIn}

abbrev pub levels_in : Place → ℕ
levels_in place = levels_of (is_main_place place.function) place.nests

-- Whether a `fork` left a level, and how many words the frame of the group that it divided has.
abbrev pub forks_in : Place → (level : ℕ) → Option ℕ
forks_in place level = forks_of (is_main_place place.function) place.nests level

-- A group of `main` splits in the part of a `start`.
abbrev pub IsInGroup : Operation → Place → Type 0
IsInGroup (o.Split by) place = is_main_place place.function ≡ true → 1 ≤ nesting place.nests
IsInGroup operation place = Unit {0}

-- Where the running call is at each index, above which number all private words of its function
-- are, and how many values it has at most.
pub record Rooms : Type 0 where
  pub places : (index : ℕ) → Place
  pub words : (index : ℕ) → ℕ
  pub most : (index : ℕ) → ℕ

module _ (core : List CoreOp) (frames : Frames) (rooms : Rooms) where
  -- The frame has room for as many levels beside its words and values, and for the 8 words that a
  -- layout counts: a header of 7, and one for a result after each call.
  abbrev pub HasRoomFor : (levels i : ℕ) → Type 0
  HasRoomFor levels i =
      ahead frames (frames.is_main i) + 8 + rooms.words i + rooms.most i + 4 * levels ≤ 64

  -- The call goes on from index i at index j, where it is at this place.
  pub record GoesTo (there : Place) (i j : ℕ) : Type 0 where
    pub place : rooms.places j ≡ there
    pub words : rooms.words j ≡ rooms.words i
    pub most : rooms.most j ≡ rooms.most i

  -- A function begins at the next index, with its own words and values. Its caller goes on where it
  -- was.
  pub record Enters (i : ℕ) : Type 0 where
    pub gives : Bool
    pub begins : rooms.places (suc i) ≡ entered (Called gives)
    pub room : HasRoomFor 0 (suc i)
    pub back : GoesTo (rooms.places i) i (behind_jump core (suc i))

  abbrev pub GoesOn : Operation → (i target : ℕ) → Type 0
  GoesOn (o.Enter arguments) i target = Enters i
  GoesOn (o.Leave gives framed) i target =
      (frame : Option ℕ) × (rooms.places i ≡ with_frame (Called gives) frame)
  GoesOn o.Halt i target = rooms.places i ≡ entered Main
  GoesOn operation i target =
      (onward : Bool) → GoesTo (place_behind operation onward (rooms.places i)) i
      (follows core operation i target [] onward).at

  -- The frame has room for the levels at an operation, and for those after it.
  pub record FitsRoom (i : ℕ) (op : CoreOp) (operation : Operation) : Type 0 where
    pub may : MayBeIn operation (rooms.places i)
    pub grouped : IsInGroup operation (rooms.places i)
    pub values : op.depth ≤ rooms.most i
    pub room : HasRoomFor (levels_in (rooms.places i)) i
    pub further : (onward : Bool)
        → HasRoomFor (levels_in (place_behind operation onward (rooms.places i))) i
    pub goes_on : GoesOn operation i op.target

-- The frames of a list have room for the levels that the list counts. The list tells which of these
-- levels a `fork` left.
pub record HasRooms (core : List CoreOp) (frames : Frames) (main : ℕ) : Type 0 where
  pub rooms : Rooms
  pub main_of : (i : ℕ) → frames.is_main i ≡ is_main_place (rooms.places i).function
  pub counted : (i : ℕ) → i < length core
      → slice_get (counts core) i ≡ Some (levels_in (rooms.places i))
  pub forked : (i level : ℕ) → i < length core → level < levels_in (rooms.places i)
      → level_forks core i level ≡ forks_in (rooms.places i) level
  pub bound : IsBound core rooms.words
  pub begins : rooms.places main ≡ entered Main
  pub opens : HasRoomFor core frames rooms 0 main
  pub jumps : (i : ℕ) (op : CoreOp) → slice_get core i ≡ Some op → is_jump op ≡ true
      → GoesTo core frames rooms (rooms.places i) i op.target
  pub fits : (i : ℕ) (op : CoreOp) (operation : Operation) → OpAt core i op operation
      → FitsRoom core frames rooms i op operation
