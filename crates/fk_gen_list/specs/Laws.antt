-- What the code of a list does: for processors by themselves, and for groups.
use Rattle.std.specs.Prelude.{◌≡◌, ℕ, suc, ◌-◌, ◌<◌, ◌≤◌, ◌^◌, List, [], length, Bool, true, false}
use Rattle.std.specs.Prelude.{Option, Some, None, slice_get, slice_index}
use Rattle.fk_meaning_operation.specs.declared.operation.SplitKind.{SplitKind}
use Rattle.fk_meaning_operation.specs.declared.operation.Operation.{Operation}
use Rattle.fk_meaning_operation.specs.declared.operation.Operation.TheVariants.{Begin, Seq, End}
use Rattle.fk_meaning_operation.specs.declared.operation.Operation.TheVariants.{Halt, Split}
use Rattle.fk_meaning_operation.specs.declared.operation.Operation.TheVariants.{Shrink}
use Rattle.fk_meaning.specs.Group.{taken_by}
use Rattle.fk_meaning.specs.Processor.{Setting}
use Rattle.fk_core.specs.declared.op.CoreOp.{CoreOp}
use Rattle.fk_core.specs.Next.{is_jump}
use Rattle.fk_image.specs.declared.Image.{Image}
use Rattle.fk_machine.specs.Hart.{Setting as MachineSetting}
use Rattle.fk_sim_block.specs.Stands.{Places}
use Rattle.fk_sim_block.specs.Next.{OpAt}
use Rattle.fk_sim_block.specs.Ready.{is_alone}
use Rattle.fk_sim_block.specs.Suits.{Suits}
use Rattle.fk_sim_block.specs.Block.{IsRunning, BlockHalts, beginner, most_before, most_behind}
use Rattle.fk_core_liveness.specs.declared.set.Set.{Set}
use Rattle.fk_gen.specs.declared.placed.Levels.{Levels}
use Rattle.fk_gen.specs.InPlace.{HasBlock}
use Rattle.fk_gen_access.specs.Heap.{HasHeap}
use Rattle.fk_gen_flow.specs.Calls.{HasShared}
use Rattle.fk_gen_flow.specs.Laws.{HasJumps, CallsReturn}
use Rattle.fk_gen_list.specs.Kinds.{block_in}
use Rattle.fk_gen.specs.Levels.{levels_in}
use Rattle.fk_gen_list.specs.Layout.{placed}
use Rattle.fk_gen_list.specs.Generable.{AreKept}
use Rattle.fk_sim_block.specs.Node.{Gathering, Nestings, HasLevelRoom}
use Rattle.fk_sim_block.specs.Lockstep.{LevelsStay, LevelOpens, values_of_step}
use Rattle.fk_sim_block.specs.Law.{Cycles, GroupLaw, BlockDoesInNode, BlockJumpsInNode}
use Rattle.fk_sim_block.specs.Law.{BeginsInNode}
use Rattle.fk_gen_group.specs.Blocks.{HasStart, block_by, is_group_step}
use Rattle.fk_gen_group.specs.Splits.{HasParts}
use Rattle.fk_gen_group.specs.Laws.{GoesOnWith, GoesAside, levels_at, last_fork}
use Rattle.fk_gen_group.specs.Start.{gathering_of}
use Rattle.fk_gen_group.specs.InNode.{LevelsFit}
use Rattle.fk_gen_list.specs.Cycles.{lone_kind, cycles_of}

-- The operations that a processor does alone, and a halt.
abbrev pub is_lone : Operation → Bool
is_lone Halt = true
is_lone operation = is_alone operation

-- The blocks of these operations are at their indices. Those of calls clear where words are kept
-- that are no arguments. The image also has the jumps, those to which calls return among them, the
-- code that calls share, and the code that blocks of `shmalloc` share.
pub record HasLoneCode (core : List CoreOp) (kept : List Set) (saved : List Levels)
    (image : Image) (bound : ℕ → ℕ) (places : Places) : Type 0 where
  pub blocks : (i : ℕ) (op : CoreOp) (operation : Operation) → OpAt core i op operation
      → is_lone operation ≡ true
      → HasBlock image bound places i
      (block_in (lone_kind operation) (placed core (length image.globals.items) kept saved i op))
  pub jumps : HasJumps core image bound places
  pub calls : CallsReturn core image bound places
  pub shared : HasShared image bound
  pub heap : HasHeap image bound

-- The numbers of a list are words, and there are no more globals than shared words.
pub record AreInRange (core : List CoreOp) (image : Image) : Type 0 where
  pub words : (i : ℕ) (op : CoreOp) → slice_get core i ≡ Some op
      → (op.site < 2 ^ 32) × (op.number < 2 ^ 32)
  pub globals : length image.globals.items ≤ 2 ^ 20

-- The levels around a processor fit everything that it does alone, and stay at jumps.
pub record HaveLevels (core : List CoreOp) (places : Places) (nestings : Nestings) : Type 0 where
  pub operations : (i : ℕ) (op : CoreOp) (operation : Operation) → OpAt core i op operation
      → is_alone operation ≡ true
      → LevelsFit core places nestings i op operation
  pub jumps : (i : ℕ) (op : CoreOp) → slice_get core i ≡ Some op → is_jump op ≡ true
      → LevelsStay nestings i op.target

-- The parts of the law of blocks of groups in which a processor acts alone.
pub record DoesAlone (core : List CoreOp) (image : Image) (places : Places) (nestings : Nestings)
    (cycles : Cycles) : Type 0 where
  pub few_before : (i : ℕ) → cycles.before i ≤ most_before
  pub few_behind : (i : ℕ) (onward : Bool) → cycles.behind i onward ≤ most_behind
  pub alone : (i : ℕ) (op : CoreOp) (operation : Operation) → OpAt core i op operation
      → is_alone operation ≡ true
      → BlockDoesInNode core image places nestings cycles 1 i op operation
  pub jumps : (i : ℕ) (op : CoreOp) → slice_get core i ≡ Some op → is_jump op ≡ true
      → BlockJumpsInNode core image places nestings i op
  pub halts : (i : ℕ) (op : CoreOp) → OpAt core i op Halt → BlockHalts core image places 1 i op

-- An image with the code of a list does what `DoesAlone` says, if the list suits frames in which
-- calls keep no other words.
abbrev pub ListsDoAlone : Type 0
ListsDoAlone =
    (core : List CoreOp) (kept : List Set) (saved : List Levels) (image : Image) (bound : ℕ → ℕ)
    (places : Places) (nestings : Nestings) (main : ℕ)
    → Suits core places.frames main → AreKept places.frames kept → AreInRange core image
    → HasLoneCode core kept saved image bound places
    → HaveLevels core places nestings
    → ((i : ℕ) → levels_in saved i ≡ levels_at nestings i)
    → DoesAlone core image places nestings (cycles_of core (length image.globals.items) kept saved)

-- ---- with steps of groups

-- Steps after which some processors go on at the target with the same levels.
abbrev pub leads_away : Operation → Bool
leads_away Begin = true
leads_away Seq = true
leads_away operation = false

-- The block of each step is at its index, and the image has the code that beginnings of `start` and
-- splits share.
pub record HasGroupCode (core : List CoreOp) (saved : List Levels) (image : Image) (bound : ℕ → ℕ)
    (places : Places) : Type 0 where
  pub blocks : (i : ℕ) (op : CoreOp) (operation : Operation) → OpAt core i op operation
      → is_group_step (Some operation) ≡ true
      → HasBlock image bound places i
      (block_by (Some operation) (levels_in saved i) op.depth op.target op.site)
  pub start : HasStart image bound
  pub parts : HasParts image bound

-- A step finds the value that it looks at.
abbrev pub StepsHaveValues : List CoreOp → Type 0
StepsHaveValues core =
    (i : ℕ) (op : CoreOp) (operation : Operation) → OpAt core i op operation
    → is_group_step (Some operation) ≡ true → values_of_step operation ≤ op.depth

-- An end without a level in the frame is that of the group of `start`. Else the last level is given
-- back.
pub record EndsLevel (nestings : Nestings) (i target : ℕ) : Type 0 where
  pub start : nestings.levels i ≡ 0 → LevelsStay nestings i target
  pub part : 0 < nestings.levels i → LevelOpens nestings target i

-- A split has room for one level more in each of its parts.
pub record OpensLevel (places : Places) (nestings : Nestings) (by : SplitKind)
    (i target values : ℕ) : Type 0 where
  pub room : HasLevelRoom places.frames nestings (suc i) values
  pub aside : GoesAside by places nestings i target values

-- The levels around a processor have room where it comes to a step. They stay where it goes on,
-- except where parts begin and end.
pub record HaveStepLevels (core : List CoreOp) (places : Places)
    (nestings : Nestings) : Type 0 where
  pub room : (i : ℕ) (op : CoreOp) (operation : Operation) → OpAt core i op operation
      → is_group_step (Some operation) ≡ true
      → HasLevelRoom places.frames nestings i op.depth
  pub stay : (i : ℕ) (op : CoreOp) (operation : Operation) → OpAt core i op operation
      → is_group_step (Some operation) ≡ true
      → GoesOnWith operation nestings i
  pub leads : (i : ℕ) (op : CoreOp) (operation : Operation) → OpAt core i op operation
      → leads_away operation ≡ true → LevelsStay nestings i op.target
  pub ends : (i : ℕ) (op : CoreOp) → OpAt core i op End → EndsLevel nestings i op.target
  pub shrinks : (i : ℕ) (op : CoreOp) → OpAt core i op Shrink
      → LevelOpens nestings op.target i × (last_fork nestings i ≡ None)
  pub opens : (i : ℕ) (op : CoreOp) (by : SplitKind) → OpAt core i op (Split by)
      → OpensLevel places nestings by i op.target (op.depth - taken_by by)

-- From its start each hart comes to the block where `main` begins, in the root.
abbrev pub HartsBeginInNode : (core : List CoreOp) → Image → Places → Nestings → (firsts : List ℕ)
    → (main : ℕ) → Type 0
HartsBeginInNode core image places nestings firsts main =
    (setting : Setting) (t : MachineSetting) (number : ℕ) → IsRunning image setting t
    → number < setting.processors
    → BeginsInNode core image places nestings setting t
    (beginner setting (slice_index firsts) main number)

-- The whole law holds with these, and with an opening that leads to `main`.
abbrev pub ListsHaveTheLaw : Type 0
ListsHaveTheLaw =
    (core : List CoreOp) (kept : List Set) (saved : List Levels) (image : Image) (bound : ℕ → ℕ)
    (places : Places) (nestings : Nestings) (firsts : List ℕ) (main : ℕ)
    → Suits core places.frames main → AreKept places.frames kept → AreInRange core image
    → HasLoneCode core kept saved image bound places
    → HaveLevels core places nestings → HasGroupCode core saved image bound places
    → StepsHaveValues core → HaveStepLevels core places nestings
    → ((i : ℕ) → levels_in saved i ≡ levels_at nestings i)
    → nestings.start ≡ gathering_of core bound
    → HartsBeginInNode core image places nestings firsts main
    → GroupLaw core image places nestings
    (cycles_of core (length image.globals.items) kept saved) firsts main

-- ---- the levels of a list

-- The levels that are told of a list, and which of them a `fork` left.
abbrev pub nestings_of : List Levels → (forks : (index level : ℕ) → Option ℕ) → (start : Gathering)
    → Nestings
nestings_of saved forks start = record {
  levels = λ index. (levels_in saved index).count;
  behind = λ index. (levels_in saved index).behind;
  nest = λ index. (levels_in saved index).nest;
  forks = forks;
  start = start;
}

-- Whether a `fork` left the last level is as it is told of all levels.
abbrev pub TellsForks : List Levels → (forks : (index level : ℕ) → Option ℕ) → Type 0
TellsForks saved forks =
    (i : ℕ) → (levels_in saved i).fork ≡ forks i ((levels_in saved i).count - 1)

-- No group splits in a list.
abbrev pub is_parting : Operation → Bool
is_parting (Split by) = true
is_parting Shrink = true
is_parting operation = false

abbrev pub HasNoParts : List CoreOp → Type 0
HasNoParts core = (i : ℕ) (op : CoreOp) (operation : Operation) → OpAt core i op operation
    → is_parting operation ≡ false

-- A list in which no group splits, and that suits frames, needs no room for levels.
abbrev pub LevelsNeedNoRoom : Type 0
LevelsNeedNoRoom =
    (core : List CoreOp) (places : Places) (start : Gathering) (main : ℕ)
    → Suits core places.frames main → HasNoParts core
    → HaveLevels core places (nestings_of [] (λ index level. None) start)
    × HaveStepLevels core places (nestings_of [] (λ index level. None) start)
