-- Splits, shrinks and the ends of parts: steps after which the members of a group are in two nodes
-- or more.
use Rattle.std.specs.Prelude.{◌≡◌, ℕ, zero, suc, ◌+◌, ◌-◌, ◌^◌, ◌<◌, ◌≤◌, List, [], ◌∷◌, length}
use Rattle.std.specs.Prelude.{map, filter, Bool, true, false, Option, Some, None}
use Rattle.fk_num.specs.Word.{Memory}
use Rattle.fk_space.specs.Space.{Space, IsSpace}
use Rattle.fk_tree.specs.Tree.{is_in}
use Rattle.fk_meaning_operation.specs.declared.operation.SplitKind.{SplitKind}
use Rattle.fk_meaning_operation.specs.declared.operation.SplitKind.TheVariants.{Fork}
use Rattle.fk_meaning_operation.specs.declared.operation.Operation.{Operation}
use Rattle.fk_meaning_operation.specs.declared.operation.Operation.TheVariants.{Split, Shrink, End}
use Rattle.fk_meaning.specs.Processor.{Level, Setting, values}
use Rattle.fk_meaning.specs.Group.{parts, part, stays, has_parts}
use Rattle.fk_core.specs.declared.op.CoreOp.{CoreOp}
use Rattle.fk_image.specs.declared.Image.{Image}
use Rattle.fk_machine.specs.Hart.{Setting as MachineSetting}
use Rattle.fk_sim_nodes.specs.Node.{Member, Words}
use Rattle.fk_sim_nodes.specs.Alone.{later, in_cycles}
use Rattle.fk_sim_nodes.specs.Together.{Together}
use Rattle.fk_sim_block.specs.Owner.{Owner, core_source}
use Rattle.fk_sim_block.specs.Stands.{Places}
use Rattle.fk_sim_block.specs.Block.{most_before}
use Rattle.fk_sim_block.specs.Node.{Nestings, OwnsHeader, OwnsSpace, IsAtRest, first_word}
use Rattle.fk_sim_block.specs.Lockstep.{IsInGroup, AllEnter, AllComeByWay, is_due, stepped}
use Rattle.fk_sim_block.specs.Lockstep.{highest_value}

-- ---- who goes where

-- The number of parts of a split, and the part that a processor enters. `None` means that it waits.
abbrev pub parts_of : SplitKind → Owner → ℕ
parts_of by p = parts by (values p.runner.has)

abbrev pub part_of : SplitKind → Owner → Option ℕ
part_of by p = part by (values p.runner.has)

-- How many of some processors enter a part, and how many of them stay in a loop.
abbrev pub size_of_part : SplitKind → List Owner → Option ℕ → ℕ
size_of_part by ps None = 0
size_of_part by ps (Some i) = length (filter (λ p. is_in i (part_of by p)) ps)

abbrev pub size_of_stay : List Owner → ℕ
size_of_stay ps = length (filter (λ p. stays p.runner.has) ps)

-- The size of a processor's group after the members of its group have done a step together. Only a
-- split and a shrink change it for those who stay in a group.
abbrev pub size_behind : Operation → List Owner → Owner → ℕ
size_behind (Split by) ps p = size_of_part by ps (part_of by p)
size_behind Shrink ps p = size_of_stay ps
size_behind operation ps p = 0

-- ---- what is asked

-- In a group that is a part of the running call, with so many levels in its frame, frames have
-- taken as many words as are told.
abbrev pub HasFrameWords : (levels : ℕ) → Option ℕ → Level → Type 0
HasFrameWords zero told level = Unit {0}
HasFrameWords (suc n) None level = ⊥
HasFrameWords (suc n) (Some words) level = level.space.frames ≡ level.space.low + 8 + words

-- A `fork` saves `@` and the size in one word, where both have room. The next index tells how many
-- words the frames of the group have taken.
pub record IsToFork (nestings : Nestings) (p : Owner) : Type 0 where
  pub number : p.runner.has.level.number < 2 ^ 16
  pub size : p.runner.has.level.size ≤ 1024
  pub frames : let i = p.runner.left.at in
      HasFrameWords (nestings.levels i) (nestings.forks (suc i) (nestings.levels i))
      p.runner.has.level

abbrev pub IsAskedToSplit : SplitKind → Nestings → Owner → Type 0
IsAskedToSplit Fork nestings p = IsToFork nestings p
IsAskedToSplit by nestings p = Unit {0}

-- A processor is in a group with this space, which it is about to divide into so many parts.
pub record IsToDivide (nestings : Nestings) (by : SplitKind) (space : Space) (count : ℕ)
    (p : Owner) : Type 0 where
  pub group : IsInGroup p
  pub space_is : p.runner.has.level.space ≡ space
  pub count_is : parts_of by p ≡ count
  pub asked : IsAskedToSplit by nestings p

module _ (nestings : Nestings) where
  abbrev pub AllAreToDivide : SplitKind → Space → (count : ℕ) → List Owner → Type 0
  AllAreToDivide by space count [] = Unit {0}
  AllAreToDivide by space count (p ∷ ps) = IsToDivide nestings by space count p
      × AllAreToDivide by space count ps

  -- All processors are about to divide one space.
  pub record AreToDivide (by : SplitKind) (space : Space) (count : ℕ)
      (ps : List Owner) : Type 0 where
    pub some : 1 ≤ length ps
    pub few : length ps ≤ 1024
    pub is_space : IsSpace space
    pub all : AllAreToDivide by space count ps

-- In a part a processor has the `@` and `$` of the level around it, unless a `fork` left that
-- level.
abbrev pub HasNumbersBy : Option ℕ → (around own : Level) → Type 0
HasNumbersBy None around own = (around.number ≡ own.number) × (around.rank ≡ own.rank)
HasNumbersBy (Some words) around own = Unit {0}

-- A processor is in a part. Around it is the level of a group with a space, and the frame of the
-- call has that level.
pub record IsInPart (nestings : Nestings) (p : Owner) : Type 0 where
  pub around : Level
  pub beyond : Level
  pub further : List Level
  pub outer : p.runner.has.outer ≡ around ∷ beyond ∷ further
  pub is_space : IsSpace around.space
  pub saved : 0 < nestings.levels p.runner.left.at
  pub numbers : let i = p.runner.left.at in
      HasNumbersBy (nestings.forks i (nestings.levels i - 1)) around p.runner.has.level

abbrev pub AreInPart : Nestings → List Owner → Type 0
AreInPart nestings [] = Unit {0}
AreInPart nestings (p ∷ ps) = IsInPart nestings p × AreInPart nestings ps

-- Nobody has arrived at an arrival word of a processor's node.
abbrev pub AllRest : Memory → List Owner → Type 0
AllRest own [] = Unit {0}
AllRest own (p ∷ ps) = IsAtRest (first_word p.runner.has.level p.runner.has.outer) own
    × AllRest own ps

-- What a step makes of some processors, who do it together.
abbrev pub moved : List CoreOp → (i : ℕ) → CoreOp → Operation → (lowest : ℕ) → List Owner → Owner
    → Owner
moved core i op operation lowest ps p =
    stepped core i op operation (highest_value ps) lowest (size_behind operation ps p) p

module _ (core : List CoreOp) (image : Image) (places : Places) (nestings : Nestings) (i : ℕ)
    (op : CoreOp) where
  -- Each member comes by itself to where its processor goes on, in its node.
  abbrev pub AllMove : Operation → Setting → MachineSetting → (behind : (onward : Bool) → ℕ)
      → (bodies : Owner → Option ℕ) → (lowest : ℕ) → List Member → List Owner → Type 0
  AllMove operation setting t behind bodies lowest ms ps =
      AllComeByWay core image places nestings i op operation setting t behind bodies
      (highest_value ps) lowest (λ p. size_behind operation ps p) ms ps

  -- A group whose space has room for the parts divides. All members commit in one cycle. Then each
  -- comes by its way to its part, or to where it waits in the group. Nobody is at the arrival words
  -- of a part that has members, nor at those of the group.
  abbrev pub DividesTogether : SplitKind → (before : ℕ) → (behind : (onward : Bool) → ℕ) → Type 0
  DividesTogether by before behind =
      (setting : Setting) (t : MachineSetting) (mine : Words) (first : ℕ) (space : Space)
      (count : ℕ) (ms : List Member) (ps : List Owner) (own : Memory)
      → OwnsHeader mine first → OwnsSpace mine space
      → AllEnter core image places nestings i op (Split by) setting t None first ms ps
      → AreToDivide nestings by space count ps → has_parts space count ≡ true
      → IsAtRest first own
      → Together (core_source core setting) image mine t 1 before ms ps own
      (λ ms' ds own'. (ds ≡ map (is_due core i op (Split by)) ps)
      × AllMove (Split by) setting (later (in_cycles before t)) behind (λ p. None) 0 ms' ps
      × IsAtRest first own' × AllRest own' (map (moved core i op (Split by) 0 ps) ps))

  -- Where there is no room for the parts, the lowest member faults, whose commit is in one cycle
  -- with those of all others.
  pub record FaultsTogether (by : SplitKind) : Type 0 where
    pub before : ℕ
    pub few : before ≤ most_before
    pub faults : (setting : Setting) (t : MachineSetting) (mine : Words) (first : ℕ) (space : Space)
        (count : ℕ) (ms : List Member) (ps : List Owner) (own : Memory)
        → OwnsHeader mine first
        → AllEnter core image places nestings i op (Split by) setting t None first ms ps
        → AreToDivide nestings by space count ps → has_parts space count ≡ false
        → Together (core_source core setting) image mine t 1 before ms ps own (λ ms' ds own'. ⊥)

  -- The members of a part who stay in a loop are a group of as many as they are, and the others go
  -- back to the group around it.
  abbrev pub ShrinksTogether : (before : ℕ) → (behind : (onward : Bool) → ℕ) → Type 0
  ShrinksTogether before behind =
      (setting : Setting) (t : MachineSetting) (mine : Words) (first : ℕ) (ms : List Member)
      (ps : List Owner) (own : Memory)
      → OwnsHeader mine first
      → AllEnter core image places nestings i op Shrink setting t None first ms ps
      → AreInPart nestings ps → length ps ≤ 1024 → IsAtRest first own
      → Together (core_source core setting) image mine t 1 before ms ps own
      (λ ms' ds own'. (ds ≡ map (is_due core i op Shrink) ps)
      × AllMove Shrink setting (later (in_cycles before t)) behind (λ p. None) 0 ms' ps
      × IsAtRest first own')

  -- The members of a part that ends go back to the group around it. All control words are as they
  -- were.
  abbrev pub EndsPart : (behind : (onward : Bool) → ℕ) → Type 0
  EndsPart behind =
      (setting : Setting) (t : MachineSetting) (mine : Words) (first : ℕ) (ms : List Member)
      (ps : List Owner) (own : Memory)
      → OwnsHeader mine first
      → AllEnter core image places nestings i op End setting t None first ms ps
      → AreInPart nestings ps
      → Together (core_source core setting) image mine t 1 0 ms ps own
      (λ ms' ds own'. (ds ≡ map (is_due core i op End) ps)
      × AllMove End setting (later t) behind (λ p. None) 0 ms' ps × (own' ≡ own))
