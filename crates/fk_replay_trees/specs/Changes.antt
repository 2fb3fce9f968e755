-- The steps of the tree in a round.
use Rattle.std.specs.Prelude.{◌≡◌, ℕ, ◌≤◌, ◌^◌, ◌==◌, true, false, Bool, List, Option, Some}
use Rattle.std.specs.Prelude.{None, slice_get}
use Rattle.fk_tree.specs.Tree as t
use Rattle.fk_tree.specs.Tree.{Tree}
use Rattle.fk_tree.specs.Sound.{Has}
use Rattle.fk_tree.specs.declared.node.Kind.TheVariants.{Lockstep}
use Rattle.fk_meaning_operation.specs.declared.operation.Operation.{Operation}
use Rattle.fk_meaning_operation.specs.declared.operation.Operation.TheVariants as o
use Rattle.fk_meaning_operation.specs.declared.operation.SplitKind.{SplitKind}
use Rattle.fk_meaning_operation.specs.declared.operation.SplitKind.TheVariants.{IfElse}
use Rattle.fk_meaning_state.specs.View.{processor_of}
use Rattle.fk_meaning.specs.Processor.{Processor, values, last}
use Rattle.fk_meaning.specs.Group.{parts, goes_onward}
use Rattle.fk_meaning.specs.Round.{nobody, lowest, highest}
use Rattle.fk_replay_rounds.specs.declared.mode.Mode.{Mode}
use Rattle.fk_replay_rounds.specs.declared.mode.Mode.TheVariants.{Group, Apart, Alone}
use Rattle.fk_replay_rounds.specs.Modes.{mode_of}
use Rattle.fk_replay_steps.specs.declared.list.Due.{Due}
use Rattle.fk_replay_phases.specs.declared.actor.Actor.{Actor}

-- the processor with a number
abbrev pub has_by : Option Actor → Processor
has_by None = nobody
has_by (Some a) = processor_of a.runner.processor

abbrev pub has_of : List Actor → (h : ℕ) → Processor
has_of actors h = has_by (slice_get actors h)

-- what a step needs of its node
abbrev pub Needs : Tree → (g : ℕ) → Operation → Type 0
Needs tree g o.Begin = (g ≡ 0) × (t.is_waiting (t.kind tree 0) ≡ false)
Needs tree g (o.Split by) = t.kind tree g ≡ Some Lockstep
Needs tree g o.Shrink = t.kind tree g ≡ Some Lockstep
Needs tree g o.End = t.kind tree g ≡ Some Lockstep
Needs tree g o.Farm = t.kind tree g ≡ Some Lockstep
Needs tree g o.Seq = t.kind tree g ≡ Some Lockstep
Needs tree g (o.Meet true) = t.HasBody tree g
Needs tree g o.Resume = t.ready tree g ≡ true
Needs tree g operation = Unit {0}

-- the members of a node make as many parts as the lowest of them
pub record HaveParts (tree : Tree) (actors : List Actor) (g : ℕ) (by : SplitKind) : Type 0 where
  pub same : (h : ℕ) → Has tree g h → parts by (values (has_of actors h))
      ≡ parts by (values (has_of actors (lowest (t.members tree g))))

-- the step of a node can be brought to the tree by its lowest member
pub record CanStep (tree : Tree) (actors : List Actor) (g : ℕ) (operation : Operation) : Type 0 where
  pub needs : Needs tree g operation
  pub divide : (by : SplitKind) → operation ≡ o.Split by → HaveParts tree actors g by
  pub few : (by : SplitKind) → operation ≡ o.Split by
      → parts by (values (has_of actors (lowest (t.members tree g)))) ≤ 2 ^ 18

pub record CanChange (tree : Tree) (actors : List Actor) : Type 0 where
  pub each : (h : ℕ) (a : Actor) (due : Due) → slice_get actors h ≡ Some a → a.taken ≡ Some due
      → h ≡ lowest (t.members tree (tree.places h))
      → CanStep tree actors (tree.places h) due.operation

-- ---- modes

-- how the members of a node act after a step
abbrev pub entered_mode : (onward : Bool) → Mode
entered_mode true = Group
entered_mode false = Apart

abbrev pub resumed_mode : (is_root : Bool) → Mode
resumed_mode true = Apart
resumed_mode false = Group

abbrev pub mode_after : Operation → (onward is_root : Bool) → Mode → Mode
mode_after (o.Split IfElse) onward is_root mode = Group
mode_after (o.Split by) onward is_root mode = entered_mode onward
mode_after o.Begin onward is_root mode = entered_mode onward
mode_after o.Shrink onward is_root mode = entered_mode onward
mode_after (o.Meet true) onward is_root mode = Group
mode_after o.Farm onward is_root mode = Apart
mode_after o.End onward is_root mode = Apart
mode_after o.Seq onward is_root mode = Alone
mode_after o.Resume onward is_root mode = resumed_mode is_root
mode_after operation onward is_root mode = mode

-- the last value of the highest member of a processor's node
abbrev pub agreed_by : Tree → List Actor → (h : ℕ) → ℕ
agreed_by tree actors h = last (values (has_of actors (highest (t.members tree (tree.places h)))))

abbrev pub mode_as : (highest lowest : ℕ) → (is_root : Bool) → Actor → Option Due → Mode
mode_as highest lowest is_root a None = a.mode
mode_as highest lowest is_root a (Some due) =
    mode_after due.operation
    (goes_onward due.operation highest lowest (processor_of a.runner.processor)) is_root a.mode

abbrev pub settled_mode : Tree → List Actor → (h : ℕ) → Actor → Mode
settled_mode tree actors h a = mode_as (agreed_by tree actors h)
    (lowest (t.members tree (tree.places h))) (tree.places h == 0) a a.taken

-- the modes of processors after their steps are those of their nodes in the new tree
pub record ModesFollow (old new : Tree) (actors : List Actor) : Type 0 where
  pub each : (h : ℕ) (a : Actor) → slice_get actors h ≡ Some a
      → settled_mode old actors h a ≡ mode_of (t.kind new (new.places h))
