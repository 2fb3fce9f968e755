-- The spaces of groups that aren't there don't matter.
use Rattle.std.specs.Prelude.{◌≡◌, ℕ, List, true, is_some}
use Rattle.fk_space.specs.Space.{Space}
use Rattle.fk_tree.specs.Tree.{Tree}
use Rattle.fk_meaning.specs.Processor.{Setting}
use Rattle.fk_meaning.specs.Round.{State}
use Rattle.fk_core.specs.declared.op.CoreOp.{CoreOp}
use Rattle.fk_core.specs.Next.{Position}
use Rattle.fk_image.specs.declared.Image.{Image}
use Rattle.fk_machine.specs.Cycle.{Machine}
use Rattle.fk_sim_match.specs.Stage.{Stage}
use Rattle.fk_sim_block.specs.Stands.{Places}
use Rattle.fk_sim_block.specs.Node.{Nestings}
use Rattle.fk_sim_rounds.specs.Machines.{GoesWith, GoesToStart}

-- All nodes that are there have the same spaces.
abbrev pub HaveSameSpaces : Tree → (spaces spaces' : ℕ → Space) → Type 0
HaveSameSpaces tree spaces spaces' =
    (g : ℕ) → is_some (tree.nodes g) ≡ true → spaces g ≡ spaces' g

-- A machine that follows a state where groups have some spaces follows it where only spaces of
-- nodes that aren't there are others.
abbrev pub OtherSpacesDontMatter : Type 0
OtherSpacesDontMatter =
    (core : List CoreOp) (image : Image) (places : Places) (nestings : Nestings) (setting : Setting)
    (spaces spaces' : ℕ → Space) (s : State Position) (nodes : List ℕ) (printed : List ℕ)
    (stages : List Stage) (m : Machine)
    → HaveSameSpaces s.tree spaces spaces'
    → GoesWith core image places nestings setting spaces s nodes printed stages m
    → GoesWith core image places nestings setting spaces' s nodes printed stages m

-- The same holds of a state whose processors are in lockstep at the beginning of `start`.
abbrev pub UnitedSpacesDontMatter : Type 0
UnitedSpacesDontMatter =
    (core : List CoreOp) (image : Image) (places : Places) (nestings : Nestings) (setting : Setting)
    (spaces spaces' : ℕ → Space) (s : State Position) (nodes : List ℕ) (printed : List ℕ)
    (stages : List Stage) (m : Machine)
    → HaveSameSpaces s.tree spaces spaces'
    → GoesToStart core image places nestings setting spaces s nodes printed stages m
    → GoesToStart core image places nestings setting spaces' s nodes printed stages m
