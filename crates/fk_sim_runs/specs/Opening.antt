-- The beginning: before its first cycle a machine follows the state before the first round.
use Rattle.std.specs.Prelude.{ℕ, ◌<◌, ◌≤◌, List, [], ◌∷◌, length, replicate, slice_index}
use Rattle.fk_space.specs.Space.{Space}
use Rattle.fk_tree.specs.Tree.{root}
use Rattle.fk_meaning.specs.Processor.{setting_of}
use Rattle.fk_core.specs.declared.op.CoreOp.{CoreOp}
use Rattle.fk_core.specs.Next.{list_opening}
use Rattle.fk_image.specs.declared.Image.{Image}
use Rattle.fk_machine.specs.Cycle as machine
use Rattle.fk_sim_match.specs.Stage.{Stage}
use Rattle.fk_sim_block.specs.Stands.{Places}
use Rattle.fk_sim_block.specs.Block.{beginner}
use Rattle.fk_sim_block.specs.Node.{Nestings}
use Rattle.fk_sim_block.specs.Law.{Cycles, GroupLaw}
use Rattle.fk_sim_rounds.specs.Next.{JumpsLead, landed, HasNext}
use Rattle.fk_sim_rounds.specs.Comes.{IsSoon}
use Rattle.fk_sim_rounds.specs.Machines.{GoesWith}
use Rattle.fk_sim_runs.specs.Facts.{HasSpace}

-- Each hart is near its first commit, or near the word where it meets others.
abbrev pub AreSoon : List Stage → Type 0
AreSoon [] = Unit {0}
AreSoon (s ∷ stages) = IsSoon s × AreSoon stages

-- A machine with p harts, all of them in the root, follows the first state before its first cycle.
pub record OpensWith (core : List CoreOp) (image : Image) (places : Places) (nestings : Nestings)
    (spaces : ℕ → Space) (firsts : List ℕ) (main : ℕ) (input : List ℕ) (p : ℕ) : Type 0 where
  pub stages : List Stage
  pub soon : AreSoon stages
  pub goes : GoesWith core image places nestings (setting_of p image.globals.items input) spaces
      (list_opening main image.globals.items firsts input p) (replicate p 0) [] stages
      (machine.machine_opening image input p)

-- A machine follows the first state if each processor is about to do an operation that it may do by
-- itself, or by meeting the others, and shared data has room for the globals and the input.
abbrev pub OpeningsAreFollowed : Type 0
OpeningsAreFollowed =
    (core : List CoreOp) (image : Image) (places : Places) (nestings : Nestings) (cycles : Cycles)
    (firsts : List ℕ) (main : ℕ) (spaces : ℕ → Space) (input : List ℕ) (p : ℕ)
    → GroupLaw core image places nestings cycles firsts main → JumpsLead core → 1 ≤ p → p ≤ 1024
    → length input ≤ 65536 → HasSpace (setting_of p image.globals.items input)
    → ((number : ℕ) → number < p → HasNext core nestings (setting_of p image.globals.items input)
    (root p) number (landed core (beginner (setting_of p image.globals.items input)
    (slice_index firsts) main number)))
    → OpensWith core image places nestings spaces firsts main input p
