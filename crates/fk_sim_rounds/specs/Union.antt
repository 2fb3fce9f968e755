-- A state of a core run that matches harts which have met at the beginning of `start`.
use Rattle.std.specs.Prelude.{◌≡◌, ℕ, ◌<◌, List, [], ◌∷◌}
use Rattle.fk_space.specs.Space.{Space}
use Rattle.fk_meaning_operation.specs.declared.operation.Operation.TheVariants.{Begin}
use Rattle.fk_meaning.specs.Processor.{Setting}
use Rattle.fk_meaning.specs.Round.{Runner, State}
use Rattle.fk_core.specs.declared.op.CoreOp.{CoreOp}
use Rattle.fk_core.specs.Next.{Position, landing}
use Rattle.fk_image.specs.declared.Image.{Image}
use Rattle.fk_machine.specs.Hart.{Hart, Shared, Setting as MachineSetting}
use Rattle.fk_sim_nodes.specs.Source.{Shows}
use Rattle.fk_sim_match.specs.Stage.{Stage, Acts}
use Rattle.fk_sim_match.specs.Plan.{IsBound}
use Rattle.fk_sim_block.specs.Owner.{Commons, Owner, core_source}
use Rattle.fk_sim_block.specs.Stands.{Places}
use Rattle.fk_sim_block.specs.Next.{OpAt}
use Rattle.fk_sim_block.specs.Node.{Nestings}
use Rattle.fk_sim_block.specs.Start.{most_united}
use Rattle.fk_sim_match.specs.Nodes.{first_of, plan_of, united}
use Rattle.fk_sim_match.specs.Behind.{blocks_of}
use Rattle.fk_sim_rounds.specs.Next.{AllAbout}
use Rattle.fk_sim_rounds.specs.After.{AllLanded}
use Rattle.fk_sim_rounds.specs.Start.{IsBeforeStart}
use Rattle.fk_sim_rounds.specs.Unite.{AreInRoot}
use Rattle.fk_sim_rounds.specs.Beside.{AreInOrder, IsBeside}
use Rattle.fk_sim_rounds.specs.Homes.{AllHome}

-- Jumps lead all processors to one index.
abbrev pub AllLandAt : List CoreOp → (i : ℕ) → List (Runner Position) → Type 0
AllLandAt core i [] = Unit {0}
AllLandAt core i (r ∷ rs) = (landing core r.left.at ≡ i) × AllLandAt core i rs

-- A hart is to commit one operation within the number of cycles between leaving and the common
-- commit.
abbrev pub IsNearBegin : Stage → Type 0
IsNearBegin (Acts d inner) = (d < most_united) × (inner ≡ 0)
IsNearBegin s = ⊥

abbrev pub AreNearBegin : List Stage → Type 0
AreNearBegin [] = Unit {0}
AreNearBegin (s ∷ stages) = IsNearBegin s × AreNearBegin stages

-- All processors of a state are about to begin the group of `start`, in the root. Their harts are
-- in lockstep there, near their commit.
pub record IsUnited (core : List CoreOp) (image : Image) (places : Places)
    (nestings : Nestings) (setting : Setting) (spaces : ℕ → Space) (s : State Position)
    (nodes : List ℕ) (t : MachineSetting) (printed : List ℕ) (stages : List Stage) (hs : List Hart)
    (sh : Shared) : Type 0 where
  pub ps : List Owner
  pub shared : Commons
  pub before : IsBeforeStart image setting s.tree spaces nodes t hs ps
  pub landed : AllLanded core ps
  pub i : ℕ
  pub op : CoreOp
  pub stands : OpAt core i op Begin
  pub about : AllAbout i op Begin ps
  pub order : AreInOrder 0 s.runners
  pub beside : IsBeside core setting s ps shared
  pub near : AreNearBegin stages
  pub roots : AreInRoot nestings setting ps
  pub homes : AllHome s.tree spaces 0 ps
  pub shows : Shows (core_source core setting) printed sh shared
  pub bound : IsBound (core_source core setting) image (united (plan_of s.tree spaces nodes))
      (blocks_of core image places nestings setting (united (plan_of s.tree spaces nodes))
      (first_of spaces)) t stages hs ps (λ g. sh.control)
