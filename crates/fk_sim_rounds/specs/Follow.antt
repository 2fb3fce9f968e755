-- A machine follows a core run with groups, from one cycle to the next.
use Rattle.std.specs.Prelude.{◌≡◌, ℕ, suc, ◌^◌, ◌<◌, List, ◌++◌, length, true, Option, Some, None}
use Rattle.std.specs.Prelude.{◌⊎◌}
use Rattle.fk_space.specs.Space.{Space}
use Rattle.fk_meaning.specs.Processor.{Setting}
use Rattle.fk_meaning.specs.Round.{State, cut, result, is_possible, IsStopped}
use Rattle.fk_meaning.specs.Schedule.{all_done}
use Rattle.fk_core.specs.declared.op.CoreOp.{CoreOp}
use Rattle.fk_core.specs.Next.{Position, next}
use Rattle.fk_image.specs.declared.Image.{Image}
use Rattle.fk_machine.specs.declared.stand.Stand.TheVariants.{Faulted}
use Rattle.fk_machine.specs.Hart.{Hart, Shared, Setting as MachineSetting}
use Rattle.fk_machine.specs.Cycle.{all_ended, Turns, turns, unprinted}
use Rattle.fk_sim_nodes.specs.Source.{Shows}
use Rattle.fk_sim_nodes.specs.Alone.{later}
use Rattle.fk_sim_nodes.specs.Whole.{planned, counted}
use Rattle.fk_sim_match.specs.Stage.{Stage, AllNear, counts_for}
use Rattle.fk_sim_match.specs.Plan.{IsBound}
use Rattle.fk_sim_block.specs.Owner.{Commons, Owner, Doing, core_source}
use Rattle.fk_sim_block.specs.Stands.{Places}
use Rattle.fk_sim_block.specs.Node.{Nestings}
use Rattle.fk_sim_block.specs.Law.{Cycles, GroupLaw}
use Rattle.fk_sim_match.specs.Nodes.{first_of, plan_of}
use Rattle.fk_sim_match.specs.Behind.{blocks_of}
use Rattle.fk_sim_match.specs.Uniting.{NobodyUnites}
use Rattle.fk_sim_rounds.specs.Next.{JumpsLead, all_landed}
use Rattle.fk_sim_rounds.specs.After.{tree_after, owners_after, ArePlaces, GroupsGoOn, AllSoon}
use Rattle.fk_sim_rounds.specs.Rounds.{IsBefore, IsTree, IsKnownRound, PlanGoesOn}
use Rattle.fk_sim_rounds.specs.Unite.{AllUnite}
use Rattle.fk_sim_rounds.specs.Beside.{AreInOrder, IsBeside}
use Rattle.fk_sim_rounds.specs.Homes.{AllHome, AllNext, PartsAreTold}
use Rattle.fk_sim_rounds.specs.Results.{Makes, IsFault}
use Rattle.fk_sim_rounds.specs.Union.{AllLandAt, IsUnited}

module _ (core : List CoreOp) (image : Image) (places : Places) (nestings : Nestings)
    (setting : Setting) (spaces : ℕ → Space) where
  -- A machine follows a state of a run that goes on. The state matches the processors of the harts.
  -- The plan of its tree binds all harts, and each processor has of its group what the tree has.
  -- What the harts share shows the state's store, with these bytes printed so far.
  pub record IsFollowed (s : State Position) (nodes : List ℕ) (t : MachineSetting)
      (printed : List ℕ) (stages : List Stage) (hs : List Hart) (sh : Shared) : Type 0 where
    pub ps : List Owner
    pub shared : Commons
    pub before : IsBefore core image setting s.tree spaces nodes t stages hs ps
    pub order : AreInOrder 0 s.runners
    pub beside : IsBeside core setting s ps shared
    pub homes : AllHome s.tree spaces 0 ps
    pub shows : Shows (core_source core setting) printed sh shared
    pub bound : IsBound (core_source core setting) image (plan_of s.tree spaces nodes)
        (blocks_of core image places nestings setting (plan_of s.tree spaces nodes)
        (first_of spaces)) t stages hs ps (λ g. sh.control)

  module _ (s : State Position) (nodes : List ℕ) (t : MachineSetting) (printed : List ℕ)
      (stages : List Stage) (hs : List Hart) (sh : Shared) where
    abbrev pub done : Turns
    done = turns t 0 hs sh

    -- The state after the round of those whose stages commit.
    abbrev pub next_state : State Position
    next_state = result (next core) setting (counts_for stages) s

    -- The cycle is that round, which is possible. If it is a known round, and its processors go on,
    -- the machine follows the state after it.
    pub record FollowsRound : Type 0 where
      pub going : done.stop ≡ None
      pub counts : counted image done ≡ counts_for stages
      pub possible : is_possible (next core) setting (counts_for stages) s ≡ true
      pub nobody : NobodyUnites stages
      pub did : List Doing
      pub tree : next_state.tree ≡ tree_after s.tree did
      pub afters : List (Option Stage)
      pub makes : Makes core setting stages s did afters
      pub again : (nodes' : List ℕ) → IsKnownRound s.tree did
          → IsTree setting next_state.tree spaces → ArePlaces next_state.tree 0 nodes'
          → length nodes' ≡ length nodes
          → PartsAreTold next_state.tree spaces 0 did (owners_after s.tree next_state.tree did)
          → AllNext core nestings setting next_state.tree 0 afters did
          (owners_after s.tree next_state.tree did) → GroupsGoOn core nestings next_state.tree
          nodes' afters (owners_after s.tree next_state.tree did)
          → (stages' : List Stage) × AllNear stages stages' × AllSoon afters stages'
          × IsFollowed next_state nodes' (later t)
          (printed ++ done.shared.output) stages' done.harts (unprinted done.shared)
          × PlanGoesOn core image places nestings setting spaces (plan_of s.tree spaces nodes)
          (plan_of next_state.tree spaces nodes') t stages stages' done.harts afters makes.ps
          (all_landed core (owners_after s.tree next_state.tree did))
          (λ g. sh.control) done.shared.control

    -- The cycle is a stopped round.
    pub record FollowsFault : Type 0 where
      pub site : ℕ
      pub place : ℕ
      pub stops : done.stop ≡ Some (Faulted site place)
      pub counts : counted image done ≡ cut (suc place) (counts_for stages)
      pub stopped : IsStopped (next core) setting (cut (suc place) (counts_for stages)) s
      pub shared : Commons
      pub shows : Shows (core_source core setting) printed done.shared shared
      pub fault : IsFault core setting stages s place site shared

    -- Nobody is in the round, because all processors have met at the beginning of `start`. If jumps
    -- lead all of them to one index, they are in lockstep in the state after it.
    pub record FollowsUnion : Type 0 where
      pub going : done.stop ≡ None
      pub counts : counted image done ≡ counts_for stages
      pub possible : is_possible (next core) setting (counts_for stages) s ≡ true
      pub all : AllUnite stages
      pub again : (i : ℕ) → AllLandAt core i s.runners
          → (stages' : List Stage) × AllNear stages stages'
          × IsUnited core image places nestings setting spaces next_state nodes (later t)
          (printed ++ done.shared.output) stages' done.harts (unprinted done.shared)

abbrev pub CyclesFollowRounds : Type 0
CyclesFollowRounds =
    (core : List CoreOp) (image : Image) (places : Places) (nestings : Nestings) (cycles : Cycles)
    (firsts : List ℕ) (main : ℕ) (setting : Setting) (spaces : ℕ → Space)
    (s : State Position) (nodes : List ℕ) (t : MachineSetting) (printed : List ℕ)
    (stages : List Stage) (hs : List Hart) (sh : Shared)
    → GroupLaw core image places nestings cycles firsts main → JumpsLead core → length hs < 2 ^ 31
    → IsFollowed core image places nestings setting spaces s nodes t printed stages hs sh
    → (planned image hs ≡ counts_for stages)
    × (FollowsRound core image places nestings setting spaces s nodes t printed stages hs sh
    ⊎ (FollowsFault core image places nestings setting spaces s nodes t printed stages hs sh
    ⊎ FollowsUnion core image places nestings setting spaces s nodes t printed stages hs sh))

-- All harts have ended exactly where all processors of the state have nothing left to do.
abbrev pub HartsEndWithProcessors : Type 0
HartsEndWithProcessors =
    (core : List CoreOp) (image : Image) (places : Places) (nestings : Nestings) (setting : Setting)
    (spaces : ℕ → Space) (s : State Position) (nodes : List ℕ) (t : MachineSetting)
    (printed : List ℕ)
    (stages : List Stage) (hs : List Hart) (sh : Shared)
    → JumpsLead core
    → IsFollowed core image places nestings setting spaces s nodes t printed stages hs sh
    → all_ended hs ≡ all_done (next core) setting s.runners
