-- A machine follows a core run with groups, cycle by cycle.
use Rattle.std.specs.Prelude.{◌≡◌, ℕ, suc, ◌^◌, ◌<◌, List, ◌++◌, length, true, cond, Option, ◌⊎◌}
use Rattle.fk_space.specs.Space.{Space}
use Rattle.fk_meaning.specs.Processor.{Setting, group_space}
use Rattle.fk_meaning.specs.Round.{State, cut, result, is_possible, IsStopped}
use Rattle.fk_meaning.specs.Schedule.{all_done}
use Rattle.fk_core.specs.declared.op.CoreOp.{CoreOp}
use Rattle.fk_core.specs.Next.{Position, next}
use Rattle.fk_image.specs.declared.Image.{Image}
use Rattle.fk_machine.specs.declared.stand.Stand.TheVariants.{Running, Finished, Faulted}
use Rattle.fk_machine.specs.Cycle.{Machine, setting_of, unprinted, is_running, cycle}
use Rattle.fk_machine.specs.Run.{round_of}
use Rattle.fk_sim_match.specs.Stage.{Stage, AllNear, counts_for}
use Rattle.fk_sim_match.specs.Cycle.{AllHaveCommitted}
use Rattle.fk_sim_block.specs.Owner.{Doing}
use Rattle.fk_sim_block.specs.Stands.{Places}
use Rattle.fk_sim_block.specs.Node.{Nestings, IsAtRest}
use Rattle.fk_sim_block.specs.Law.{Cycles, GroupLaw}
use Rattle.fk_sim_match.specs.Nodes.{first_of, plan_of}
use Rattle.fk_sim_match.specs.Uniting.{NobodyUnites}
use Rattle.fk_sim_rounds.specs.Next.{JumpsLead, all_landed, HasRange}
use Rattle.fk_sim_rounds.specs.After.{owners_after, ArePlaces, GroupsGoOn, AllSoon}
use Rattle.fk_sim_rounds.specs.Rounds.{IsTree, IsKnownRound, PlanGoesOn}
use Rattle.fk_sim_rounds.specs.Unite.{AllUnite}
use Rattle.fk_sim_rounds.specs.Homes.{AllNext, PartsAreTold}
use Rattle.fk_sim_rounds.specs.Results.{Makes}
use Rattle.fk_sim_rounds.specs.Union.{AllLandAt, IsUnited}
use Rattle.fk_sim_rounds.specs.Follow.{IsFollowed}

module _ (core : List CoreOp) (image : Image) (places : Places) (nestings : Nestings)
    (setting : Setting) (spaces : ℕ → Space) where
  -- A machine that has printed these bytes follows a state, and has finished exactly where that
  -- has.
  pub record GoesWith (s : State Position) (nodes : List ℕ) (printed : List ℕ) (stages : List Stage)
      (m : Machine) : Type 0 where
    pub followed : IsFollowed core image places nestings setting spaces s nodes
        (setting_of m) printed stages m.harts (unprinted m.shared)
    pub stand : m.stand ≡ cond (all_done (next core) setting s.runners) Finished Running

  -- A machine follows a state whose processors are in lockstep at the beginning of `start`.
  pub record GoesToStart (s : State Position) (nodes : List ℕ) (printed : List ℕ)
      (stages : List Stage) (m : Machine) : Type 0 where
    pub followed : IsUnited core image places nestings setting spaces s nodes
        (setting_of m) printed stages m.harts (unprinted m.shared)
    pub stand : m.stand ≡ Running

  module _ (s : State Position) (nodes : List ℕ) (printed : List ℕ) (stages : List Stage)
      (m : Machine) where
    abbrev pub next_state : State Position
    next_state = result (next core) setting (counts_for stages) s

    -- The round of the machine's cycle is possible. If it is a known round, and its processors go
    -- on, the machine follows the state after it.
    pub record GoesOn : Type 0 where
      pub round : round_of image m ≡ counts_for stages
      pub possible : is_possible (next core) setting (round_of image m) s ≡ true
      pub nobody : NobodyUnites stages
      pub did : List Doing
      pub afters : List (Option Stage)
      pub makes : Makes core setting stages s did afters
      pub again : (nodes' : List ℕ) → IsKnownRound s.tree did
          → IsTree setting next_state.tree spaces → ArePlaces next_state.tree 0 nodes'
          → length nodes' ≡ length nodes
          → PartsAreTold next_state.tree spaces 0 did (owners_after s.tree next_state.tree did)
          → AllNext core nestings setting next_state.tree 0 afters did
          (owners_after s.tree next_state.tree did) → GroupsGoOn core nestings next_state.tree
          nodes' afters (owners_after s.tree next_state.tree did)
          → (stages' : List Stage) × AllNear stages stages' × AllSoon afters stages'
          × GoesWith next_state nodes' (printed ++ (cycle m).shared.output) stages' (cycle m)
          × PlanGoesOn core image places nestings setting spaces (plan_of s.tree spaces nodes)
          (plan_of next_state.tree spaces nodes')
          (setting_of m) stages stages' (cycle m).harts afters makes.ps
          (all_landed core (owners_after s.tree next_state.tree did)) (λ g. m.shared.control)
          (cycle m).shared.control

    -- The round is a stopped one, whose fault ends the machine.
    pub record StopsWith : Type 0 where
      pub site : ℕ
      pub place : ℕ
      pub stand : (cycle m).stand ≡ Faulted site place
      pub round : round_of image m ≡ cut (suc place) (counts_for stages)
      pub stopped : IsStopped (next core) setting (round_of image m) s

    -- Nobody is in the round, because all processors have met at the beginning of `start`. If jumps
    -- lead all of them to one index, the machine follows a state in which they are in lockstep.
    pub record Unites : Type 0 where
      pub round : round_of image m ≡ counts_for stages
      pub possible : is_possible (next core) setting (round_of image m) s ≡ true
      pub all : AllUnite stages
      pub again : (i : ℕ) → AllLandAt core i s.runners
          → (stages' : List Stage) × AllNear stages stages'
          × GoesToStart next_state nodes (printed ++ (cycle m).shared.output) stages' (cycle m)

    -- A cycle from a state whose processors are in lockstep at the beginning of `start`. Either
    -- nobody is in its round, and all are nearer to their commit; or all commit, and the group
    -- begins. The machine follows the state after that, if nobody is at the group's words, the
    -- group has the whole group space, and all processors go on.
    pub record Starts : Type 0 where
      pub round : round_of image m ≡ counts_for stages
      pub possible : is_possible (next core) setting (round_of image m) s ≡ true
      pub did : List Doing
      pub afters : List (Option Stage)
      pub makes : Makes core setting stages s did afters
      pub goes : ((stages' : List Stage) × AllNear stages stages'
          × GoesToStart next_state nodes (printed ++ (cycle m).shared.output) stages' (cycle m))
          ⊎ (AllHaveCommitted afters × ((nodes' : List ℕ) → IsTree setting next_state.tree spaces
          → ArePlaces next_state.tree 0 nodes' → length nodes' ≡ length nodes
          → IsAtRest (first_of spaces s.tree.given) (cycle m).shared.control
          → HasRange (spaces s.tree.given) (group_space setting)
          → AllNext core nestings setting next_state.tree 0 afters did
          (owners_after s.tree next_state.tree did) → GroupsGoOn core nestings next_state.tree
          nodes' afters (owners_after s.tree next_state.tree did)
          → (stages' : List Stage) × AllNear stages stages' × AllSoon afters stages'
          × GoesWith next_state nodes' (printed ++ (cycle m).shared.output) stages' (cycle m)))

abbrev pub MachinesFollowRounds : Type 0
MachinesFollowRounds =
    (core : List CoreOp) (image : Image) (places : Places) (nestings : Nestings) (cycles : Cycles)
    (firsts : List ℕ) (main : ℕ) (setting : Setting) (spaces : ℕ → Space)
    (s : State Position) (nodes : List ℕ) (printed : List ℕ) (stages : List Stage) (m : Machine)
    → GroupLaw core image places nestings cycles firsts main → JumpsLead core
    → length m.harts < 2 ^ 31 → is_running m.stand ≡ true
    → GoesWith core image places nestings setting spaces s nodes printed stages m
    → GoesOn core image places nestings setting spaces s nodes printed stages m
    ⊎ (StopsWith core image places nestings setting spaces s nodes printed stages m
    ⊎ Unites core image places nestings setting spaces s nodes printed stages m)

-- A machine at the beginning of `start` comes to the beginning of the group, or stops with a fault.
abbrev pub MachinesFollowStarts : Type 0
MachinesFollowStarts =
    (core : List CoreOp) (image : Image) (places : Places) (nestings : Nestings) (cycles : Cycles)
    (firsts : List ℕ) (main : ℕ) (setting : Setting) (spaces : ℕ → Space)
    (s : State Position) (nodes : List ℕ) (printed : List ℕ) (stages : List Stage) (m : Machine)
    → GroupLaw core image places nestings cycles firsts main → JumpsLead core
    → length m.harts < 2 ^ 31 → is_running m.stand ≡ true
    → GoesToStart core image places nestings setting spaces s nodes printed stages m
    → Starts core image places nestings setting spaces s nodes printed stages m
    ⊎ StopsWith core image places nestings setting spaces s nodes printed stages m
