-- The cycles from where all processors have met at the beginning of `start` to the round in which
-- the group begins.
use Rattle.std.specs.Prelude.{◌≡◌, ℕ, ◌^◌, ◌<◌, List, ◌++◌, length, true, Option, None, ◌⊎◌}
use Rattle.fk_space.specs.Space.{Space}
use Rattle.fk_meaning.specs.Processor.{Setting, group_space}
use Rattle.fk_meaning.specs.Round.{State, result, is_possible}
use Rattle.fk_core.specs.declared.op.CoreOp.{CoreOp}
use Rattle.fk_core.specs.Next.{Position, next}
use Rattle.fk_image.specs.declared.Image.{Image}
use Rattle.fk_machine.specs.Hart.{Hart, Shared, Setting as MachineSetting}
use Rattle.fk_machine.specs.Cycle.{Turns, turns, unprinted}
use Rattle.fk_sim_nodes.specs.Alone.{later}
use Rattle.fk_sim_nodes.specs.Whole.{planned, counted}
use Rattle.fk_sim_match.specs.Stage.{Stage, AllNear, counts_for}
use Rattle.fk_sim_match.specs.Cycle.{AllHaveCommitted}
use Rattle.fk_sim_block.specs.Owner.{Doing}
use Rattle.fk_sim_block.specs.Stands.{Places}
use Rattle.fk_sim_block.specs.Node.{Nestings, IsAtRest}
use Rattle.fk_sim_block.specs.Law.{Cycles, GroupLaw}
use Rattle.fk_sim_match.specs.Nodes.{first_of}
use Rattle.fk_sim_rounds.specs.Next.{JumpsLead, HasRange}
use Rattle.fk_sim_rounds.specs.After.{tree_after, owners_after, ArePlaces, GroupsGoOn, AllSoon}
use Rattle.fk_sim_rounds.specs.Rounds.{IsTree}
use Rattle.fk_sim_rounds.specs.Homes.{AllNext}
use Rattle.fk_sim_rounds.specs.Results.{Makes}
use Rattle.fk_sim_rounds.specs.Union.{IsUnited}
use Rattle.fk_sim_rounds.specs.Follow.{IsFollowed, FollowsFault}

module _ (core : List CoreOp) (image : Image) (places : Places) (nestings : Nestings)
    (setting : Setting) (spaces : ℕ → Space) (s : State Position) (nodes : List ℕ)
    (t : MachineSetting) (printed : List ℕ)
    (stages : List Stage) (hs : List Hart) (sh : Shared) where
  abbrev pub done : Turns
  done = turns t 0 hs sh

  abbrev pub next_state : State Position
  next_state = result (next core) setting (counts_for stages) s

  -- Nobody is in the round, and all are nearer to their commit.
  abbrev pub StillUnited : Type 0
  StillUnited =
      (stages' : List Stage) × AllNear stages stages'
      × IsUnited core image places nestings setting spaces next_state nodes (later t)
      (printed ++ done.shared.output) stages' done.harts (unprinted done.shared)

  -- All commit in the round. Where nobody is at the words of the group, which has the whole group
  -- space, and all go on, the machine follows the state after the round.
  abbrev pub BeginGroup : (did : List Doing) → (afters : List (Option Stage)) → Type 0
  BeginGroup did afters =
      (nodes' : List ℕ) → IsTree setting next_state.tree spaces → ArePlaces next_state.tree 0 nodes'
      → length nodes' ≡ length nodes
      → IsAtRest (first_of spaces s.tree.given) done.shared.control
      → HasRange (spaces s.tree.given) (group_space setting)
      → AllNext core nestings setting next_state.tree 0 afters did
      (owners_after s.tree next_state.tree did) → GroupsGoOn core nestings next_state.tree nodes'
      afters (owners_after s.tree next_state.tree did)
      → (stages' : List Stage) × AllNear stages stages' × AllSoon afters stages'
      × IsFollowed core image places nestings setting spaces next_state nodes' (later t)
      (printed ++ done.shared.output) stages' done.harts (unprinted done.shared)

  pub record FollowsStart : Type 0 where
    pub going : done.stop ≡ None
    pub counts : counted image done ≡ counts_for stages
    pub possible : is_possible (next core) setting (counts_for stages) s ≡ true
    pub did : List Doing
    pub tree : next_state.tree ≡ tree_after s.tree did
    pub afters : List (Option Stage)
    pub makes : Makes core setting stages s did afters
    pub goes : StillUnited ⊎ (AllHaveCommitted afters × BeginGroup did afters)

abbrev pub CyclesFollowStarts : Type 0
CyclesFollowStarts =
    (core : List CoreOp) (image : Image) (places : Places) (nestings : Nestings) (cycles : Cycles)
    (firsts : List ℕ) (main : ℕ) (setting : Setting) (spaces : ℕ → Space)
    (s : State Position) (nodes : List ℕ) (t : MachineSetting) (printed : List ℕ)
    (stages : List Stage) (hs : List Hart) (sh : Shared)
    → GroupLaw core image places nestings cycles firsts main → JumpsLead core → length hs < 2 ^ 31
    → IsUnited core image places nestings setting spaces s nodes t printed stages hs sh
    → (planned image hs ≡ counts_for stages)
    × (FollowsStart core image places nestings setting spaces s nodes t printed stages hs sh
    ⊎ FollowsFault core image places nestings setting spaces s nodes t printed stages hs sh)
