-- Machines of an image that has the law of blocks of groups follow core runs with groups.
use Rattle.std.specs.Prelude.{◌≡◌, ℕ, zero, suc, ◌≤◌, List, [], ◌∷◌, ◌++◌, Bool, true, false}
use Rattle.std.specs.Prelude.{Option, None, ◌⊎◌}
use Rattle.fk_num.specs.Word.{Memory}
use Rattle.fk_space.specs.Space.{Space}
use Rattle.fk_tree.specs.Tree.{Tree}
use Rattle.fk_meaning.specs.Processor.{Setting, setting_of, group_space}
use Rattle.fk_meaning.specs.Round.{State, result, is_possible}
use Rattle.fk_meaning.specs.Schedule.{Schedule, run, IsLawful}
use Rattle.fk_lockstep_tree.specs.Ranges.{ranges_of}
use Rattle.fk_lockstep_tree.specs.Runs.{AreSingle}
use Rattle.fk_core.specs.declared.op.CoreOp.{CoreOp}
use Rattle.fk_core.specs.Next.{Position, next, list_opening}
use Rattle.fk_image.specs.declared.Image.{Image}
use Rattle.fk_machine.specs.Cycle.{Machine, is_running, cycle}
use Rattle.fk_sim_match.specs.Stage.{Stage, counts_for, AllDoOne}
use Rattle.fk_sim_match.specs.Plan.{Plan}
use Rattle.fk_sim_block.specs.Owner.{Doing}
use Rattle.fk_sim_block.specs.Stands.{Places}
use Rattle.fk_sim_block.specs.Node.{Nestings, IsAtRest}
use Rattle.fk_sim_block.specs.Law.{Cycles, GroupLaw}
use Rattle.fk_sim_match.specs.Nodes.{first_of, plan_of, united}
use Rattle.fk_sim_rounds.specs.Next.{JumpsLead, HasRange}
use Rattle.fk_sim_rounds.specs.After.{owners_after, GroupsGoOn}
use Rattle.fk_sim_rounds.specs.Rounds.{IsTree, IsKnownRound}
use Rattle.fk_sim_rounds.specs.Homes.{AllNext, PartsAreTold}
use Rattle.fk_sim_rounds.specs.RestInRuns.{IsReadyForGroup}
use Rattle.fk_sim_rounds.specs.Union.{AllLandAt}
use Rattle.fk_sim_rounds.specs.Machines.{GoesWith, GoesToStart, GoesOn, Unites, Starts}
use Rattle.fk_sim_rounds.specs.Transport.{HaveSameSpaces}
use Rattle.fk_sim_rounds.specs.Follows.{Follows}
use Rattle.fk_sim_runs.specs.Facts.{ranges_over}
use Rattle.fk_sim_runs.specs.Opening.{OpensWith}
use Rattle.fk_sim_runs.specs.Pace.{AreInTime, Sight, Turns}
use Rattle.fk_sim_runs.specs.Able.{WhoWaitsResumes}

-- The plan that binds harts: the plan of the state's tree, or, where all have met at the beginning
-- of `start`, the plan with the root in lockstep.
abbrev pub plan_in : (uniting : Bool) → Plan → Plan
plan_in false plan = plan
plan_in true plan = united plan

abbrev pub sight_in : (uniting : Bool) → Tree → (spaces : ℕ → Space) → (nodes : List ℕ) → List Stage
    → (control : Memory) → (finished : ℕ) → Sight
sight_in uniting tree spaces nodes stages control finished =
    record {
      plan = plan_in uniting (plan_of tree spaces nodes);
      stages = stages;
      control = control;
      finished = finished;
    }

module _ (core : List CoreOp) (image : Image) (places : Places) (nestings : Nestings)
    (setting : Setting) (spaces : ℕ → Space) where
  -- A machine follows a state, or has all processors in lockstep at the beginning of `start`.
  abbrev pub GoesBeside : (uniting : Bool) → State Position → (nodes : List ℕ) → (printed : List ℕ)
      → List Stage → Machine → Type 0
  GoesBeside false s nodes printed stages m =
      GoesWith core image places nestings setting spaces s nodes printed stages m
  GoesBeside true s nodes printed stages m =
      GoesToStart core image places nestings setting spaces s nodes printed stages m

  -- A machine that follows a state may go further: all its harts are in time, and nobody is at the
  -- words of the group to come.
  pub record StandsBeside (uniting : Bool) (s : State Position) (nodes : List ℕ) (printed : List ℕ)
      (stages : List Stage) (m : Machine) : Type 0 where
    pub goes : GoesBeside uniting s nodes printed stages m
    pub in_time : AreInTime stages
    pub ready : IsReadyForGroup s.tree (group_space setting).low m.shared.control

  -- The machine's cycle is a possible round.
  abbrev pub IsRound : (uniting : Bool) → State Position → (nodes : List ℕ) → (printed : List ℕ)
      → List Stage → Machine → Type 0
  IsRound false s nodes printed stages m =
      GoesOn core image places nestings setting spaces s nodes printed stages m
      ⊎ Unites core image places nestings setting spaces s nodes printed stages m
  IsRound true s nodes printed stages m =
      Starts core image places nestings setting spaces s nodes printed stages m

  -- After the cycle the machine follows the state after the round, may go further again, and those
  -- who meet have moved.
  pub record GoesFurther (uniting : Bool) (s : State Position) (nodes : List ℕ) (printed : List ℕ)
      (stages : List Stage) (m : Machine) : Type 0 where
    pub uniting' : Bool
    pub nodes' : List ℕ
    pub stages' : List Stage
    pub stands : StandsBeside uniting' (result (next core) setting (counts_for stages) s) nodes'
        (printed ++ (cycle m).shared.output) stages' (cycle m)
    pub turns : Turns (sight_in uniting s.tree spaces nodes stages m.shared.control m.begun)
        (sight_in uniting' (result (next core) setting (counts_for stages) s).tree spaces nodes'
        stages' (cycle m).shared.control (cycle m).begun)

-- The words of the nodes in a cycle of a machine beside a state.
abbrev pub spaces_in_cycle : List CoreOp → Setting → State Position → List Stage → ℕ → Space
spaces_in_cycle core setting s stages =
    ranges_over setting s (result (next core) setting (counts_for stages) s)

-- In the run from a state, after any lawful schedule of a machine's rounds, each cycle goes further
-- whose round is possible and keeps the schedule lawful, and nodes that stay have the same words
-- after it; and a processor that waits for parts is to go on after them.
pub record AlwaysGoesFurther (core : List CoreOp) (image : Image) (places : Places)
    (nestings : Nestings) (setting : Setting) (first : State Position) : Type 0 where
  pub waits : (schedule : Schedule) → IsLawful (next core) setting schedule first
      → AreSingle schedule → (run (next core) setting schedule first).fault ≡ None
      → WhoWaitsResumes core (run (next core) setting schedule first)
  pub further : (schedule : Schedule) (uniting : Bool) (nodes : List ℕ) (printed : List ℕ)
      (stages : List Stage) (m : Machine)
      → let s = run (next core) setting schedule first in
      let spaces = spaces_in_cycle core setting s stages in
      IsLawful (next core) setting schedule first → AreSingle schedule
      → StandsBeside core image places nestings setting spaces uniting s nodes printed stages m
      → is_running m.stand ≡ true
      → IsRound core image places nestings setting spaces uniting s nodes printed stages m
      → IsLawful (next core) setting (schedule ++ counts_for stages ∷ []) first
      → GoesFurther core image places nestings setting spaces uniting s nodes printed stages m
  pub stay : (schedule : Schedule) (stages : List Stage)
      → let s = run (next core) setting schedule first in
      let behind = result (next core) setting (counts_for stages) s in
      IsLawful (next core) setting schedule first → AreSingle schedule → AllDoOne stages
      → is_possible (next core) setting (counts_for stages) s ≡ true
      → IsLawful (next core) setting (schedule ++ counts_for stages ∷ []) first
      → HaveSameSpaces behind.tree (spaces_in_cycle core setting s stages) (ranges_of behind)

-- A machine with p harts follows the run, for every input and every number of cycles, if each cycle
-- goes further.
abbrev pub MachinesFollowGroupRuns : Type 0
MachinesFollowGroupRuns =
    (core : List CoreOp) (image : Image) (places : Places) (nestings : Nestings) (cycles : Cycles)
    (firsts : List ℕ) (main : ℕ) (input : List ℕ) (p n : ℕ)
    → let first = list_opening main image.globals.items firsts input p in
    GroupLaw core image places nestings cycles firsts main → JumpsLead core → p ≤ 1024
    → OpensWith core image places nestings (ranges_of first) firsts main input p
    → AlwaysGoesFurther core image places nestings (setting_of p image.globals.items input) first
    → Follows (next core) image input p n first

-- ---- what is to be known of the run

-- The nodes of `count` processors, from a number on.
abbrev pub places_in : Tree → (number count : ℕ) → List ℕ
places_in tree number zero = []
places_in tree number (suc n) = tree.places number ∷ places_in tree (suc number) n

module _ (core : List CoreOp) (nestings : Nestings) (setting : Setting) (spaces : ℕ → Space)
    (s : State Position) (stages : List Stage) (m : Machine) where
  abbrev pub tree_behind : Tree
  tree_behind = (result (next core) setting (counts_for stages) s).tree

  -- After the round of a cycle the tree is sound, and its nodes own words apart: who enters a part
  -- has those of its node. All processors go on, and groups too, and nobody is at the words of the
  -- group to come.
  pub record IsBehind (did : List Doing) (afters : List (Option Stage)) : Type 0 where
    pub tree : IsTree setting tree_behind spaces
    pub parts : PartsAreTold tree_behind spaces 0 did (owners_after s.tree tree_behind did)
    pub ahead : AllNext core nestings setting tree_behind 0 afters did
        (owners_after s.tree tree_behind did)
    pub groups : GroupsGoOn core nestings tree_behind
        (places_in tree_behind 0 setting.processors) afters (owners_after s.tree tree_behind did)
    pub ready : IsReadyForGroup tree_behind (group_space setting).low (cycle m).shared.control

-- A machine goes further after a known round, if `IsBehind` holds after it.
abbrev pub OrderlyRoundsGoFurther : Type 0
OrderlyRoundsGoFurther =
    (core : List CoreOp) (image : Image) (places : Places) (nestings : Nestings) (setting : Setting)
    (spaces : ℕ → Space) (s : State Position) (nodes : List ℕ) (printed : List ℕ)
    (stages : List Stage) (m : Machine)
    (r : GoesOn core image places nestings setting spaces s nodes printed stages m)
    → is_running m.stand ≡ true
    → GoesWith core image places nestings setting spaces s nodes printed stages m → AreInTime stages
    → IsKnownRound s.tree r.did → IsBehind core nestings setting spaces s stages m r.did r.afters
    → GoesFurther core image places nestings setting spaces false s nodes printed stages m

-- A machine in which all have met at the beginning of `start` goes further, if jumps lead all
-- processors to one index.
abbrev pub UnionsGoFurther : Type 0
UnionsGoFurther =
    (core : List CoreOp) (image : Image) (places : Places) (nestings : Nestings) (setting : Setting)
    (spaces : ℕ → Space) (s : State Position) (nodes : List ℕ) (printed : List ℕ)
    (stages : List Stage) (m : Machine) (i : ℕ)
    → Unites core image places nestings setting spaces s nodes printed stages m
    → is_running m.stand ≡ true
    → GoesWith core image places nestings setting spaces s nodes printed stages m
    → setting.processors ≤ 1024
    → AllLandAt core i s.runners
    → IsReadyForGroup (tree_behind core nestings setting spaces s stages m)
    (group_space setting).low (cycle m).shared.control
    → GoesFurther core image places nestings setting spaces false s nodes printed stages m

-- A machine goes further from there to where the group begins, if that has the whole group space.
abbrev pub StartsGoFurther : Type 0
StartsGoFurther =
    (core : List CoreOp) (image : Image) (places : Places) (nestings : Nestings) (setting : Setting)
    (spaces : ℕ → Space) (s : State Position) (nodes : List ℕ) (printed : List ℕ)
    (stages : List Stage) (m : Machine)
    (r : Starts core image places nestings setting spaces s nodes printed stages m)
    → is_running m.stand ≡ true
    → GoesToStart core image places nestings setting spaces s nodes printed stages m
    → setting.processors ≤ 1024
    → IsBehind core nestings setting spaces s stages m r.did r.afters
    → IsAtRest (first_of spaces s.tree.given) (cycle m).shared.control
    → HasRange (spaces s.tree.given) (group_space setting)
    → GoesFurther core image places nestings setting spaces true s nodes printed stages m
