-- What is known behind a round of a machine, in the state that it leaves, as laws of machines that
-- follow it ask it.
use Rattle.std.specs.Prelude.{◌≡◌, ◌≢◌, ℕ, ◌≤◌, List, [], ◌∷◌, ◌++◌, length, true, Option}
use Rattle.std.specs.Prelude.{None}
use Rattle.fk_space.specs.Space.{Space}
use Rattle.fk_meaning_operation.specs.declared.operation.Operation.TheVariants.{Begin}
use Rattle.fk_meaning.specs.Processor.{Setting, setting_of}
use Rattle.fk_meaning.specs.Round.{Runner, State, result, is_possible}
use Rattle.fk_meaning.specs.Schedule.{Schedule, run, ArePossible}
use Rattle.fk_core.specs.declared.op.CoreOp.{CoreOp}
use Rattle.fk_core.specs.Next.{Position, next, list_opening}
use Rattle.fk_lockstep_tree.specs.Runs.{AreSingle}
use Rattle.fk_sim_nodes.specs.Source.{AllPass}
use Rattle.fk_sim_match.specs.Stage.{Stage, counts_for, AllDoOne, Pairwise, Remains}
use Rattle.fk_sim_block.specs.Owner.{Commons, Owner, Doing, core_source}
use Rattle.fk_sim_block.specs.Next.{OpAt}
use Rattle.fk_sim_rounds.specs.InRange.{AreGiven}
use Rattle.fk_sim_block.specs.Node.{Nestings}
use Rattle.fk_sim_match.specs.Rounds.{AllDue}
use Rattle.fk_sim_rounds.specs.Next.{JumpsLead, AllAbout}
use Rattle.fk_sim_rounds.specs.After.{owners_after, ArePlaces, GroupsGoOn}
use Rattle.fk_sim_rounds.specs.Rounds.{IsTree, IsKnownRound}
use Rattle.fk_sim_rounds.specs.Beside.{landed_state, AreInOrder, IsBeside}
use Rattle.fk_sim_rounds.specs.Homes.{AllNext, PartsAreTold}
use Rattle.fk_sim_runs.specs.Lists.{IsOfTree}
use Rattle.fk_sim_runs.specs.Reached.{IsReached}
use Rattle.fk_sim_runs.specs.Facts.{ranges_over}

-- A processor that has committed, or has met those with whom it unites, had something left to do.
abbrev pub HadNext : List CoreOp → (afters : List (Option Stage)) → List (Runner Position) → Type 0
HadNext core [] [] = Unit {0}
HadNext core (a ∷ afters) (r ∷ rs) = (a ≡ None → next core r.left ≢ None) × HadNext core afters rs
HadNext core afters rs = ⊥

-- All processors had something left to do, where all are about to begin the group of a `start`.
abbrev pub UnitedHadNext : Type 0
UnitedHadNext =
    (core : List CoreOp) (setting : Setting) (s : State Position) (ps : List Owner)
    (shared : Commons) (i : ℕ) (op : CoreOp) (afters : List (Option Stage))
    → JumpsLead core → IsBeside core setting s ps shared → OpAt core i op Begin
    → AllAbout i op Begin ps → length afters ≡ length s.runners → HadNext core afters s.runners

module _ (core : List CoreOp) (setting : Setting) (s : State Position) (stages : List Stage) where
  abbrev pub behind : State Position
  behind = result (next core) setting (counts_for stages) s

  -- A possible round of those whose stages commit, each of one operation at most, and what the
  -- processors that match the state have done in it.
  pub record IsRoundOf (did : List Doing) : Type 0 where
    pub ps : List Owner
    pub shared : Commons
    pub shared' : Commons
    pub order : AreInOrder 0 s.runners
    pub beside : IsBeside core setting s ps shared
    pub singles : AllDoOne stages
    pub possible : is_possible (next core) setting (counts_for stages) s ≡ true
    pub passes : AllPass (core_source core setting) (counts_for stages) ps shared did shared'

  -- The states before and after the round are reached.
  pub record AreReached (nestings : Nestings) : Type 0 where
    pub before : IsReached core nestings setting s
    pub after : IsReached core nestings setting behind

  -- The words of the nodes in this round.
  abbrev pub spaces_in_round : ℕ → Space
  spaces_in_round = ranges_over setting s behind

  -- The tree after the round is sound, and its nodes own words apart: who enters a part has those
  -- of its node. All processors that have committed go on, and so do groups all of whose members
  -- have committed.
  pub record GoAhead (nestings : Nestings) (did : List Doing)
      (afters : List (Option Stage)) : Type 0 where
    pub tree : IsTree setting behind.tree spaces_in_round
    pub parts : PartsAreTold behind.tree spaces_in_round 0 did
        (owners_after s.tree behind.tree did)
    pub ahead : AllNext core nestings setting behind.tree 0 afters did
        (owners_after s.tree behind.tree did)
    pub groups : (nodes : List ℕ) → ArePlaces behind.tree 0 nodes
        → length nodes ≡ setting.processors
        → GroupsGoOn core nestings behind.tree nodes afters (owners_after s.tree behind.tree did)

-- After a round between reached states the run goes ahead (`GoAhead`). A group all of whose members
-- have come to one index goes on, whether they were in the round or not.
abbrev pub ReachedRoundsGoOn : Type 0
ReachedRoundsGoOn =
    (core : List CoreOp) (nestings : Nestings) (main : ℕ) (setting : Setting) (s : State Position)
    (stages : List Stage) (afters : List (Option Stage)) (did : List Doing)
    → IsOfTree core nestings main → setting.processors ≤ 1024
    → AreReached core setting s stages nestings → IsRoundOf core setting s stages did
    → HadNext core afters s.runners → GoAhead core setting s stages nestings did afters

-- Where each processor is about to do what its stage tells, and stages stay or are over, nobody
-- begins the group of a `start`, and the round is a known one.
abbrev pub ReachedStagesGoOn : Type 0
ReachedStagesGoOn =
    (core : List CoreOp) (nestings : Nestings) (main : ℕ) (setting : Setting) (s : State Position)
    (stages : List Stage) (afters : List (Option Stage)) (did : List Doing)
    (spaces : ℕ → Space) → IsOfTree core nestings main
    → setting.processors ≤ 1024 → AreReached core setting s stages nestings
    → IsRoundOf core setting s stages did → AllDue core s.tree spaces 0 stages
    (landed_state core s).runners → Pairwise Remains stages afters
    → IsKnownRound s.tree did × GoAhead core setting s stages nestings did afters

-- In a run the states before and after its last round are reached.
abbrev pub RunsReachRounds : Type 0
RunsReachRounds =
    (core : List CoreOp) (nestings : Nestings) (main : ℕ) → IsOfTree core nestings main
    → (words firsts input : List ℕ) (p : ℕ) (schedule : Schedule) (stages : List Stage)
    → let setting = setting_of p words input in
    let first = list_opening main words firsts input p in
    let s = run (next core) setting schedule first in
    1 ≤ p → AreGiven words firsts input p
    → ArePossible (next core) setting (schedule ++ counts_for stages ∷ []) first
    → AreSingle schedule → AllDoOne stages
    → is_possible (next core) setting (counts_for stages) s ≡ true
    → IsReached core nestings setting s
    × IsReached core nestings setting (behind core setting s stages)
