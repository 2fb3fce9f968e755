-- Each cycle of a machine beside a state of such a run goes further, so it follows the run.
use Rattle.std.proofs.Common.{◌≡◌, ℕ, ◌≤◌, List, [], ◌∷◌, ◌++◌, Bool, true, false, subst, arith, inl, inr, ⊎_elim}
use Rattle.fk_space.specs.Space.{Space}
use Rattle.fk_meaning.specs.Processor.{Setting}
use Rattle.fk_meaning.specs.Round.{State, result, is_possible}
use Rattle.fk_meaning.specs.Schedule.{Schedule, ArePossible}
use Rattle.fk_core.specs.declared.op.CoreOp.{CoreOp}
use Rattle.fk_core.specs.Next.{Position, next}
use Rattle.fk_lockstep_tree.specs.Runs.{AreSingle}
use Rattle.fk_image.specs.declared.Image.{Image}
use Rattle.fk_machine.specs.Cycle.{Machine, is_running, cycle}
use Rattle.fk_sim_match.specs.Stage.{Stage, counts_for, AllDoOne}
use Rattle.fk_sim_block.specs.Stands.{Places}
use Rattle.fk_sim_rounds.specs.Follows.{IsInput}
use Rattle.fk_sim_block.specs.Node.{Nestings}
use Rattle.fk_sim_block.specs.Law.{Cycles}
use Rattle.fk_sim_match.specs.Rounds.{AllDue}
use Rattle.fk_sim_rounds.specs.After.{runners_of}
use Rattle.fk_sim_rounds.proofs.Groups.{many_length}
use Rattle.fk_sim_rounds.specs.Machines.{GoesWith, GoesToStart, GoesOn, Unites, Starts}
use Rattle.fk_sim_runs.specs.Reached.{RunsReach}
use Rattle.fk_sim_runs.specs.Behind.{IsRoundOf, AreReached, RunsReachRounds}
use Rattle.fk_sim_runs.specs.Ready.{IsReady}
use Rattle.fk_sim_runs.proofs.Begins.{reached_beginners_land_at_one_index, reached_waiters_resume}
use Rattle.fk_sim_runs.proofs.Over.{over_behind}
use Rattle.fk_sim_runs.proofs.Behind.{reached_rounds_go_on}
use Rattle.fk_sim_runs.proofs.ReachedStages.{united_had_next, reached_stages_go_on}
use Rattle.fk_sim_runs.proofs.Ready.{reached_cycles_stay_ready, reached_starts_find_headers}
use Rattle.fk_sim_runs.specs.Pace.{AreInTime}
use Rattle.fk_sim_runs.specs.Runs.{StandsBeside, IsRound, GoesFurther, spaces_in_cycle, AlwaysGoesFurther, places_in, IsBehind}
use Rattle.fk_sim_runs.proofs.Turning.{stay_length}
use Rattle.fk_sim_runs.proofs.Runs.{few_harts, singles_by, stand_in, many_in, machines_follow_group_runs, orderly_rounds_go_further, unions_go_further, starts_go_further}
use Rattle.fk_sim_runs.specs.Follow.{CarriesTrees, MachinesFollowTrees}
use Rattle.fk_sim_runs.proofs.Begin.{all_begin, begins_at}
use Rattle.fk_sim_runs.proofs.Machines as reaching

module _ (runs_reach : RunsReach) (runs_reach_rounds : RunsReachRounds) (core : List CoreOp) (main : ℕ) (firsts : List ℕ) (places : Places) (nestings : Nestings) (cycles : Cycles) (image : Image) (carries : CarriesTrees core main firsts places nestings cycles image)
    (input : List ℕ) (p : ℕ) (is_input : IsInput image input) (some : 1 ≤ p) (few : p ≤ 1024) where
  abbrev setting : Setting
  setting = reaching.setting runs_reach core main firsts places nestings cycles image carries input p is_input some few

  abbrev first : State Position
  first = reaching.first runs_reach core main firsts places nestings cycles image carries input p is_input some few

  abbrev state : Schedule → State Position
  state schedule = reaching.state runs_reach core main firsts places nestings cycles image carries input p is_input some few schedule

  -- ---- one cycle

  module _ (s : State Position) (nodes : List ℕ) (printed : List ℕ) (stages : List Stage) (m : Machine) (are : AreReached core setting s stages nestings) (running : is_running m.stand ≡ true) where
    abbrev spaces : ℕ → Space
    spaces = spaces_in_cycle core setting s stages

    ready_behind : GoesWith core image places nestings setting spaces s nodes printed stages m → is_possible (next core) setting (counts_for stages) s ≡ true
        → IsReady setting s.tree m.shared.control → IsReady setting (result (next core) setting (counts_for stages) s).tree (cycle m).shared.control
    ready_behind with possible ready =
        let f = with.followed in
        reached_cycles_stay_ready core image places nestings cycles firsts main setting s nodes printed stages m carries.blocks carries.tree are.before is_input.room
        (few_harts setting nodes m f.ps few f.before.as_many f.before.many) running with possible ready

    goes_on : GoesWith core image places nestings setting spaces s nodes printed stages m → AreInTime stages → IsReady setting s.tree m.shared.control
        → GoesOn core image places nestings setting spaces s nodes printed stages m → GoesFurther core image places nestings setting spaces false s nodes printed stages m
    goes_on with in_time ready r =
        let f = with.followed in
        let possible = subst (λ x. is_possible (next core) setting x s ≡ true) r.round r.possible in
        let round : IsRoundOf core setting s stages r.did
        = record { ps = r.makes.ps; shared = r.makes.shared; shared' = r.makes.store; order = r.makes.order; beside = r.makes.beside; singles = r.makes.singles; possible = possible; passes = r.makes.passes } in
        let due = subst (AllDue core s.tree spaces 0 stages) f.beside.runners f.before.due in
        let go = reached_stages_go_on core nestings main setting s stages r.afters r.did spaces carries.tree few are round due r.makes.stay in
        let tree = (result (next core) setting (counts_for stages) s).tree in
        let behind : IsBehind core nestings setting spaces s stages m r.did r.afters
        = record {
          tree = go.1.tree;
          parts = go.1.parts;
          ahead = go.1.ahead;
          groups = go.1.groups (places_in tree 0 setting.processors) (stand_in tree 0 setting.processors) (many_in tree 0 setting.processors);
          ready = ready_behind with possible ready;
        } in
        orderly_rounds_go_further core image places nestings setting spaces s nodes printed stages m r running with in_time go.0 behind

    unites : GoesWith core image places nestings setting spaces s nodes printed stages m → IsReady setting s.tree m.shared.control
        → Unites core image places nestings setting spaces s nodes printed stages m → GoesFurther core image places nestings setting spaces false s nodes printed stages m
    unites with ready r =
        let f = with.followed in
        let possible = subst (λ x. is_possible (next core) setting x s ≡ true) r.round r.possible in
        let begin = all_begin core carries.tree.jumps s.tree spaces 0 stages s.runners (runners_of f.ps) r.all f.before.due f.beside.runners in
        let land = reached_beginners_land_at_one_index core nestings setting s are.before (λ h q at. begins_at core s.runners h q begin at) in
        unions_go_further core image places nestings setting spaces s nodes printed stages m land.0 r running with few land.1 (ready_behind with possible ready)

    starts : GoesToStart core image places nestings setting spaces s nodes printed stages m → IsReady setting s.tree m.shared.control
        → Starts core image places nestings setting spaces s nodes printed stages m → GoesFurther core image places nestings setting spaces true s nodes printed stages m
    starts to ready r =
        let f = to.followed in
        let before = f.before in
        let possible = subst (λ x. is_possible (next core) setting x s ≡ true) r.round r.possible in
        let found = reached_starts_find_headers core image places nestings main setting s nodes printed stages m carries.tree are.before are.after is_input.room
        (few_harts setting nodes m f.ps few before.as_many before.many) running to possible ready in
        let round : IsRoundOf core setting s stages r.did
        = record { ps = r.makes.ps; shared = r.makes.shared; shared' = r.makes.store; order = r.makes.order; beside = r.makes.beside; singles = r.makes.singles; possible = possible; passes = r.makes.passes } in
        let kept = stay_length stages r.afters r.makes.stay in
        let staged = (many_length nodes m.harts stages f.bound.stages_as_many).1 in
        let many = before.many in
        let runners = are.before.stands.tree.many in
        let had = united_had_next core setting s f.ps f.shared f.i f.op r.afters carries.tree.jumps f.beside f.stands f.about (omega (arith, kept, staged, many, runners)) in
        let go = reached_rounds_go_on core nestings main setting s stages r.afters r.did carries.tree few are round had in
        let tree = (result (next core) setting (counts_for stages) s).tree in
        let behind : IsBehind core nestings setting spaces s stages m r.did r.afters
        = record {
          tree = go.tree;
          parts = go.parts;
          ahead = go.ahead;
          groups = go.groups (places_in tree 0 setting.processors) (stand_in tree 0 setting.processors) (many_in tree 0 setting.processors);
          ready = found.1;
        } in
        starts_go_further core image places nestings setting spaces s nodes printed stages m r running to few behind found.0.rest found.0.range

    further : (uniting : Bool) → StandsBeside core image places nestings setting spaces uniting s nodes printed stages m → IsRound core image places nestings setting spaces uniting s nodes printed stages m
        → GoesFurther core image places nestings setting spaces uniting s nodes printed stages m
    further false stands r = ⊎_elim (λ on. goes_on stands.goes stands.in_time stands.ready on) (λ all. unites stands.goes stands.ready all) r
    further true stands r = starts stands.goes stands.ready r

  -- ---- whole runs

  possible_of : (spaces : ℕ → Space) (uniting : Bool) (s : State Position) (nodes : List ℕ) (printed : List ℕ) (stages : List Stage) (m : Machine) → IsRound core image places nestings setting spaces uniting s nodes printed stages m
      → is_possible (next core) setting (counts_for stages) s ≡ true
  possible_of spaces false s nodes printed stages m (inl r) = subst (λ x. is_possible (next core) setting x s ≡ true) r.round r.possible
  possible_of spaces false s nodes printed stages m (inr r) = subst (λ x. is_possible (next core) setting x s ≡ true) r.round r.possible
  possible_of spaces true s nodes printed stages m r = subst (λ x. is_possible (next core) setting x s ≡ true) r.round r.possible

  -- the states before and behind the last round
  both : (schedule : Schedule) (stages : List Stage) → ArePossible (next core) setting (schedule ++ counts_for stages ∷ []) first → AreSingle schedule
      → AllDoOne stages → is_possible (next core) setting (counts_for stages) (state schedule) ≡ true → AreReached core setting (state schedule) stages nestings
  both schedule stages all single ones possible =
      let are = runs_reach_rounds core nestings main carries.tree image.globals.items firsts input p schedule stages some
      (reaching.given runs_reach core main firsts places nestings cycles image carries input p is_input some few) all single ones possible in
      record { before = are.0; after = are.1 }

  pub always : AlwaysGoesFurther core image places nestings setting first
  always = record {
    waits = λ schedule lawful single none h group parts r step kind at next_is.
        reached_waiters_resume core nestings setting (state schedule) h group parts r step
        (reaching.reached runs_reach core main firsts places nestings cycles image carries input p is_input some few schedule lawful.possible single none) kind at next_is;
    further = λ schedule uniting nodes printed stages m lawful single stands running r lawful'.
        let s = state schedule in
        let spaces = spaces_in_cycle core setting s stages in
        let possible = possible_of spaces uniting s nodes printed stages m r in
        let ones = singles_by core image places nestings setting spaces uniting s nodes printed stages m stands.goes in
        further s nodes printed stages m (both schedule stages lawful'.possible single ones possible) running uniting stands r;
    stay = λ schedule stages lawful single ones possible lawful'.
        let s = state schedule in
        let are = both schedule stages lawful'.possible single ones possible in
        over_behind core nestings main setting stages s carries.tree are.before are.after ones possible;
  }

pub machines_follow_trees : RunsReach → RunsReachRounds → MachinesFollowTrees
machines_follow_trees runs_reach runs_reach_rounds core main firsts places nestings cycles image carries input p n is_input some few =
    machines_follow_group_runs core image places nestings cycles firsts main input p n carries.blocks carries.tree.jumps few
    (reaching.opens runs_reach core main firsts places nestings cycles image carries input p is_input some few)
    (always runs_reach runs_reach_rounds core main firsts places nestings cycles image carries input p is_input some few)
