-- The processors of each state of a run are safe.
use Rattle.std.proofs.Common.{◌≡◌, ℕ, ◌+◌, List, ◌++◌, slice_get, Some, sym, ap, ◌∙◌, subst}
use Rattle.fk_space.specs.Space.{IsSpace}
use Rattle.fk_meaning.specs.Processor.{Setting, setting_of, group_space}
use Rattle.fk_meaning.specs.Round.{Step, Runner, State, after_locals}
use Rattle.fk_meaning.specs.Schedule.{Schedule, run}
use Rattle.fk_core.specs.declared.op.CoreOp.{CoreOp}
use Rattle.fk_core.specs.Next.{Position, next, list_opening}
use Rattle.fk_lockstep_frames.specs.Lists.{HasLocalFrames, HasToldFrames}
use Rattle.fk_lockstep_frames.proofs.Found.{Found, found}
use Rattle.fk_lockstep_frames.proofs.Lists.{lists_tell_frames}
use Rattle.fk_lockstep_tree.proofs.Runs.{run-append}
use Rattle.fk_sim_block.specs.Lists.{AlwaysMay}
use Rattle.fk_sim_block.specs.Ready.{MayDo}
use Rattle.fk_sim_runs.proofs.Trees.{is_space}
use Rattle.fk_replay_steps.specs.Served.{CanAsk}
use Rattle.fk_replay_phases.specs.Safe.{IsAbout, IsSafeRunner}
use Rattle.fk_replay_counts.proofs.Together.{lone}
use Rattle.fk_replay_lists.specs.Lists.{ListsAreSafe}
use Rattle.fk_replay_lists.proofs.Asks.{asks}
use Rattle.fk_replay_lists.proofs.Frames.{gives_back}

module _ (core : List CoreOp) (main : ℕ) (local : HasLocalFrames core main) (may : AlwaysMay core main) (words firsts input : List ℕ) (p : ℕ) where
  abbrev set : Setting
  set = setting_of p words input

  abbrev first : State Position
  first = list_opening main words firsts input p

  module _ (space : IsSpace (group_space set)) (schedule : Schedule) (h : ℕ) (r : Runner Position)
      (at : slice_get (run (next core) set schedule first).runners h ≡ Some r) where
    -- a processor that is about to do a step, in a run of its own
    record Comes (step : Step Position) (q : Runner Position) : Type 0 where
      found_here : Found core q.left step
      may_do : MayDo found_here.operation q
      frames : HasToldFrames core main local set q

    comes : (step : Step Position) (about : IsAbout core set r step) → Comes step (after_locals (next core) set about.count r)
    comes step about =
        let q = after_locals (next core) set about.count r in
        let x = lone (next core) set about.count (run (next core) set schedule first) h r at about.local in
        let more = schedule ++ x.schedule in
        let there : slice_get (run (next core) set more first).runners h ≡ Some q
        = ap (λ (s : State Position). slice_get s.runners h) (run-append (next core) set schedule x.schedule first) ∙ x.after in
        let f = found core q.left step about.due in
        record {
          found_here = f;
          may_do = may words firsts input p more space h q f.op f.operation there f.stands f.reads;
          frames = lists_tell_frames core main local words firsts input p more space h q there;
        }

    safe : IsSafeRunner core set r
    safe = record {
      asks = λ step about.
          let q = after_locals (next core) set about.count r in
          let x = comes step about in
          let f = x.found_here in
          subst (λ (s : Step Position). CanAsk s.operation q.has) (sym f.is) (asks f.operation q x.may_do);
      leaves = λ step about.
          let q = after_locals (next core) set about.count r in
          let x = comes step about in gives_back core main local set q step x.found_here x.frames;
    }

pub lists_are_safe : ListsAreSafe
lists_are_safe core main local may words firsts input p room schedule possible none =
    record { each = λ h r at. safe core main local may words firsts input p (is_space (setting_of p words input) room) schedule h r at }
