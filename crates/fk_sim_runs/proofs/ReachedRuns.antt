-- The last round of a run.
use Rattle.std.proofs.Common.{◌≡◌, [], ◌∷◌, ◌++◌, None, ap, ◌∙◌, subst}
use Rattle.fk_meaning.specs.Round.{Round, State, result}
use Rattle.fk_meaning.specs.Schedule.{Schedule, run}
use Rattle.fk_meaning.specs.Processor.{setting_of}
use Rattle.fk_core.specs.Next.{Position, next, list_opening}
use Rattle.fk_sim_match.specs.Stage.{counts_for}
use Rattle.fk_lockstep_tree.specs.Rounds.{IsSingle}
use Rattle.fk_lockstep_tree.specs.Runs.{AreSingle}
use Rattle.fk_lockstep_tree.proofs.Acts.{result_is}
use Rattle.fk_lockstep_tree.proofs.Runs.{run-append, are_all, all_are, possible_before, running}
use Rattle.fk_sim_runs.specs.Reached.{IsReached, RunsReach}
use Rattle.fk_sim_runs.specs.Behind.{RunsReachRounds}
use Rattle.fk_sim_runs.proofs.Known.{counts_single}

pub single_then : (schedule : Schedule) (round : Round) → AreSingle schedule → IsSingle round → AreSingle (schedule ++ round ∷ [])
single_then [] round single one = (one, tt)
single_then (r ∷ schedule) round single one = (single.0, single_then schedule round single.1 one)

pub runs_reach_rounds : RunsReach → RunsReachRounds
runs_reach_rounds runs_reach core nestings main list words firsts input p schedule stages some given are_possible single ones possible =
    let setting = setting_of p words input in
    let first = list_opening main words firsts input p in
    let round = counts_for stages in
    let s = run (next core) setting schedule first in
    let one = counts_single stages ones in
    let last : run (next core) setting (schedule ++ round ∷ []) first ≡ result (next core) setting round s = run-append (next core) setting schedule (round ∷ []) first in
    let none : (run (next core) setting (schedule ++ round ∷ []) first).fault ≡ None
    = ap (λ (u : State Position). u.fault) last ∙ ap (λ (u : State Position). u.fault) (result_is (next core) setting round s one possible) in
    let all = are_all (next core) setting (schedule ++ round ∷ []) first are_possible none in
    let before = all_are (next core) setting schedule first (possible_before (next core) setting schedule (round ∷ []) first all) in (
      runs_reach core nestings main list words firsts input p schedule some given before single (running (next core) setting round s possible),
      subst (IsReached core nestings setting) last (runs_reach core nestings main list words firsts input p (schedule ++ round ∷ []) some given are_possible (single_then schedule round single one) none),
    )
