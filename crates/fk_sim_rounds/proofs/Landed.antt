-- Processors at jumps do the same as those at the operations that jumps lead to.
use Rattle.std.proofs.Common.{◌≡◌, ℕ, List, [], ◌∷◌, Option, sym, ap, ◌∙◌, refl, ⊎_elim}
use Rattle.std.specs.Prelude.{map, option_map, slice_get}
use Rattle.fk_meaning.specs.Processor.{Setting}
use Rattle.fk_meaning.specs.Round.{Step, Runner, State, Round, result, is_allowed}
use Rattle.fk_meaning.proofs.Natural.{step_by, runner_by, state_by, results, allowed_alike}
use Rattle.fk_core.specs.declared.op.CoreOp.{CoreOp}
use Rattle.fk_core.specs.Next.{Position, position, landing, step_of, next}
use Rattle.fk_sim_block.proofs.Standing.{landing_here}
use Rattle.fk_sim_rounds.specs.Next.{JumpsLead}
use Rattle.fk_sim_rounds.proofs.Way.{no_jump, way}
use Rattle.fk_sim_rounds.specs.Beside.{landed_state, LandedRunsAreRuns}

module _ (core : List CoreOp) (leads : JumpsLead core) where
  pub landing_twice : (i : ℕ) → landing core (landing core i) ≡ landing core i
  landing_twice i =
      ⊎_elim (λ here. ap (landing core) (sym here))
      (λ jumps.
      let to = leads i jumps.0 jumps.1 jumps.2 in
      let target : jumps.0.target ≡ landing core i = jumps.3 in
      ap (landing core) (sym target) ∙ landing_here core jumps.0.target to.op to.stands (no_jump to.op to.operation to.is_read) ∙ target)
      (way core leads i)

  -- what is left to do, at its operation
  abbrev land : Position → Position
  land w = position (landing core w.at) w.callers

  land_twice : (w : Position) → land (land w) ≡ land w
  land_twice w = ap (λ i. position i w.callers) (landing_twice w.at)

  pub next_landed : (w : Position) → next core (land w) ≡ next core w
  next_landed w = ap (λ i. step_of core i w.callers (slice_get core i)) (landing_twice w.at)

  -- a form whose every step lands
  abbrev land_next : Position → Option (Step Position)
  land_next w = option_map (step_by land) (next core w)

  natural : (w : Position) → land_next (land w) ≡ option_map (step_by land) (next core w)
  natural w = ap (option_map (step_by land)) (next_landed w)

  runners_twice : (rs : List (Runner Position)) → map (runner_by land) (map (runner_by land) rs) ≡ map (runner_by land) rs
  runners_twice [] = refl
  runners_twice (r ∷ rs) =
      ap (λ w. let q : Runner Position = record { left = w; has = r.has } in q ∷ map (runner_by land) (map (runner_by land) rs)) (land_twice r.left)
      ∙ ap (λ l. runner_by land r ∷ l) (runners_twice rs)

  state_twice : (s : State Position) → state_by land (state_by land s) ≡ state_by land s
  state_twice s = ap (λ rs. let u : State Position = record { store = s.store; tree = s.tree; runners = rs; fault = s.fault } in u) (runners_twice s.runners)

  pub results_land : (set : Setting) (round : Round) (s : State Position)
      → landed_state core (result (next core) set round (landed_state core s)) ≡ landed_state core (result (next core) set round s)
  results_land set round s =
      sym (results (next core) land_next set land natural round (state_by land s)) ∙ ap (result land_next set round) (state_twice s) ∙ results (next core) land_next set land natural round s

  pub allowed_land : (set : Setting) (round : Round) (s : State Position) → is_allowed (next core) set round (landed_state core s) ≡ is_allowed (next core) set round s
  allowed_land set round s =
      sym (allowed_alike (next core) land_next set land natural round (state_by land s)) ∙ ap (is_allowed land_next set round) (state_twice s)
      ∙ allowed_alike (next core) land_next set land natural round s

pub landed_runs_are_runs : LandedRunsAreRuns
landed_runs_are_runs core setting round s leads = results_land core leads setting round s
