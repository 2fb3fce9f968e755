-- Stages that are near their next commit are in time.
use Rattle.std.proofs.Common.{List, [], ◌∷◌, Option, arith}
use Rattle.fk_sim_nodes.specs.Phase.{Coming}
use Rattle.fk_sim_match.specs.Stage.{Stage, Ended, Acts, Meets}
use Rattle.fk_sim_rounds.specs.Comes.{IsSoon}
use Rattle.fk_sim_rounds.specs.After.{AllSoon}
use Rattle.fk_sim_rounds.specs.Union.{IsNearBegin, AreNearBegin}
use Rattle.fk_sim_runs.specs.Opening.{AreSoon}
use Rattle.fk_sim_runs.specs.Pace.{IsInTime, AreInTime}
use Rattle.fk_sim_runs.specs.Turning.{AreFreshInTime}

-- who has just committed
soon_in_time : (s : Stage) → IsSoon s → IsInTime s
soon_in_time Ended soon = tt
soon_in_time (Acts d inner) soon = soon
soon_in_time (Meets e w (Coming d)) soon = omega (arith, soon)
soon_in_time (Meets e w f) soon = absurd (assumption soon)

pub are_soon_in_time : (stages : List Stage) → AreSoon stages → AreInTime stages
are_soon_in_time [] soon = tt
are_soon_in_time (s ∷ stages) soon = (soon_in_time s soon.0, are_soon_in_time stages soon.1)

pub all_soon_in_time : (afters : List (Option Stage)) (stages : List Stage) → AllSoon afters stages → AreFreshInTime afters stages
all_soon_in_time [] [] soon = tt
all_soon_in_time (a ∷ afters) (s ∷ stages) soon = (λ none. soon_in_time s (soon.0 none), all_soon_in_time afters stages soon.1)
all_soon_in_time afters stages soon = absurd (assumption soon)

-- who is about to begin the group of `start`
near_in_time : (s : Stage) → IsNearBegin s → IsInTime s
near_in_time (Acts d inner) near = let few = near.0 in omega (arith, few)
near_in_time s near = absurd (assumption near)

pub near_begin_in_time : (stages : List Stage) → AreNearBegin stages → AreInTime stages
near_begin_in_time [] near = tt
near_begin_in_time (s ∷ stages) near = (near_in_time s near.0, near_begin_in_time stages near.1)
