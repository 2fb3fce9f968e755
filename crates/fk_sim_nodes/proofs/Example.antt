-- Two members meet, with a hart between them that is none: the second arrives two cycles after the first, and both commit three
-- cycles later.
use Rattle.std.proofs.Common.{[], ◌∷◌, refl}
use Rattle.fk_sim_nodes.specs.Phase.{Outside, Away, Coming, Waiting, Leaving, AllMove}

the_first_arrives : AllMove 0 2 1 (Coming 0 ∷ Outside ∷ Coming 2 ∷ []) 0 (Waiting ∷ Outside ∷ Coming 1 ∷ []) 1
the_first_arrives = (refl, (refl, (refl, refl)))

it_polls : AllMove 1 2 1 (Waiting ∷ Outside ∷ Coming 1 ∷ []) 1 (Waiting ∷ Outside ∷ Coming 0 ∷ []) 1
it_polls = (refl, (refl, (refl, refl)))

the_second_arrives : AllMove 2 2 1 (Waiting ∷ Outside ∷ Coming 0 ∷ []) 1 (Waiting ∷ Outside ∷ Waiting ∷ []) 2
the_second_arrives = (refl, (refl, (refl, refl)))

both_see_it : AllMove 3 2 1 (Waiting ∷ Outside ∷ Waiting ∷ []) 2 (Leaving 1 ∷ Outside ∷ Leaving 1 ∷ []) 2
both_see_it = (refl, (refl, (refl, refl)))

they_go_on : AllMove 4 2 1 (Leaving 1 ∷ Outside ∷ Leaving 1 ∷ []) 2 (Leaving 0 ∷ Outside ∷ Leaving 0 ∷ []) 2
they_go_on = (refl, (refl, (refl, refl)))

they_commit : AllMove 5 2 1 (Leaving 0 ∷ Outside ∷ Leaving 0 ∷ []) 2 (Away ∷ Outside ∷ Coming 6 ∷ []) 0
they_commit = (tt, (refl, (refl, refl)))
