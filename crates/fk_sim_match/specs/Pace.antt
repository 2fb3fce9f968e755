-- The pace: how soon harts commit.
use Rattle.std.specs.Prelude.{◌≡◌, ◌≢◌, ℕ, suc, ◌+◌, ◌^◌, ◌<◌, ◌≤◌, List, length, Some, true}
use Rattle.std.specs.Prelude.{slice_get, slice_index, ◌⊎◌}
use Rattle.fk_sim_nodes.specs.Phase.{Outside, Leaving, AllMove, SomeCommits, Settled, IsDue}
use Rattle.fk_sim_match.specs.Stage.{Ending, Unites, Stage, Meets, distance, count_of_stage}
use Rattle.fk_sim_match.specs.Stage.{counts_for, AllNear, kept}
use Rattle.fk_sim_match.specs.Plan.{Plan, phases}

-- A hart that commits in d cycles does so in the round d rounds later, whatever becomes of others.
abbrev pub WhoIsNearActs : Type 0
WhoIsNearActs =
    (stages : ℕ → List Stage) (h d t : ℕ) (s : Stage) → slice_get (stages t) h ≡ Some s
    → distance s ≡ Some d
    → ((i : ℕ) → i < d → AllNear (stages (t + i)) (stages (suc (t + i))))
    → 0 < slice_index (counts_for (stages (t + d))) h

-- There is a plan for each of `cycles` cycles, from t on. Those who meet at word w of node g move
-- there, as long as nobody has committed there.
pub record MoveOn (plan : ℕ → Plan) (g w n lead t cycles : ℕ) (stages : ℕ → List Stage)
    (word : ℕ → ℕ) : Type 0 where
  pub few : length (phases (plan 0) g w (kept (stages 0))) < 2 ^ 31
  pub first : Settled t n (word 0) (phases (plan 0) g w (kept (stages 0)))
  pub moves : (i : ℕ) → i < cycles
      → ((j : ℕ) → j ≤ i → SomeCommits (phases (plan j) g w (kept (stages j))) → ⊥)
      → AllMove (t + i) n lead (phases (plan i) g w (kept (stages i))) (word i)
      (phases (plan (suc i)) g w (kept (stages (suc i)))) (word (suc i))

-- All members of those who meet at a word commit in this round, or unite, except one whose phase is
-- `Outside`.
abbrev pub AllActIn : Plan → (word : ℕ) → List Stage → Type 0
AllActIn plan w stages =
    (h n : ℕ) (s : Stage) → plan.member w h ≡ true → slice_get plan.nodes h ≡ Some n
    → slice_get stages h ≡ Some s → ((e : Ending) → s ≢ Meets e w Outside)
    → (0 < count_of_stage s) ⊎ (s ≡ Meets Unites w (Leaving 0))

-- Once all members have entered a joint operation, and have time for it in k cycles, all are in one
-- round of the next k + 1.
abbrev pub WhoMeetsActs : Type 0
WhoMeetsActs =
    (plan : ℕ → Plan) (g w n lead k t : ℕ) (stages : ℕ → List Stage) (word : ℕ → ℕ)
    → MoveOn plan g w n lead t (suc k) stages word
    → IsDue lead k t (phases (plan 0) g w (kept (stages 0)))
    → (d : ℕ) × (d ≤ k) × AllActIn (plan d) w (stages d)
