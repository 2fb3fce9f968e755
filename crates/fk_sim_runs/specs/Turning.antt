-- What a cycle after which the tree changes makes of harts and of those who meet.
use Rattle.std.specs.Prelude.{◌≡◌, ℕ, ◌+◌, ◌^◌, ◌<◌, List, [], ◌∷◌, length, Option, Some, None}
use Rattle.std.specs.Prelude.{slice_get}
use Rattle.fk_num.specs.Word.{Memory}
use Rattle.fk_image.specs.declared.Image.{Image}
use Rattle.fk_machine.specs.Hart.{Hart, Setting}
use Rattle.fk_sim_nodes.specs.Source.{Source}
use Rattle.fk_sim_nodes.specs.Phase.{Leaving}
use Rattle.fk_sim_match.specs.Stage.{Unites, Stage, Meets, Pairwise, Remains, AllNear}
use Rattle.fk_sim_match.specs.Plan.{Plan, Tests, told_by, IsBound}
use Rattle.fk_sim_match.specs.Change.{TreeChanges, GoesOn}
use Rattle.fk_sim_block.specs.Joint.{lead}
use Rattle.fk_sim_rounds.specs.Unite.{AllUnite}
use Rattle.fk_sim_rounds.specs.Union.{AreNearBegin}
use Rattle.fk_sim_runs.specs.Pace.{IsInTime, AreInTime, Turns}

-- A hart that has committed is at a stage in time.
abbrev pub AreFreshInTime : List (Option Stage) → List Stage → Type 0
AreFreshInTime [] [] = Unit {0}
AreFreshInTime (a ∷ afters) (s ∷ stages) = (a ≡ None → IsInTime s) × AreFreshInTime afters stages
AreFreshInTime afters stages = ⊥

-- No hart has met those with whom it unites.
abbrev pub NobodyHasUnited : List Stage → Type 0
NobodyHasUnited stages = (h w : ℕ) → slice_get stages h ≡ Some (Meets Unites w (Leaving 0)) → ⊥

-- Where a plan goes on after a cycle, all harts are in time, each at a distance is nearer, and
-- those who meet have moved.
abbrev pub PlansTurn : (S P D : Type 0) → Type 0
PlansTurn S P D =
    (source : Source S P D) (image : Image) (plan plan' : Plan) (tests tests' : Tests P D)
    (t : Setting) (stages stages' : List Stage) (afters : List (Option Stage)) (hs hs' : List Hart)
    (ps qs qs' : List P) (control control' : Memory)
    → length hs < 2 ^ 31
    → tests.lead ≡ lead → IsBound source image plan (told_by tests) t stages hs ps (λ g. control)
    → Pairwise Remains stages afters
    → TreeChanges source image plan (told_by tests) plan'
    (told_by tests') t hs' afters stages' qs qs' control'
    → GoesOn source image plan (told_by tests) plan' (told_by tests') t stages stages' hs' qs'
    (λ g. control) control'
    → NobodyHasUnited stages → AreInTime stages → AreFreshInTime afters stages'
    → AreInTime stages'
    × Turns (record { plan = plan; stages = stages; control = control; finished = t.finished })
    (record { plan = plan'; stages = stages'; control = control'; finished = t.finished + 1 })

-- ---- where all have met at the beginning of `start`

-- After the cycle in which all leave, near their common commit, all are in time, and nobody meets
-- others.
abbrev pub UnionsTurn : Type 0
UnionsTurn =
    (plan plan' : Plan) (stages stages' : List Stage) (control control' : Memory) (finished : ℕ)
    → length stages < 2 ^ 31 → AllUnite stages → AllNear stages stages' → AreNearBegin stages'
    → AreInTime stages'
    × Turns (record { plan = plan; stages = stages; control = control; finished = finished })
    (record { plan = plan'; stages = stages'; control = control'; finished = finished + 1 })

-- Nobody meets others in the cycles from there on, in the last of which all commit.
abbrev pub UnitedTurn : Type 0
UnitedTurn =
    (plan plan' : Plan) (stages stages' : List Stage) (control control' : Memory) (finished : ℕ)
    → length stages < 2 ^ 31 → AreNearBegin stages → AllNear stages stages'
    → Turns (record { plan = plan; stages = stages; control = control; finished = finished })
    (record { plan = plan'; stages = stages'; control = control'; finished = finished + 1 })
