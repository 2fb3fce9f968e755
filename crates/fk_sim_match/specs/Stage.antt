-- The stage of a hart before a cycle, and its count in the round.
use Rattle.std.specs.Prelude.{◌==◌, Bool, true, false, cond, ◌≡◌, ℕ, zero, suc, List, [], ◌∷◌}
use Rattle.std.specs.Prelude.{Option, Some, None, map}
use Rattle.fk_sim_nodes.specs.Phase.{Phase, Outside, Away, Leaving}

-- How those who meet leave: leaving is the commit of each; or they unite, and go on together to a
-- common commit.
pub data Ending : Type 0 where
  Commits : Ending
  Unites : Ending

-- The stage of a hart: it has ended; in this many cycles it commits an operation and so many local
-- ones before it, by itself or with its group; or it is in a phase of a joint block, at an arrival
-- word.
pub data Stage : Type 0 where
  Ended : Stage
  Acts : (distance inner : ℕ) → Stage
  Meets : (ending : Ending) (word : ℕ) (phase : Phase) → Stage

-- In how many cycles a hart commits. There is no such number where it has ended, waits for others,
-- or is to unite with them.
abbrev pub commits_in : Ending → (distance : ℕ) → Option ℕ
commits_in Commits d = Some d
commits_in Unites d = None

abbrev pub distance_by : Ending → Phase → Option ℕ
distance_by e (Leaving d) = commits_in e d
distance_by e f = None

abbrev pub distance : Stage → Option ℕ
distance Ended = None
distance (Acts d inner) = Some d
distance (Meets e w f) = distance_by e f

-- How many operations the commit of a stage does. Joint operations are done alone.
abbrev pub operations_of : Stage → ℕ
operations_of (Acts d inner) = suc inner
operations_of s = 1

-- A hart that commits now is in the round, with the operations of its stage.
abbrev pub count_for : (operations : ℕ) → Option ℕ → ℕ
count_for n None = 0
count_for n (Some zero) = n
count_for n (Some (suc d)) = 0

abbrev pub count_of_stage : Stage → ℕ
count_of_stage s = count_for (operations_of s) (distance s)

abbrev pub counts_for : List Stage → List ℕ
counts_for stages = map count_of_stage stages

-- The commits of all stages do one operation.
abbrev pub AllDoOne : List Stage → Type 0
AllDoOne [] = Unit {0}
AllDoOne (s ∷ stages) = (operations_of s ≡ 1) × AllDoOne stages

-- A distance falls by one in a cycle. After a stage without one, or at 0, any distance may follow.
abbrev pub Nears : Option ℕ → Option ℕ → Type 0
Nears (Some (suc d)) d' = d' ≡ Some d
Nears d d' = Unit {0}

-- Two lists are of one length, and their elements are related place by place.
abbrev pub Pairwise : {A B : Type 0} → (A → B → Type 0) → List A → List B → Type 0
Pairwise R [] [] = Unit {0}
Pairwise R (x ∷ xs) (y ∷ ys) = R x y × Pairwise R xs ys
Pairwise R xs ys = ⊥

abbrev pub AllNear : List Stage → List Stage → Type 0
AllNear stages stages' = Pairwise (λ s s'. Nears (distance s) (distance s')) stages stages'

-- A hart that does not commit stays at its operation.
abbrev pub SameKind : Stage → Stage → Type 0
SameKind Ended Ended = Unit {0}
SameKind (Acts d inner) (Acts d' inner') = inner' ≡ inner
SameKind (Meets e w f) (Meets e' v f') = (e' ≡ e) × (v ≡ w)
SameKind s s' = ⊥

-- A stage is over with this cycle: the hart commits, or has met all those with whom it unites.
abbrev pub IsOver : Stage → Type 0
IsOver (Meets Unites w f) = f ≡ Leaving 0
IsOver s = distance s ≡ Some 0

abbrev pub is_over : Stage → Bool
is_over (Acts zero inner) = true
is_over (Meets e w (Leaving zero)) = true
is_over s = false

-- What a cycle leaves of a stage: nothing where the stage is over.
abbrev pub Remains : Stage → Option Stage → Type 0
Remains s None = IsOver s
Remains s (Some s') = (count_of_stage s ≡ 0) × Nears (distance s) (distance s') × SameKind s s'
    × (is_over s ≡ false)

-- Stages that all harts keep.
abbrev pub kept : List Stage → List (Option Stage)
kept stages = map (λ s. Some s) stages

-- The phase of a hart that is in no phase at an arrival word: away if it is a member of those who
-- meet there.
abbrev pub absent : (member : Bool) → Phase
absent true = Away
absent false = Outside

-- The phase of a hart at an arrival word.
abbrev pub phase_of : (word : ℕ) → (member : Bool) → Option Stage → Phase
phase_of w member (Some (Meets e v f)) = cond (v == w) f (absent member)
phase_of w member a = absent member
