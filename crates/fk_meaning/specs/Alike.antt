-- Two forms of what is left to do whose operations agree.
use Rattle.std.specs.Prelude.{◌≡◌, ℕ, Bool, true, List, Option, Some, None}
use Rattle.fk_num.specs.Word.{Memory}
use Rattle.fk_meaning.specs.Processor.{Setting}
use Rattle.fk_meaning.specs.Round.{Step, State}
use Rattle.fk_meaning.specs.Schedule.{Schedule, opening, run, stand_of, IsLawful}

-- both have the same operation at the same site, and related work on either branch; or both have
-- none
abbrev pub Same : {V W : Type 0} → (V → W → Type 0) → Option (Step V) → Option (Step W) → Type 0
Same R None None = Unit {0}
Same R (Some s) (Some u) = (s.operation ≡ u.operation) × (s.site ≡ u.site)
    × ((onward : Bool) → R (s.rest onward) (u.rest onward))
Same R s u = ⊥

module _ {V W : Type 0} (next : V → Option (Step V)) (next' : W → Option (Step W))
    (setting : Setting) where
  -- a schedule is lawful for both or for neither, and under it the stores and the statuses are
  -- equal
  pub record RunAlike (schedule : Schedule) (s : State V) (u : State W) : Type 0 where
    pub there : IsLawful next setting schedule s → IsLawful next' setting schedule u
    pub back : IsLawful next' setting schedule u → IsLawful next setting schedule s
    pub store : (run next setting schedule s).store ≡ (run next' setting schedule u).store
    pub stand : stand_of next setting (run next setting schedule s)
        ≡ stand_of next' setting (run next' setting schedule u)

-- if all related work of two forms has the same next operation and related work on either branch,
-- then related work has the same runs
abbrev pub FormsRunAlike : (V W : Type 0) → Type 0
FormsRunAlike V W =
    (next : V → Option (Step V)) (next' : W → Option (Step W)) (related : V → W → Bool)
    → ((v : V) (w : W) → related v w ≡ true
    → Same (λ v' w'. related v' w' ≡ true) (next v) (next' w))
    → (v : V) (w : W) → related v w ≡ true
    → (setting : Setting) (schedule : Schedule) (processors : ℕ) (globals input : List ℕ)
    (firsts : Memory)
    → RunAlike next next' setting schedule (opening processors globals input firsts v)
    (opening processors globals input firsts w)
