-- Two forms of what is left to do that allow the same rounds.
use Rattle.std.specs.Prelude.{◌≡◌, Option}
use Rattle.fk_meaning.specs.Processor.{Setting}
use Rattle.fk_meaning.specs.Round.{Step, State, Round, is_allowed, result}
use Rattle.fk_meaning.specs.Schedule.{Schedule, run}

module _ {V W : Type 0} (next : V → Option (Step V)) (next' : W → Option (Step W))
    (setting : Setting) where
  -- after every schedule both have the same fault, if any, and the same rounds are allowed, with
  -- the same faults
  pub record AllowAlike (s : State V) (u : State W) : Type 0 where
    pub fault : (schedule : Schedule)
        → (run next setting schedule s).fault ≡ (run next' setting schedule u).fault
    pub allowed : (schedule : Schedule) (round : Round)
        → is_allowed next setting round (run next setting schedule s)
        ≡ is_allowed next' setting round (run next' setting schedule u)
    pub faults : (schedule : Schedule) (round : Round)
        → (result next setting round (run next setting schedule s)).fault
        ≡ (result next' setting round (run next' setting schedule u)).fault
