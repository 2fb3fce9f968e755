-- The next operation of a processor, and the work that is left after it on either branch.
use Rattle.std.specs.Prelude.{ℕ, List, [], ◌∷◌, Option, Some, None, if◌then◌else◌}
use Rattle.fk_meaning.specs.Round.{Step}
use Rattle.fk_meaning_forms.specs.Code.{Code, done, perform, choose, turn, again, quit, call, ends}
use Rattle.fk_meaning_forms.specs.Code.{append}
use Rattle.fk_meaning.specs.Left.{broken, settled}

-- the code left of the running function, and of the functions that wait for a call, the last one
-- first
pub record Work : Type 0 where
  pub left : Code ℕ
  pub callers : List (Code ℕ)

abbrev pub going : Code ℕ → List (Code ℕ) → Work
going code callers = record { left = settled code; callers = callers }

abbrev pub returned : List (Code ℕ) → Work
returned [] = record { left = done; callers = [] }
returned (code ∷ callers) = going code callers

-- `bodies` gives the code of the function that a binding names
module _ (bodies : (binding : ℕ) → Code ℕ) where
  abbrev pub step : Code ℕ → List (Code ℕ) → Option (Step Work)
  step (perform n op rest) callers =
      Some (record { operation = op; site = n; rest = λ onward. going rest callers })
  step (choose n op a b rest) callers =
      Some (record { operation = op; site = n; rest = λ onward. going (append (if onward then a else b) rest) callers })
  step (quit n op rest) callers =
      Some (record {
        operation = op;
        site = n;
        rest = λ onward. going (if onward then rest else broken rest) callers;
      })
  step (call n op function opening rest) callers =
      Some (record { operation = op; site = n; rest = λ onward. going (append opening (bodies function)) (rest ∷ callers) })
  step (ends n op rest) callers =
      Some (record { operation = op; site = n; rest = λ onward. returned callers })
  step code callers = None

  -- a loop begins again with its test
  abbrev pub step_of : Code ℕ → List (Code ℕ) → Option (Step Work)
  step_of (again test body after rest) callers =
      step (append test (append body (turn test body after rest))) callers
  step_of code callers = step code callers

  abbrev pub next : Work → Option (Step Work)
  next work = step_of work.left work.callers
