-- The remaining work at each point where a processor meets those of outer nodes: after parts, at
-- the ends of bodies, and at each `start` ahead.
use Rattle.std.specs.Prelude.{◌≡◌, ℕ, Bool, true, false, List, [], ◌∷◌, ◌++◌, map}
use Rattle.fk_meaning_forms.specs.Code.{Code, done, perform, choose, while, until, turn, again}
use Rattle.fk_meaning_forms.specs.Code.{quit, break, continue, call, ends}
use Rattle.fk_meaning.specs.Next.{Work, going, next}
use Rattle.fk_meaning.specs.Behind.{grown, outs}
use Rattle.fk_meaning.specs.Shape.{of_function, Shape}
use Rattle.fk_lockstep.specs.InStep.{InStep}
use Rattle.fk_lockstep.specs.Course.{ByItself, Follows}
use Rattle.fk_lockstep_structure.specs.Placed.{OfGroup, OfBody, OfMain, is_begin, Placed}

-- each `start` ahead in code, with the code from it on
abbrev pub starts_in : {A : Type 0} → Code A → List (Code A)
starts_in done = []
starts_in (perform t op rest) = starts_in rest
starts_in (choose t op a b rest) = grown (is_begin op) (choose t op a b rest) (starts_in rest)
starts_in (while test body step rest) = starts_in rest
starts_in (until body test rest) = starts_in rest
starts_in (turn test body step rest) = starts_in rest
starts_in (again test body step rest) = starts_in rest
starts_in (quit t op rest) = starts_in rest
starts_in (break rest) = starts_in rest
starts_in (continue rest) = starts_in rest
starts_in (call t op f opening rest) = starts_in rest
starts_in (ends t op rest) = starts_in rest

-- of the running functions, the outermost is `main`
abbrev pub outermost : Code ℕ → List (Code ℕ) → Code ℕ
outermost code [] = code
outermost code (caller ∷ callers) = outermost caller callers

abbrev pub starts : Work → List Work
starts work = map (λ code. let at : Work = record { left = code; callers = [] } in at)
    (starts_in (outermost work.left work.callers))

abbrev pub all_outs : Work → List Work
all_outs work = outs work ++ starts work

-- the rules that the functions of a program and its `main` keep
pub record AreCourses (may_call : (in_group : Bool) → (function : ℕ) → Bool)
    (bodies : (binding : ℕ) → Code ℕ) (main : ℕ) : Type 0 where
  pub nested : (function : ℕ) → Shape false false of_function (bodies function)
  pub in_step : (function : ℕ) → may_call true function ≡ true
      → InStep (may_call true) false (bodies function)
  pub in_group : (function : ℕ) → may_call true function ≡ true
      → Placed may_call OfGroup false (bodies function)
  pub in_body : (function : ℕ) → may_call false function ≡ true
      → Placed may_call OfBody false (bodies function)
  pub main_of : Placed may_call (OfMain true) false (bodies main)

abbrev pub CodeFollows : Type 0
CodeFollows =
    (may_call : (in_group : Bool) → (function : ℕ) → Bool)
    (bodies : (binding : ℕ) → Code ℕ) (main : ℕ)
    → AreCourses may_call bodies main
    → Follows (next bodies) all_outs (ByItself false) (going (bodies main) [])
