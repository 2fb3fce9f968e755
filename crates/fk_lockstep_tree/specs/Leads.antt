-- Where operations occur in the code of a program.
use Rattle.std.specs.Prelude.{◌≡◌, ℕ, Bool, true, false, Option, Some, None}
use Rattle.fk_meaning_operation.specs.declared.operation.Operation.{Operation}
use Rattle.fk_meaning_forms.specs.Code.{Code, done, perform, choose, while, until, turn, again}
use Rattle.fk_meaning_forms.specs.Code.{quit, break, continue, call, ends}
use Rattle.fk_lockstep_tree.specs.Where.{Where, InGroup, goes}

-- a function that is called at this place is called by a group
abbrev pub is_in_group : Where → Bool
is_in_group (InGroup depth) = true
is_in_group place = false

-- an operation leads from one place to another, whichever branch is taken
abbrev pub Comes : Where → Operation → (to : Where) → Type 0
Comes place op to = (onward : Bool) → goes place op onward ≡ Some to

-- the places at which each turn of a loop begins, and at which the loop is left. In a private loop
-- a turn begins in the loop's part, and who leaves waits at the parent
pub record Loop : Type 0 where
  pub turn : Where
  pub left : Where

abbrev pub turning : (from to : Where) → Loop
turning from to = record { turn = from; left = to }

-- an operation at the beginning of a turn stays in the loop, or leaves it
abbrev pub Quits : (p left : Where) → Operation → Type 0
Quits p left op = (goes p op true ≡ Some p) × (goes p op false ≡ Some left)

-- `may_call` tells which functions a group may call, and which ones processors by themselves may
-- call
module _ {A : Type 0} (may_call : (in_group : Bool) → (function : ℕ) → Bool) where
  -- code leads from a place to its end, and there to another place. A `return` is at the place
  -- where the function began. What goes to the next turn of the innermost loop is at the place
  -- where turns begin; what breaks it is at the place where the loop is left
  abbrev pub Leads : (function : Where) → (loop : Option Loop) → (place : Where) → Code A
      → (end : Where) → Type 0
  Leads f l p done e = p ≡ e
  Leads f l p (perform t op rest) e = (to : Where) × Comes p op to × Leads f l to rest e
  Leads f l p (choose t op a b rest) e =
      (first second one other : Where) × (goes p op true ≡ Some first)
      × (goes p op false ≡ Some second)
      × Leads f l first a one × Leads f l second b other × Leads f l one rest e
      × Leads f l other rest e
  Leads f l p (while test body step rest) e =
      (left : Where) × Leads f (Some (turning p left)) p test p
      × Leads f (Some (turning p left)) p body p
      × Leads f (Some (turning p left)) p step p × Leads f l left rest e
  Leads f l p (until body test rest) e =
      (left : Where) × Leads f (Some (turning p left)) p body p
      × Leads f (Some (turning p left)) p test p
      × Leads f l left rest e
  Leads f l p (turn test body step rest) e = ⊥
  Leads f l p (again test body step rest) e = ⊥
  Leads f l p (quit t op rest) e =
      (left : Where) × (l ≡ Some (turning p left)) × Quits p left op × Leads f l p rest e
  Leads f l p (break rest) e = (from : Where) × (l ≡ Some (turning from p)) × Leads f l p rest e
  Leads f l p (continue rest) e = (left : Where) × (l ≡ Some (turning p left)) × Leads f l p rest e
  Leads f l p (call t op function opening rest) e =
      Comes p op p × (may_call (is_in_group p) function ≡ true) × Leads p None p opening p
      × Leads f l p rest e
  Leads f l p (ends t op rest) e = Comes p op p × (p ≡ f) × Leads f l p rest e
