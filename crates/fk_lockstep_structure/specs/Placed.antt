-- Where in code the steps of the tree may occur.
use Rattle.std.specs.Prelude.{◌≡◌, ℕ, Bool, true, false, not, if◌then◌else◌}
use Rattle.fk_meaning_operation.specs.declared.operation.Operation.{Operation}
use Rattle.fk_meaning_operation.specs.declared.operation.Operation.TheVariants as o
use Rattle.fk_meaning_forms.specs.Code.{Code, done, perform, choose, while, until, turn, again}
use Rattle.fk_meaning_forms.specs.Code.{quit, break, continue, call, ends}
use Rattle.fk_meaning.specs.Shape.{splits}
use Rattle.fk_lockstep.specs.InStep.{InStep}

-- which processors run code: a group; processors by themselves, in the body of a `farm` or `seq` or
-- in a function; or `main` outside of each `start`, on its outermost level or in an arm or a loop
pub data Who : Type 0 where
  OfGroup : Who
  OfBody : Who
  OfMain : (outermost : Bool) → Who

abbrev pub is_group : Who → Bool
is_group OfGroup = true
is_group who = false

abbrev pub is_main : Who → Bool
is_main (OfMain outermost) = true
is_main who = false

abbrev pub is_outermost : Who → Bool
is_outermost (OfMain outermost) = outermost
is_outermost who = false

-- which processors run an arm or a loop, and a called function
abbrev pub inner : Who → Who
inner (OfMain outermost) = OfMain false
inner who = who

abbrev pub callee_of : Who → Who
callee_of OfGroup = OfGroup
callee_of who = OfBody

abbrev pub is_begin : Operation → Bool
is_begin o.Begin = true
is_begin op = false

abbrev pub is_halt : Operation → Bool
is_halt o.Halt = true
is_halt op = false

-- a resume comes directly after parts, and nowhere else
abbrev pub may_perform : (resuming : Bool) → Operation → Bool
may_perform resuming o.Resume = resuming
may_perform resuming o.Halt = false
may_perform resuming op = not resuming

-- only groups split and have bodies. A group begins only on the outermost level of `main`
abbrev pub may_choose : Who → Operation → Bool
may_choose who (o.Branch onward) = true
may_choose who (o.Split by) = is_group who
may_choose who o.Farm = is_group who
may_choose who o.Seq = is_group who
may_choose who o.Begin = is_outermost who
may_choose who op = false

abbrev pub may_quit : Who → Operation → Bool
may_quit who o.Shrink = is_group who
may_quit who op = true

-- `main` ends by a halt, and no other function does
abbrev pub may_end : Who → Operation → Bool
may_end who op = if is_halt op then is_main who else not (is_main who)

-- which processors run the branches of a choice
abbrev pub who_in : Who → Operation → Who
who_in who o.Begin = OfGroup
who_in who o.Farm = OfBody
who_in who o.Seq = OfBody
who_in who op = inner who

-- `may_call` tells which functions may be called in groups, and which by processors by themselves
module _ {A : Type 0} (may_call : (in_group : Bool) → (function : ℕ) → Bool) where
  abbrev pub Placed : Who → (resuming : Bool) → Code A → Type 0
  Placed who resuming done = resuming ≡ false
  Placed who resuming (perform t op rest) = (may_perform resuming op ≡ true) × Placed who false rest
  Placed who resuming (choose t op a b rest) =
      (resuming ≡ false) × (may_choose who op ≡ true)
      × Placed (who_in who op) false a × Placed (who_in who op) false b
      × (is_begin op ≡ true → InStep (may_call true) false a) × Placed who (splits op) rest
  Placed who resuming (while test body step rest) =
      (resuming ≡ false) × Placed (inner who) false test × Placed (inner who) false body
      × Placed (inner who) false step
      × Placed who false rest
  Placed who resuming (until body test rest) =
      (resuming ≡ false) × Placed (inner who) false body × Placed (inner who) false test
      × Placed who false rest
  Placed who resuming (turn test body step rest) = ⊥
  Placed who resuming (again test body step rest) = ⊥
  Placed who resuming (quit t op rest) = (resuming ≡ false) × (may_quit who op ≡ true)
      × Placed who false rest
  Placed who resuming (break rest) = (resuming ≡ false) × Placed who false rest
  Placed who resuming (continue rest) = (resuming ≡ false) × Placed who false rest
  Placed who resuming (call t op f opening rest) =
      (resuming ≡ false) × (is_halt op ≡ false) × (may_call (is_group who) f ≡ true)
      × Placed (callee_of who) false opening
      × Placed who false rest
  Placed who resuming (ends t op rest) = (resuming ≡ false) × (may_end who op ≡ true)
      × Placed who false rest
