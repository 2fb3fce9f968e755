-- The number of values that the running call has at a place in code. A number above the greatest
-- one stays at that.
use Rattle.std.specs.Prelude.{ℕ, ◌-◌, ◌^◌, min, Option, Some, None}
use Rattle.fk_syntax.specs.declared.place.Place.{Place}
use Rattle.fk_meaning_operation.specs.declared.operation.Operation.{Operation}
use Rattle.fk_layout_walk.specs.declared.visitor.Event.{Event}
use Rattle.fk_layout_walk.specs.declared.visitor.Event.TheVariants.{Call, Returned, Aside, Joined}
use Rattle.fk_layout_walk.specs.declared.visitor.Mark.{Mark}
use Rattle.fk_layout_walk.specs.Event.{operation_of}
use Rattle.fk_layout_sizes.specs.Operations.{takes, pushes, results}
use Rattle.fk_layout_sizes.specs.Measure.{plus}
use Rattle.fk_lower_text.specs.declared.height.Height.{Height}

abbrev pub behind : (values : ℕ) → Operation → ℕ
behind values op = plus (values - takes op) (pushes op)

abbrev pub running : (values : ℕ) → Option ℕ → ℕ
running values None = values
running values (Some beginning) = beginning

abbrev pub depth : Height → ℕ
depth height = min (running height.values height.beginning) (2 ^ 32 - 1)

abbrev pub high : ℕ → Option ℕ → Height
high values beginning = record { values = values; beginning = beginning }

-- The height after an operation. It is one of the call that begins, if there is one.
abbrev pub performed_in : (values : ℕ) → Option ℕ → Operation → Height
performed_in values None op = high (behind values op) None
performed_in values (Some beginning) op = high values (Some (behind beginning op))

abbrev pub performed : Height → Operation → Height
performed height op = performed_in height.values height.beginning op

abbrev pub with_operation : Height → Option (Operation × Place) → Height
with_operation height None = height
with_operation height (Some operation) = performed height operation.0

-- The height after an event. A call begins without values. After it its result, if it has one, is
-- in place of its arguments. The second branch of a choice begins like the first one, and the code
-- after both goes on from the end of the first one.
abbrev pub after : Height → Event → Height
after height (Call op place function) = high (behind height.values op) (Some 0)
after height (Returned entered void) = high (plus entered.values (results void)) None
after height (Aside inside) = high inside.values None
after height (Joined outside first) = high first.values None
after height event = with_operation height (operation_of event)

abbrev pub mark_of : Height → Mark
mark_of height = record { values = height.values; most = 0; nesting = 0; deepest = 0 }
