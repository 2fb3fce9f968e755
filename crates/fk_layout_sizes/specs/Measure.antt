-- A visitor that keeps the number of values and the depth of nesting, and the greatest of each.
use Rattle.std.specs.Prelude.{ℕ, ◌+◌, ◌-◌, ◌^◌, min, max, Bool, Option, Some, None}
use Rattle.fk_syntax.specs.declared.place.Place.{Place}
use Rattle.fk_meaning_operation.specs.declared.operation.Operation.{Operation}
use Rattle.fk_layout_walk.specs.declared.visitor.Event.{Event}
use Rattle.fk_layout_walk.specs.declared.visitor.Event.TheVariants.{Aside, Joined, Returned}
use Rattle.fk_layout_walk.specs.declared.visitor.Mark.{Mark}
use Rattle.fk_layout_walk.specs.Event.{operation_of}
use Rattle.fk_layout_sizes.specs.Operations.{takes, pushes, nests, results}
use Rattle.fk_layout_sizes.specs.declared.measure.Measure.{Measure}

-- a sum stays at the greatest number when it gets there
abbrev pub plus : ℕ → ℕ → ℕ
plus a b = min (a + b) (2 ^ 64 - 1)

-- the greatest counts are raised to the current ones
abbrev pub raised : Mark → Mark
raised m = record {
  values = m.values;
  most = max m.most m.values;
  nesting = m.nesting;
  deepest = max m.deepest m.nesting;
}

-- the marks after an operation and after a call; `entered` is the mark at the beginning of the call
abbrev pub performed : Mark → Operation → Mark
performed m op =
    raised (record {
      values = plus (m.values - takes op) (pushes op);
      most = m.most;
      nesting = plus m.nesting (nests op);
      deepest = m.deepest;
    })

abbrev pub returned : Mark → (void : Bool) → Mark
returned entered void =
    raised (record {
      values = plus entered.values (results void);
      most = entered.most;
      nesting = entered.nesting;
      deepest = entered.deepest;
    })

abbrev pub with_operation : Mark → Option (Operation × Place) → Mark
with_operation m None = m
with_operation m (Some operation) = performed m operation.0

abbrev pub mark_after : Mark → Event → Mark
mark_after m (Aside before) =
    record { values = before.values; most = m.most; nesting = before.nesting; deepest = m.deepest }
mark_after m (Joined before first) =
    record { values = first.values; most = m.most; nesting = before.nesting; deepest = m.deepest }
mark_after m (Returned entered void) = returned entered void
mark_after m event = with_operation m (operation_of event)

abbrev pub measure_after : Measure → Event → Measure
measure_after measure event = record { mark = mark_after measure.mark event }

abbrev pub mark_of : Measure → Mark
mark_of measure = measure.mark
