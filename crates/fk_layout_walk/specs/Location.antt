-- Where the result of an expression is, in the form that the definitions of code use.
use Rattle.std.specs.Prelude.{Bool, Option, Some, None, if◌then◌else◌}
use Rattle.fk_syntax.specs.View.{named}
use Rattle.fk_meaning_forms.specs.Code.{done}
use Rattle.fk_meaning_forms.specs.Expressions as e
use Rattle.fk_meaning_forms.specs.Expressions.{Coded, plain}
use Rattle.fk_meaning_operation.specs.declared.operation.Operation.TheVariants.{End}
use Rattle.fk_layout_walk.specs.declared.location.ResultLocation.{ResultLocation}
use Rattle.fk_layout_walk.specs.declared.location.ResultLocation.TheVariants as s

abbrev pub location_of : ResultLocation → e.ResultLocation
location_of s.OnList = e.OnList
location_of (s.AtAddress deep spot) = e.AtAddress deep spot
location_of (s.InWord variable) = e.InWord variable
location_of (s.ToCall name) = e.ToCall (named name)

-- the code after an expression; there is none after a call of something that isn't a function, or
-- with too few arguments for a predeclared one
abbrev pub behind : Option ResultLocation → (e.ResultLocation → Coded) → Coded
behind None k = done
behind (Some location) k = k (location_of location)

abbrev pub behind_value : Option Unit → Coded → Coded
behind_value None rest = done
behind_value (Some x) rest = rest

-- the code after one of two branches: the end of a part of a split, or nothing
abbrev pub ending : (ends : Bool) → Coded
ending ends = if ends then plain End done else done
