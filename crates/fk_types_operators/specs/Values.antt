-- The types of expressions, and their value types.
use Rattle.std.specs.Prelude.{ℕ, zero, suc, Bool, false, Option, Some, None, is_some, unwrap_or}
use Rattle.std.specs.Option.{option_map}
use Rattle.fk_types_structs.specs.declared.types.Root.{Root}
use Rattle.fk_types_structs.specs.declared.types.Root.TheVariants as r
use Rattle.fk_types_structs.specs.declared.types.DataType.{DataType}
use Rattle.fk_types_operators.specs.declared.values.Target.{Target}
use Rattle.fk_types_operators.specs.declared.values.Value.{Value}
use Rattle.fk_types_operators.specs.declared.values.Value.TheVariants.{Int, Unsigned, Pointer}
use Rattle.fk_types_operators.specs.declared.values.ExpressionType.{ExpressionType}
use Rattle.fk_types_operators.specs.declared.values.ExpressionType.TheVariants.{Stored, Computed}
use Rattle.fk_types_operators.specs.declared.values.ExpressionType.TheVariants.{Nothing}

abbrev pub target : Root → ℕ → Target
target root stars = record { root = root; stars = stars }

-- the value type of a root with this number of stars; `void` and structs have none
abbrev pub value_under : Root → ℕ → Option Value
value_under r.Int zero = Some Int
value_under r.Unsigned zero = Some Unsigned
value_under r.Void zero = None
value_under (r.Struct index) zero = None
value_under root (suc stars) = Some (Pointer (target root stars))

-- the value type of a stored value; for an array it is the pointer to its first element
abbrev pub value_held : Root → ℕ → Option ℕ → Option Value
value_held root stars None = value_under root stars
value_held root stars (Some length) = Some (Pointer (target root stars))

abbrev pub value_stored : DataType → Option Value
value_stored type = value_held type.root type.stars type.length

-- the value type of an expression with this type
abbrev pub value_of : ExpressionType → Option Value
value_of (Stored type) = value_stored type
value_of (Computed value) = Some value
value_of Nothing = None

-- the type of a call of a function whose result has this type; there is no value for `void`
abbrev pub result_of : DataType → ExpressionType
result_of type = unwrap_or (option_map Computed (value_stored type)) Nothing

abbrev pub is_array : ExpressionType → Bool
is_array (Stored type) = is_some type.length
is_array (Computed value) = false
is_array Nothing = false

-- the pointer to a stored value; for an array it is that to its first element
abbrev pub address_of : ExpressionType → Option Value
address_of (Stored type) = Some (Pointer (target type.root type.stars))
address_of (Computed value) = None
address_of Nothing = None
