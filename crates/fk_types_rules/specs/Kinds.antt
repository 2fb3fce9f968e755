-- Types, as far as code generation depends on them.
use Rattle.std.specs.Prelude.{◌≡◌, ◌⊎◌, ℕ, ◌*◌, true, false, List, Option, Some, None}
use Rattle.fk_syntax.specs.declared.facts.Kind.{Kind}
use Rattle.fk_types_structs.specs.declared.types.DataType.{DataType}
use Rattle.fk_types_structs.specs.Types.{StructTree}
use Rattle.fk_types_structs.specs.Words.{capped}
use Rattle.fk_types_structs.specs.Sizes.{HasTypeWords}
use Rattle.fk_types_operators.specs.declared.values.Target.{Target}
use Rattle.fk_types_operators.specs.declared.values.Value.{Value}
use Rattle.fk_types_operators.specs.declared.values.Value.TheVariants.{Int, Unsigned, Pointer}
use Rattle.fk_types_operators.specs.declared.values.ExpressionType.{ExpressionType}
use Rattle.fk_types_operators.specs.declared.values.ExpressionType.TheVariants.{Stored, Computed}
use Rattle.fk_types_operators.specs.declared.values.ExpressionType.TheVariants.{Nothing}
use Rattle.fk_types_operators.specs.Values.{target, value_under}

-- the words of a type, those above the limit all alike; 0 where it has no number of words
abbrev pub IsWords : List StructTree → DataType → ℕ → Type 0
IsWords structs type words =
    ((exact : ℕ) × HasTypeWords structs type exact × (words ≡ capped exact))
    ⊎ (((exact : ℕ) → ¬ HasTypeWords structs type exact) × (words ≡ 0))

-- the size in bytes of what a pointer points to; 0 for `void *`
abbrev pub IsStep : List StructTree → Target → ℕ → Type 0
IsStep structs t step = (words : ℕ) × IsWords structs
    (record { root = t.root; stars = t.stars; length = None }) words × (step ≡ 4 * words)

abbrev pub IsValueKind : List StructTree → Value → Kind → Type 0
IsValueKind structs Int kind =
    kind ≡ record { words = 1; unsigned = false; array = false; step = 0 }
IsValueKind structs Unsigned kind =
    kind ≡ record { words = 1; unsigned = true; array = false; step = 0 }
IsValueKind structs (Pointer t) kind = (step : ℕ) × IsStep structs t step
    × (kind ≡ record { words = 1; unsigned = true; array = false; step = step })

-- the kind of a stored value, which is an array, a scalar, or a struct
abbrev pub IsArrayKind : List StructTree → DataType → Kind → Type 0
IsArrayKind structs type kind = (words : ℕ) × (step : ℕ) × IsWords structs type words
    × IsStep structs (target type.root type.stars) step
    × (kind ≡ record { words = words; unsigned = false; array = true; step = step })

abbrev pub IsPlainKind : List StructTree → DataType → Option Value → Kind → Type 0
IsPlainKind structs type (Some value) kind = IsValueKind structs value kind
IsPlainKind structs type None kind = (words : ℕ) × IsWords structs type words
    × (kind ≡ record { words = words; unsigned = false; array = false; step = 0 })

abbrev pub IsStoredKind : List StructTree → DataType → Option ℕ → Kind → Type 0
IsStoredKind structs type (Some length) kind = IsArrayKind structs type kind
IsStoredKind structs type None kind =
    IsPlainKind structs type (value_under type.root type.stars) kind

-- the kind of a type, which is what code generation needs to know of it. The call of a `void`
-- function has no words
abbrev pub IsKind : List StructTree → ExpressionType → Kind → Type 0
IsKind structs (Stored type) kind = IsStoredKind structs type type.length kind
IsKind structs (Computed value) kind = IsValueKind structs value kind
IsKind structs Nothing kind = kind ≡ record { words = 0; unsigned = false; array = false; step = 0 }
