-- The kinds of types, in the order of their first occurrence among the tokens.
use Rattle.std.specs.Prelude.{◌≡◌, ◌⊎◌, ℕ, ◌<◌, List, [], ◌∷◌, ◌++◌, Option, Some, None, length}
use Rattle.std.specs.Prelude.{slice_get}
use Rattle.fk_syntax.specs.declared.facts.Kind.{Kind}
use Rattle.fk_types_structs.specs.Types.{StructTree}
use Rattle.fk_types_operators.specs.declared.values.ExpressionType.{ExpressionType}
use Rattle.fk_types_rules.specs.Kinds.{IsKind}
use Rattle.fk_types_rules.specs.Noted.{type_at}

-- a kind first occurs at a token: all tokens before it that have a type have lesser numbers
pub record IsFirstMet (types : List (Option ExpressionType)) (numbers : List ℕ)
    (number at : ℕ) : Type 0 where
  pub has_type : (type : ExpressionType) × (type_at types at ≡ Some type)
  pub here : slice_get numbers at ≡ Some number
  pub first : (before other : ℕ) (type : ExpressionType) → before < at
      → type_at types before ≡ Some type → slice_get numbers before ≡ Some other → other < number

-- the kinds of the types of tokens: each token that has a type has the number of its kind, and each
-- other one has 0; no two kinds are the same, and each one first occurs at some token
pub record AreMet (structs : List StructTree) (types : List (Option ExpressionType))
    (kinds : List Kind) (numbers : List ℕ) : Type 0 where
  pub same_length : length numbers ≡ length types
  pub numbered : (at : ℕ) (type : ExpressionType) → type_at types at ≡ Some type
      → (number : ℕ) × (kind : Kind) × (slice_get numbers at ≡ Some number)
      × (slice_get kinds number ≡ Some kind) × IsKind structs type kind
  pub unmet : (at number : ℕ) → type_at types at ≡ None
      → slice_get numbers at ≡ Some number → number ≡ 0
  pub distinct : (i j : ℕ) (kind : Kind) → slice_get kinds i ≡ Some kind
      → slice_get kinds j ≡ Some kind → i ≡ j
  pub first : (number : ℕ) → number < length kinds → (at : ℕ) × IsFirstMet types numbers number at

-- the number of a kind among others; a kind that isn't among them comes last
abbrev pub IsNumbered : List Kind → Kind → List Kind → ℕ → Type 0
IsNumbered before kind after number = ((after ≡ before) × (slice_get before number ≡ Some kind))
    ⊎ ((after ≡ before ++ kind ∷ []) × (number ≡ length before)
    × ((i : ℕ) → ¬ (slice_get before i ≡ Some kind)))

-- the number of one more token is that of the kind of its type, if it has one
abbrev pub IsNext : List StructTree → Option ExpressionType → List Kind → List Kind → ℕ → Type 0
IsNext structs None before after number = (after ≡ before) × (number ≡ 0)
IsNext structs (Some type) before after number = (kind : Kind) × IsKind structs type kind
    × IsNumbered before kind after number
