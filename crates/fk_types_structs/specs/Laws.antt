-- Laws of types and their words.
use Rattle.std.specs.Prelude.{◌≡◌, ℕ, List}
use Rattle.fk_types_structs.specs.declared.types.DataType.{DataType}
use Rattle.fk_types_structs.specs.Types.{StructTree}
use Rattle.fk_types_structs.specs.Sizes.{HasTypeWords}

-- a type has at most one number of words
abbrev pub HasOneSize : Type 0
HasOneSize = (structs : List StructTree) (type : DataType) (m n : ℕ) → HasTypeWords structs type m
    → HasTypeWords structs type n → m ≡ n
