-- The number of words of types, and the number of words before members.
use Rattle.std.specs.Prelude.{◌≡◌, ℕ, ◌<◌, List, Some, take, length, slice_get}
use Rattle.fk_types_structs.specs.declared.types.DataType.{DataType}
use Rattle.fk_types_structs.specs.Types.{StructTree, member_types, all_types}
use Rattle.fk_types_structs.specs.Words.{type_words, total_words, words_within}

-- a type has this number of words
abbrev pub HasTypeWords : List StructTree → DataType → ℕ → Type 0
HasTypeWords structs type words = (depth : ℕ)
    × (type_words (words_within depth (all_types structs)) type ≡ Some words)

-- the members before a position have this number of words
abbrev pub HasOffset : List StructTree → ℕ → ℕ → ℕ → Type 0
HasOffset structs index place words = (s : StructTree) × (slice_get structs index ≡ Some s)
    × (place < length s.members)
    × ((depth : ℕ) × (total_words (words_within depth (all_types structs))
    (take place (member_types structs s)) ≡ Some words))
