-- The number of words of a type.
use Rattle.std.specs.Prelude.{◌≡◌, ℕ, zero, suc, ◌+◌, ◌*◌, List, [], ◌∷◌, Option, Some, None}
use Rattle.std.specs.Prelude.{unwrap_or, slice_get, min}
use Rattle.std.specs.Option.{option_map, option_and_then}
use Rattle.fk_num.specs.Limits.{most_data_words}
use Rattle.fk_types_structs.specs.declared.types.Root.{Root}
use Rattle.fk_types_structs.specs.declared.types.Root.TheVariants as r
use Rattle.fk_types_structs.specs.declared.types.DataType.{DataType}

-- the number of words of each struct, if it has one
abbrev pub Sizes : Type 0
Sizes = ℕ → Option ℕ

-- the words of a root, where those of structs are given; 0 for `void`
abbrev pub root_words : Sizes → Root → Option ℕ
root_words sizes r.Int = Some 1
root_words sizes r.Unsigned = Some 1
root_words sizes r.Void = Some 0
root_words sizes (r.Struct index) = sizes index

-- a pointer has one word, whatever it points to
abbrev pub element_words : Sizes → Root → ℕ → Option ℕ
element_words sizes root zero = root_words sizes root
element_words sizes root (suc stars) = Some 1

-- an array has the words of its elements
abbrev pub type_words : Sizes → DataType → Option ℕ
type_words sizes type =
    option_map (λ n. n * unwrap_or type.length 1) (element_words sizes type.root type.stars)

-- a sum, if both numbers exist
abbrev pub plus : Option ℕ → Option ℕ → Option ℕ
plus (Some a) (Some b) = Some (a + b)
plus _ _ = None

-- the number of words of types that follow each other; if one of them has none, there is none
abbrev pub total_words : Sizes → List (Option DataType) → Option ℕ
total_words sizes [] = Some 0
total_words sizes (type ∷ types) =
    plus (option_and_then (type_words sizes) type) (total_words sizes types)

-- the number of words of a struct whose nesting is at most `depth`: the members of a struct are one
-- level deeper than it
abbrev pub words_within : ℕ → List (List (Option DataType)) → Sizes
words_within zero structs index = None
words_within (suc depth) structs index =
    option_and_then (total_words (words_within depth structs)) (slice_get structs index)

-- a struct has this number of words. A struct that contains itself has none at any depth
abbrev pub HasWords : List (List (Option DataType)) → ℕ → ℕ → Type 0
HasWords structs index words = (depth : ℕ) × (words_within depth structs index ≡ Some words)

-- all sizes above the limit of 524,288 count as the same
abbrev pub capped : ℕ → ℕ
capped words = min words (most_data_words + 1)
