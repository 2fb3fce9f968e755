-- A table of the number of words of structs.
use Rattle.std.specs.Prelude.{◌≡◌, ℕ, ◌<◌, List, Option, Some, None, map, length, slice_get}
use Rattle.std.specs.Prelude.{slice_set, take, Vec}
use Rattle.std.specs.Option.{option_map, option_and_then}
use Rattle.std.specs.declared.alloc.Global.{Global}
use Rattle.fk_types_structs.specs.declared.types.DataType.{DataType}
use Rattle.fk_types_structs.specs.Words.{Sizes, HasWords, total_words, capped}

-- the number of words that a table has for each struct
abbrev pub sizes_of : List (Option ℕ) → Sizes
sizes_of table index = option_and_then (λ (words : Option ℕ). words) (slice_get table index)

abbrev pub types_of : List (Vec (Option DataType) Global) → List (List (Option DataType))
types_of structs = map (λ (v : Vec (Option DataType) Global). v.items) structs

-- what the table has for a struct is its number of words
abbrev pub AreFound : List (List (Option DataType)) → List (Option ℕ) → Type 0
AreFound structs table = (index words : ℕ) → sizes_of table index ≡ Some words
    → (exact : ℕ) × HasWords structs index exact × (words ≡ capped exact)

-- if the table has none for a struct, none follows from what it has for others
abbrev pub AreStuck : List (List (Option DataType)) → List (Option ℕ) → Type 0
AreStuck structs table = (index : ℕ) → index < length structs → sizes_of table index ≡ None
    → option_and_then (total_words (sizes_of table)) (slice_get structs index) ≡ None

-- the table has the number of words of each struct that has one
pub record AreWords (structs : List (List (Option DataType)))
    (table : List (Option ℕ)) : Type 0 where
  pub same_length : length table ≡ length structs
  pub found : AreFound structs table
  pub none : (index : ℕ) → sizes_of table index ≡ None → (exact : ℕ)
      → ¬ HasWords structs index exact

-- a struct gets its number of words from what the table has for others
pub record Settles (before after : List (Option ℕ)) (index : ℕ)
    (types : List (Option DataType)) : Type 0 where
  pub words : ℕ
  pub were_none : sizes_of before index ≡ None
  pub are_total : total_words (sizes_of before) types ≡ Some words
  pub changed : after ≡ slice_set before index (Some (capped words))

-- the number of words before each of the first `count` types
abbrev pub AreFirstOffsets : Sizes → List (Option DataType) → ℕ → List (Option ℕ) → Type 0
AreFirstOffsets sizes types count offsets = (length offsets ≡ count)
    × ((place : ℕ) → place < count
    → slice_get offsets place ≡ Some (option_map capped (total_words sizes (take place types))))

-- the number of words before each of all types
abbrev pub AreOffsets : Sizes → List (Option DataType) → List (Option ℕ) → Type 0
AreOffsets sizes types offsets = AreFirstOffsets sizes types (length types) offsets
