-- Types, and the types that written types spell.
use Rattle.std.specs.Prelude.{ℕ, suc, List, [], ◌∷◌, Option, Some, None, map, nat_eq, if◌then◌else◌}
use Rattle.std.specs.Prelude.{slice_get}
use Rattle.std.specs.Option.{option_map, option_and_then}
use Rattle.std.specs.Cmp.Lexicographic.{pointwise}
use Rattle.fk_syntax.specs.Tree.{Named, BaseType, TypeTree}
use Rattle.fk_syntax.specs.Tree as t
use Rattle.fk_syntax.specs.Program.{DeclaredTree, ItemTree}
use Rattle.fk_syntax.specs.Program as p
use Rattle.fk_types_structs.specs.declared.types.Root.{Root}
use Rattle.fk_types_structs.specs.declared.types.Root.TheVariants as r
use Rattle.fk_types_structs.specs.declared.types.DataType.{DataType}

-- the first position of a text in a list
abbrev pub first_of : List ℕ → List (List ℕ) → Option ℕ
first_of text [] = None
first_of text (name ∷ names) = if pointwise nat_eq text name then Some 0
    else option_map suc (first_of text names)

-- the declaration of a struct
pub record StructTree : Type 0 where
  pub name : Named
  pub members : List DeclaredTree

-- the structs of a text, in the order of their declarations
abbrev pub structs_of : List ItemTree → List StructTree
structs_of [] = []
structs_of (p.StructItem name members ∷ items) =
    record { name = name; members = members } ∷ structs_of items
structs_of (item ∷ items) = structs_of items

abbrev pub names_of : List StructTree → List (List ℕ)
names_of structs = map (λ (s : StructTree). s.name.bytes) structs

abbrev pub member_names : List DeclaredTree → List (List ℕ)
member_names members = map (λ (d : DeclaredTree). d.name.bytes) members

-- the struct that a name denotes: the first one, if there are several with the name
abbrev pub struct_named : List StructTree → List ℕ → Option ℕ
struct_named structs text = first_of text (names_of structs)

abbrev pub root_of : List StructTree → BaseType → Option Root
root_of structs t.Int = Some r.Int
root_of structs t.Unsigned = Some r.Unsigned
root_of structs t.Void = Some r.Void
root_of structs (t.Struct name) = option_map r.Struct (struct_named structs name.bytes)

-- a written type with the length of an array, if it is one; there is none for an undeclared struct
abbrev pub type_spelled : List StructTree → TypeTree → Option ℕ → Option DataType
type_spelled structs tree length = option_map (λ (root : Root).
    record { root = root; stars = tree.stars; length = length }) (root_of structs tree.base)

-- the type of a declaration
abbrev pub type_declared : List StructTree → DeclaredTree → Option DataType
type_declared structs declared = type_spelled structs declared.kind declared.length

-- the types of a struct's members
abbrev pub member_types : List StructTree → StructTree → List (Option DataType)
member_types structs s = map (type_declared structs) s.members

-- the types of the members of each struct
abbrev pub all_types : List StructTree → List (List (Option DataType))
all_types structs = map (member_types structs) structs

-- the position of a member in its struct: the first one, if there are several with the name
abbrev pub member_named : List StructTree → ℕ → List ℕ → Option ℕ
member_named structs index text = option_and_then
    (λ (s : StructTree). first_of text (member_names s.members)) (slice_get structs index)

-- the type of the member at a position
abbrev pub member_type : List StructTree → ℕ → ℕ → Option DataType
member_type structs index place = option_and_then (λ (s : StructTree).
    option_and_then (type_declared structs) (slice_get s.members place)) (slice_get structs index)
