-- The rules about declarations of a variable, a member or a parameter.
use Rattle.std.specs.Prelude.{◌≡◌, ℕ, ◌<◌, ◌⊎◌, List, Some, None}
use Rattle.fk_num.specs.Limits.{most_data_words}
use Rattle.fk_syntax.specs.declared.place.Place.{Place}
use Rattle.fk_syntax.specs.Tree.{Named, TypeTree}
use Rattle.fk_syntax.specs.Tree as t
use Rattle.fk_syntax.specs.Program.{DeclaredTree}
use Rattle.fk_check_rules.specs.declared.rule.Rule.TheVariants as rules
use Rattle.fk_check_rules.specs.Least.{Breaks, only, either}
use Rattle.fk_types_structs.specs.declared.types.DataType.{DataType}
use Rattle.fk_types_structs.specs.Types.{StructTree, struct_named, type_declared}
use Rattle.fk_types_structs.specs.Sizes.{HasTypeWords}

-- a type names an undeclared struct, at its name
abbrev pub NamesNoStruct : List StructTree → TypeTree → Place → Type 0
NamesNoStruct structs type place = (name : Named) × (type.base ≡ t.Struct name)
    × (struct_named structs name.bytes ≡ None) × (place ≡ name.place)

-- a type is `void`, and not a pointer
abbrev pub IsVoid : TypeTree → Type 0
IsVoid type = (type.base ≡ t.Void) × (type.stars ≡ 0)

-- a type is a struct, and not a pointer
abbrev pub IsStruct : TypeTree → Type 0
IsStruct type = (name : Named) × (type.base ≡ t.Struct name) × (type.stars ≡ 0)

-- the length of an array is 0 or above the limit
abbrev pub HasWrongLength : DeclaredTree → Type 0
HasWrongLength declared = (length : ℕ) × (declared.length ≡ Some length)
    × ((length ≡ 0) ⊎ (most_data_words < length))

-- a type has more words than the limit
abbrev pub IsTooLarge : List StructTree → DataType → Type 0
IsTooLarge structs type = (words : ℕ) × HasTypeWords structs type words × (most_data_words < words)

-- a declaration has such a type
abbrev pub HasLargeType : List StructTree → DeclaredTree → Type 0
HasLargeType structs declared = (type : DataType) × (type_declared structs declared ≡ Some type)
    × IsTooLarge structs type

-- a fact that is reported at one place
abbrev pub At : Place → Type 0 → Place → Type 0
At here P place = P × (place ≡ here)

-- the rules that a declaration breaks by its type and length alone
abbrev pub DeclarationBreaks : List StructTree → DeclaredTree → Breaks
DeclarationBreaks structs declared =
    either (only rules.NoStruct (NamesNoStruct structs declared.kind))
    (either (only rules.NoVariable (At declared.name.place (IsVoid declared.kind)))
    (only rules.WrongSize
    (At declared.name.place (HasWrongLength declared ⊎ HasLargeType structs declared))))

-- the rules that a parameter breaks, which may not be a struct either
abbrev pub ParameterBreaks : List StructTree → DeclaredTree → Breaks
ParameterBreaks structs parameter = either (DeclarationBreaks structs parameter)
    (only rules.NoVariable (At parameter.name.place (IsStruct parameter.kind)))

-- the rules that the result of a function breaks by its type, reported at the function's name
abbrev pub ResultBreaks : List StructTree → TypeTree → Place → Breaks
ResultBreaks structs type here = either (only rules.NoStruct (NamesNoStruct structs type))
    (only rules.NoVariable (At here (IsStruct type)))

-- the rules that a `sizeof` breaks by its type
abbrev pub SizeofBreaks : List StructTree → TypeTree → Place → Breaks
SizeofBreaks structs type here = either (only rules.NoStruct (NamesNoStruct structs type))
    (only rules.NoVariable (At here (IsVoid type)))
