-- The rules about the declarations of structs.
use Rattle.std.specs.Prelude.{◌≡◌, ℕ, zero, ◌<◌, List, Option, Some, None}
use Rattle.std.specs.Option.{option_and_then}
use Rattle.fk_syntax.specs.Program.{DeclaredTree}
use Rattle.fk_check_rules.specs.declared.rule.Rule.TheVariants as rules
use Rattle.fk_check_rules.specs.Least.{Breaks, only, either, among}
use Rattle.fk_types_graph.specs.Graph.{LeadsTo}
use Rattle.fk_types_structs.specs.declared.types.Root.{Root}
use Rattle.fk_types_structs.specs.declared.types.Root.TheVariants as r
use Rattle.fk_types_structs.specs.declared.types.DataType.{DataType}
use Rattle.fk_types_structs.specs.Types.{StructTree, struct_named, member_named, member_type}
use Rattle.fk_types_struct_rules.specs.Declarations.{At, IsTooLarge, DeclarationBreaks}

-- the type of a struct itself
abbrev pub whole : ℕ → DataType
whole index = record { root = r.Struct index; stars = 0; length = None }

-- the struct that a type without its length contains; a pointer contains none
abbrev pub held_by : Root → ℕ → Option ℕ
held_by (r.Struct index) zero = Some index
held_by root stars = None

-- the struct that a member is, or of which it is an array
abbrev pub held_at : List StructTree → ℕ → ℕ → Option ℕ
held_at structs index place = option_and_then (λ (type : DataType). held_by type.root type.stars)
    (member_type structs index place)

-- a struct contains another one by one of its members
abbrev pub Holds : List StructTree → ℕ → ℕ → Type 0
Holds structs index other = (place : ℕ) × (held_at structs index place ≡ Some other)

-- a struct contains itself, by one of its members or through other structs
abbrev pub HoldsItself : List StructTree → ℕ → Type 0
HoldsItself structs index = LeadsTo (Holds structs) index index

-- a struct is declared again: its name denotes an earlier one
abbrev pub IsSecondStruct : List StructTree → ℕ → StructTree → Type 0
IsSecondStruct structs index s = (earlier : ℕ) × (struct_named structs s.name.bytes ≡ Some earlier)
    × (earlier < index)

-- a member is declared again: its name denotes an earlier one of its struct
abbrev pub IsSecondMember : List StructTree → ℕ → ℕ → DeclaredTree → Type 0
IsSecondMember structs index place member = (earlier : ℕ)
    × (member_named structs index member.name.bytes ≡ Some earlier) × (earlier < place)

-- the rules that a struct breaks by its name and its words, reported at its name
abbrev pub NameBreaks : List StructTree → ℕ → StructTree → Breaks
NameBreaks structs index s =
    either (only rules.DeclaredTwice (At s.name.place (IsSecondStruct structs index s)))
    (only rules.WrongSize (At s.name.place (IsTooLarge structs (whole index))))

-- the rules that a member breaks
abbrev pub MemberBreaks : List StructTree → ℕ → ℕ → DeclaredTree → Breaks
MemberBreaks structs index place member = either
    (only rules.DeclaredTwice (At member.name.place (IsSecondMember structs index place member)))
    (DeclarationBreaks structs member)

-- the rules that a struct breaks by its name, its words and its members
abbrev pub StructBreaks : List StructTree → ℕ → StructTree → Breaks
StructBreaks structs index s =
    either (NameBreaks structs index s) (among (MemberBreaks structs index) s.members)

-- the rule that a struct breaks that contains itself, reported at its name
abbrev pub HoldingBreaks : List StructTree → ℕ → StructTree → Breaks
HoldingBreaks structs index s = only rules.NoStruct (At s.name.place (HoldsItself structs index))

-- the rules that the declarations of structs in a text break
abbrev pub StructsBreak : List StructTree → Breaks
StructsBreak structs =
    either (among (HoldingBreaks structs) structs) (among (StructBreaks structs) structs)
