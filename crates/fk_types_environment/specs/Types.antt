-- The types of declared names. There is none if the declaration breaks a rule.
use Rattle.std.specs.Prelude.{List, Option, None, Vec}
use Rattle.std.specs.List.{AllZip}
use Rattle.std.specs.declared.alloc.Global.{Global}
use Rattle.fk_syntax.specs.Program.{DeclaredTree, FunctionTree}
use Rattle.fk_types_structs.specs.declared.types.DataType.{DataType}
use Rattle.fk_types_structs.specs.Types.{StructTree, type_declared, type_spelled}
use Rattle.fk_types_struct_rules.specs.Declarations.{DeclarationBreaks, ParameterBreaks}
use Rattle.fk_types_struct_rules.specs.Declarations.{ResultBreaks}
use Rattle.fk_types_judgments.specs.Names.{HasDeclaredType}

-- the type of a variable or a member
abbrev pub HasVariableType : List StructTree → DeclaredTree → Option DataType → Type 0
HasVariableType structs declared type = HasDeclaredType structs (DeclarationBreaks structs declared)
    (type_declared structs declared) type

abbrev pub HasParameterType : List StructTree → DeclaredTree → Option DataType → Type 0
HasParameterType structs parameter type = HasDeclaredType structs
    (ParameterBreaks structs parameter) (type_declared structs parameter) type

abbrev pub HasResultType : List StructTree → FunctionTree → Option DataType → Type 0
HasResultType structs function type =
    HasDeclaredType structs (ResultBreaks structs function.result function.name.place)
    (type_spelled structs function.result None) type

-- the types of the members of a struct, in their order
abbrev pub AreMemberTypes : List StructTree → StructTree → Vec (Option DataType) Global → Type 0
AreMemberTypes structs s types = AllZip (HasVariableType structs) s.members types.items
