-- What declarations declare.
use Rattle.std.specs.Prelude.{◌≡◌, List, Option, Some}
use Rattle.std.specs.Option.{option_map}
use Rattle.fk_syntax.specs.Program.{FunctionTree}
use Rattle.fk_types_structs.specs.declared.types.DataType.{DataType}
use Rattle.fk_types_structs.specs.Types.{StructTree}
use Rattle.fk_types_names.specs.Outline.{DeclarationTree}
use Rattle.fk_types_operators.specs.Values.{result_of}
use Rattle.fk_types_judgments.specs.Names.{IsSignature, IsDeclared}
use Rattle.fk_types_forms.specs.declared.names.Signature.{Signature}
use Rattle.fk_types_forms.specs.declared.names.Entity.{Entity}
use Rattle.fk_types_forms.specs.Scope.{known_meant}

-- a signature has the types of the parameters and the result of a function
pub record HasSignature (structs : List StructTree) (function : FunctionTree)
    (signature : Signature) : Type 0 where
  pub type : Option DataType
  pub right : IsSignature structs function signature.parameters.items type
  pub gives : signature.result ≡ option_map result_of type

-- an entity is what a declaration declares
abbrev pub IsKnown : List StructTree → DeclarationTree → Entity → Type 0
IsKnown structs declaration known = IsDeclared structs declaration (known_meant (Some known))
