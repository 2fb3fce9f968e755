-- What the names in expressions denote.
use Rattle.std.specs.Prelude.{◌≡◌, ℕ, Bool, ◌||◌, List, [], ◌∷◌, length, map, codes, nat_eq, Option}
use Rattle.std.specs.Prelude.{Some, None, slice_get, if◌then◌else◌}
use Rattle.std.specs.Option.{option_map}
use Rattle.std.specs.Cmp.Lexicographic.{pointwise}
use Rattle.fk_syntax.specs.declared.place.Place.{Place}
use Rattle.fk_syntax.specs.Tree.{Named}
use Rattle.fk_syntax.specs.Program.{DeclaredTree, FunctionTree, ProgramTree}
use Rattle.fk_check_rules.specs.declared.rule.Rule.{Rule}
use Rattle.fk_check_rules.specs.Least.{Breaks}
use Rattle.fk_types_structs.specs.declared.types.Root.TheVariants as r
use Rattle.fk_types_structs.specs.declared.types.DataType.{DataType}
use Rattle.fk_types_structs.specs.Types.{StructTree, structs_of, type_declared, type_spelled}
use Rattle.fk_types_struct_rules.specs.Declarations.{DeclarationBreaks, ParameterBreaks}
use Rattle.fk_types_struct_rules.specs.Declarations.{ResultBreaks}
use Rattle.fk_types_names.specs.declared.names.Meaning.{Meaning}
use Rattle.fk_types_names.specs.declared.names.Meaning.TheVariants as m
use Rattle.fk_types_names.specs.Outline.{DeclarationTree, Variable, Header, declarations}
use Rattle.fk_types_names.specs.Means.{Means}
use Rattle.fk_types_operators.specs.declared.values.Value.{Value}
use Rattle.fk_types_operators.specs.declared.values.Value.TheVariants.{Int}
use Rattle.fk_types_operators.specs.declared.values.ExpressionType.{ExpressionType}
use Rattle.fk_types_operators.specs.declared.values.ExpressionType.TheVariants.{Computed, Nothing}
use Rattle.fk_types_operators.specs.Values.{result_of}

-- the arguments that a parameter takes: those that convert to its type, or a pointer to integers
-- without a conversion. There is no type if its declaration breaks a rule
pub data Parameter : Type 0 where
  Typed : (type : Option DataType) → Parameter
  Words : Parameter

-- the type of a call: always the same one, or that of what the first argument points to
pub data Result : Type 0 where
  Always : (type : Option ExpressionType) → Result
  Pointed : Result

-- what a name denotes. A variable has no type if its declaration breaks a rule
pub data Meant : Type 0 where
  Kept : (type : Option DataType) → Meant
  Constant : (value : Value) → Meant
  Called : (parameters : List Parameter) (result : Result) → Meant
  Main : Meant
  Undeclared : Meant

abbrev pub int : DataType
int = record { root = r.Int; stars = 0; length = None }

abbrev pub void_pointer : DataType
void_pointer = record { root = r.Void; stars = 1; length = None }

abbrev pub is_text : List ℕ → List ℕ → Bool
is_text = pointwise nat_eq

-- the type of the input numbers, of which there are at most 65,536
abbrev pub input : DataType
input = record { root = r.Int; stars = 0; length = Some 65536 }

-- the predeclared names
abbrev pub is_multiprefix : List ℕ → Bool
is_multiprefix name = is_text name (codes "mpadd") || is_text name (codes "mpmax")
    || is_text name (codes "mpand") || is_text name (codes "mpor")

abbrev pub is_request : List ℕ → Bool
is_request name = is_text name (codes "shmalloc") || is_text name (codes "shalloc")
    || is_text name (codes "malloc")

abbrev pub is_output : List ℕ → Bool
is_output name = is_text name (codes "putint") || is_text name (codes "putchar")

abbrev pub predeclared_meant : List ℕ → Meant
predeclared_meant name =
    if is_multiprefix name then Called (Words ∷ Typed (Some int) ∷ []) Pointed
    else (if is_request name then Called (Typed (Some int) ∷ [])
    (Always (Some (result_of void_pointer)))
    else (if is_output name then Called (Typed (Some int) ∷ []) (Always (Some Nothing))
    else (if is_text name (codes "groupsize") then Called [] (Always (Some (Computed Int)))
    else (if is_text name (codes "__input") then Kept (Some input)
    else Constant Int))))

-- the facts that expressions need: the structs, what each name denotes, and the types of the
-- members of structs, by their positions. A member has none if its declaration breaks a rule
pub record Env : Type 0 where
  pub structs : List StructTree
  pub meant : Named → Meant
  pub member_type : ℕ → ℕ → Option DataType

-- a declared name has this type, and none if its declaration breaks a rule
abbrev pub HasDeclaredType : List StructTree → Breaks → Option DataType → Option DataType → Type 0
HasDeclaredType structs broken spelled None = (place : Place) × (rule : Rule) × broken place rule
HasDeclaredType structs broken spelled (Some type) = (spelled ≡ Some type)
    × ((place : Place) (rule : Rule) → ¬ broken place rule)

-- the types of the parameters and the result of a function
pub record IsSignature (structs : List StructTree) (function : FunctionTree)
    (parameters : List (Option DataType)) (result : Option DataType) : Type 0 where
  pub same : length parameters ≡ length function.parameters
  pub each : (i : ℕ) (p : DeclaredTree) (type : Option DataType)
      → slice_get function.parameters i ≡ Some p → slice_get parameters i ≡ Some type
      → HasDeclaredType structs (ParameterBreaks structs p) (type_declared structs p) type
  pub gives : HasDeclaredType structs (ResultBreaks structs function.result function.name.place)
      (type_spelled structs function.result None) result

-- a declaration declares this
abbrev pub IsDeclared : List StructTree → DeclarationTree → Meant → Type 0
IsDeclared structs (Variable variable) meant = (type : Option DataType)
    × HasDeclaredType structs (DeclarationBreaks structs variable)
    (type_declared structs variable) type × (meant ≡ Kept type)
IsDeclared structs (Header function) meant = (parameters : List (Option DataType))
    × (result : Option DataType)
    × IsSignature structs function parameters result
    × (meant ≡ (if is_text function.name.bytes (codes "main") then Main
    else Called (map Typed parameters) (Always (option_map result_of result))))

-- a name with this meaning denotes this
abbrev pub IsMeant : ProgramTree → List ℕ → Meaning → Meant → Type 0
IsMeant program name (m.Declared number) meant = (d : DeclarationTree)
    × (slice_get (declarations program) number ≡ Some d)
    × IsDeclared (structs_of program.items) d meant
IsMeant program name m.Predeclared meant = meant ≡ predeclared_meant name
IsMeant program name m.Undeclared meant = meant ≡ Undeclared

-- the facts are right about a program
pub record IsEnv (program : ProgramTree) (env : Env) : Type 0 where
  pub structs : env.structs ≡ structs_of program.items
  pub meant : (name : Named) (meaning : Meaning) → Means program name.at meaning
      → IsMeant program name.bytes meaning (env.meant name)
  pub member_type : (index place : ℕ) (s : StructTree) (d : DeclaredTree)
      → slice_get env.structs index ≡ Some s → slice_get s.members place ≡ Some d
      → HasDeclaredType env.structs (DeclarationBreaks env.structs d) (type_declared env.structs d)
      (env.member_type index place)
