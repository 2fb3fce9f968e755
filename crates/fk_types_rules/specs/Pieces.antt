-- The rules that the pieces of a text break.
use Rattle.std.specs.Prelude.{◌⊎◌, Bool, false, not, Option, Some, None, is_some, IsSome}
use Rattle.std.specs.Prelude.{if◌then◌else◌}
use Rattle.fk_syntax.specs.declared.place.Place.{Place}
use Rattle.fk_syntax.specs.declared.place.Spot.{Spot}
use Rattle.fk_syntax.specs.Tree.{TypeTree, Tree}
use Rattle.fk_syntax.specs.Program.{DeclaredTree}
use Rattle.fk_check_rules.specs.declared.rule.Rule.TheVariants as rules
use Rattle.fk_check_rules.specs.Least.{Breaks, only, either}
use Rattle.fk_types_structs.specs.declared.types.DataType.{DataType}
use Rattle.fk_types_structs.specs.Types.{type_declared, type_spelled}
use Rattle.fk_types_struct_rules.specs.Declarations.{At, IsVoid, IsStruct, DeclarationBreaks}
use Rattle.fk_types_struct_rules.specs.Declarations.{ParameterBreaks, ResultBreaks}
use Rattle.fk_types_operators.specs.declared.values.Value.{Value}
use Rattle.fk_types_operators.specs.declared.values.Operand.{Operand}
use Rattle.fk_types_operators.specs.Values.{value_stored}
use Rattle.fk_types_operators.specs.Signs.{converts}
use Rattle.fk_types_judgments.specs.Term.{Term, term_of}
use Rattle.fk_types_judgments.specs.Names.{Env}
use Rattle.fk_types_judgments.specs.Typing.{type_of, operand_in, is_zero}
use Rattle.fk_types_judgments.specs.Broken.{where_so, nothing, Broken, as_value, as_condition}
use Rattle.fk_types_judgments.specs.Broken.{as_statement}
use Rattle.fk_types_obligations.specs.declared.piece.Role.{Role}
use Rattle.fk_types_obligations.specs.declared.piece.Role.TheVariants as role
use Rattle.fk_types_obligations.specs.Pieces.{PieceTree}
use Rattle.fk_types_obligations.specs.Pieces as p
use Rattle.fk_types_rules.specs.Constant.{ConstantBreaks}

-- the value type of a stored value that is neither an array nor a struct
abbrev pub scalar : Option DataType → Option Value
scalar None = None
scalar (Some type) = if is_some type.length then None else value_stored type

-- there are two types, and the first doesn't convert to the second
abbrev pub is_not_converted : Option Operand → Option Value → Bool
is_not_converted (Some from) (Some to) = not (converts from to)
is_not_converted _ _ = false

-- a value doesn't convert to a type, which is reported at a place
abbrev pub ConversionBreaks : Env → Place → Option DataType → Term → Breaks
ConversionBreaks env place type term = where_so rules.NoConversion place
    (is_not_converted (operand_in (is_zero term) (type_of env term)) (scalar type))

-- a variable with an initial value is an array or a struct
abbrev pub WholeInitialBreaks : DeclaredTree → Breaks
WholeInitialBreaks variable = only rules.WholeAssigned
    (At variable.name.place (IsSome variable.length ⊎ IsStruct variable.kind))

-- the rules that an initial value breaks
abbrev pub InitialBreaks : Env → DeclaredTree → Term → Breaks
InitialBreaks env variable term = either (as_value env term (Broken env term))
    (either (ConversionBreaks env variable.name.place (type_declared env.structs variable) term)
    (WholeInitialBreaks variable))

abbrev pub FileInitialBreaks : Env → DeclaredTree → Term → Breaks
FileInitialBreaks env variable term =
    either (InitialBreaks env variable term) (ConstantBreaks env term)

-- the rules that an expression breaks, if there is one
abbrev pub if_there : (Term → Breaks) → Option Tree → Breaks
if_there broken None = nothing
if_there broken (Some tree) = broken (term_of tree)

abbrev pub UsedBreaks : Env → Role → Term → Breaks
UsedBreaks env role.Condition term = as_condition env term (Broken env term)
UsedBreaks env role.Alone term = as_statement env term (Broken env term)
UsedBreaks env role.Word term = as_value env term (Broken env term)

-- a `return` without a value is in a function that has a result, or one with a value is in another
abbrev pub ReturnBreaks : Env → TypeTree → Spot → Option Tree → Breaks
ReturnBreaks env result spot None = only rules.WrongReturn (At spot.place (¬ IsVoid result))
ReturnBreaks env result spot (Some value) =
    either (as_value env (term_of value) (Broken env (term_of value)))
    (either (ConversionBreaks env spot.place (type_spelled env.structs result None) (term_of value))
    (only rules.WrongReturn (At spot.place (IsVoid result))))

-- the rules that a piece breaks
abbrev pub PieceBreaks : Env → PieceTree → Breaks
PieceBreaks env (p.FileVariable variable) = either (DeclarationBreaks env.structs variable)
    (if_there (FileInitialBreaks env variable) variable.first)
PieceBreaks env (p.Variable variable) = either (DeclarationBreaks env.structs variable)
    (if_there (InitialBreaks env variable) variable.first)
PieceBreaks env (p.Parameter parameter) = ParameterBreaks env.structs parameter
PieceBreaks env (p.Header function) = ResultBreaks env.structs function.result function.name.place
PieceBreaks env (p.Used role value) = UsedBreaks env role (term_of value)
PieceBreaks env (p.Return result spot value) = ReturnBreaks env result spot value
