-- The types of the tokens of a program.
use Rattle.std.specs.Prelude.{◌≡◌, ℕ, List, [], ◌∷◌, ◌++◌, Option, Some, None, slice_get, Contains}
use Rattle.std.specs.Option.{option_map, option_and_then}
use Rattle.fk_syntax.specs.Tree.{Tree}
use Rattle.fk_syntax.specs.Program.{DeclaredTree, ProgramTree}
use Rattle.fk_types_structs.specs.Types.{type_declared, type_spelled}
use Rattle.fk_types_operators.specs.declared.values.ExpressionType.{ExpressionType}
use Rattle.fk_types_operators.specs.declared.values.ExpressionType.TheVariants.{Stored}
use Rattle.fk_types_operators.specs.Values.{result_of}
use Rattle.fk_types_judgments.specs.Term.{term_of}
use Rattle.fk_types_judgments.specs.Names.{Env}
use Rattle.fk_types_judgments.specs.Typing.{Noted, note, noted}
use Rattle.fk_types_obligations.specs.Pieces.{PieceTree, pieces}
use Rattle.fk_types_obligations.specs.Pieces as p

abbrev pub optional_noted : Env → Option Tree → List Noted
optional_noted env None = []
optional_noted env (Some tree) = noted env (term_of tree)

abbrev pub declared_noted : Env → DeclaredTree → List Noted
declared_noted env declared =
    note declared.name.at (option_map Stored (type_declared env.structs declared))

-- the types in a piece, each with its token: those of its expressions at their main tokens, and
-- those of declared names at the names. For a function that is the type of its calls
abbrev pub piece_noted : Env → PieceTree → List Noted
piece_noted env (p.FileVariable variable) =
    declared_noted env variable ++ optional_noted env variable.first
piece_noted env (p.Variable variable) =
    declared_noted env variable ++ optional_noted env variable.first
piece_noted env (p.Parameter parameter) = declared_noted env parameter
piece_noted env (p.Header function) =
    note function.name.at (option_map result_of (type_spelled env.structs function.result None))
piece_noted env (p.Used role value) = noted env (term_of value)
piece_noted env (p.Return result spot value) = optional_noted env value

abbrev pub pieces_noted : Env → List PieceTree → List Noted
pieces_noted env [] = []
pieces_noted env (x ∷ xs) = piece_noted env x ++ pieces_noted env xs

-- the token with this index has this type
abbrev pub HasTypeAt : Env → ProgramTree → ℕ → ExpressionType → Type 0
HasTypeAt env program at type =
    Contains (pieces_noted env (pieces program)) (record { at = at; type = Some type })

-- the type that a table has for a token
abbrev pub type_at : List (Option ExpressionType) → ℕ → Option ExpressionType
type_at types at = option_and_then (λ type. type) (slice_get types at)

-- a table has the types of the tokens of a program
pub record AreTypes (env : Env) (program : ProgramTree)
    (types : List (Option ExpressionType)) : Type 0 where
  pub told : (at : ℕ) (type : ExpressionType) → type_at types at ≡ Some type
      → HasTypeAt env program at type
  pub all : (at : ℕ) (type : ExpressionType) → HasTypeAt env program at type
      → type_at types at ≡ Some type
