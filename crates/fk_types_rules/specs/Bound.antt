-- The bindings of the tokens of a program.
use Rattle.std.specs.Prelude.{◌≡◌, ℕ, ◌*◌, ◌^◌, ◌-◌, Bool, true, false, List, [], ◌∷◌, ◌++◌, Option}
use Rattle.std.specs.Prelude.{Some, None, slice_get, Contains}
use Rattle.std.specs.Option.{option_and_then}
use Rattle.fk_syntax.specs.declared.place.Spot.{Spot}
use Rattle.fk_syntax.specs.Tree.{Named, TypeTree}
use Rattle.fk_syntax.specs.Program.{ProgramTree}
use Rattle.fk_types_structs.specs.declared.types.DataType.{DataType}
use Rattle.fk_types_structs.specs.Types.{type_spelled, member_named}
use Rattle.fk_types_structs.specs.Words.{capped}
use Rattle.fk_types_structs.specs.Sizes.{HasTypeWords, HasOffset}
use Rattle.fk_types_names.specs.declared.names.Meaning.TheVariants as m
use Rattle.fk_types_names.specs.Outline.{DeclarationTree, Declares, outline, name_of}
use Rattle.fk_types_names.specs.Means.{Means, Denotes, binding}
use Rattle.fk_types_operators.specs.declared.values.ExpressionType.{ExpressionType}
use Rattle.fk_types_operators.specs.Values.{value_of}
use Rattle.fk_types_judgments.specs.Names.{Env}
use Rattle.fk_types_judgments.specs.Typing.{struct_of, struct_at}
use Rattle.fk_types_obligations.specs.Pieces.{PieceTree, pieces}
use Rattle.fk_types_obligations.specs.Pieces as p
use Rattle.fk_types_references.specs.References.{ReferenceTree, Name, Member, Size, tree_references}
use Rattle.fk_types_references.specs.References.{optional_references}
use Rattle.fk_types_rules.specs.Noted.{HasTypeAt}

-- the references in the expressions of a piece
abbrev pub piece_references : PieceTree → List ReferenceTree
piece_references (p.FileVariable variable) = optional_references variable.first
piece_references (p.Variable variable) = optional_references variable.first
piece_references (p.Parameter parameter) = []
piece_references (p.Header function) = []
piece_references (p.Used role value) = tree_references value
piece_references (p.Return result spot value) = optional_references value

abbrev pub pieces_references : List PieceTree → List ReferenceTree
pieces_references [] = []
pieces_references (x ∷ xs) = piece_references x ++ pieces_references xs

-- the struct whose member is named: after `.` the expression itself, after `->` what it points to
abbrev pub struct_before : Bool → ExpressionType → Option ℕ
struct_before false type = struct_of type
struct_before true type = option_and_then struct_at (value_of type)

-- the number to which a reference refers: that of a declaration or of predeclared names; the words
-- before a member; the bytes of a type. All sizes above the limit are the same
pub data Refers (env : Env) (program : ProgramTree) : ReferenceTree → ℕ → Type 0 where
  declared : (name : Named) (number : ℕ) → Means program name.at (m.Declared number)
      → Refers env program (Name name) number
  predeclared : (name : Named) → Means program name.at m.Predeclared
      → Refers env program (Name name) (2 ^ 32 - 1)
  member : (whole : ℕ) (is_arrow : Bool) (name : Named) (type : ExpressionType)
      (index place words : ℕ)
      → HasTypeAt env program whole type → struct_before is_arrow type ≡ Some index
      → member_named env.structs index name.bytes ≡ Some place
      → HasOffset env.structs index place words
      → Refers env program (Member whole is_arrow name) (capped words)
  size : (spot : Spot) (tree : TypeTree) (type : DataType) (words : ℕ)
      → type_spelled env.structs tree None ≡ Some type → HasTypeWords env.structs type words
      → Refers env program (Size spot tree) (4 * capped words)

-- the index of the token of a reference
abbrev pub token_of : ReferenceTree → ℕ
token_of (Name name) = name.at
token_of (Member whole is_arrow name) = name.at
token_of (Size spot type) = spot.at

-- the binding of the token with this index: the number to which its reference refers, or that of
-- the declaration for which the declared name there stands
pub data IsBound (env : Env) (program : ProgramTree) (at : ℕ) : ℕ → Type 0 where
  refers : (r : ReferenceTree) (number : ℕ) → Contains (pieces_references (pieces program)) r
      → token_of r ≡ at → Refers env program r number → IsBound env program at number
  declares : (d : DeclarationTree) (here meant : ℕ)
      → slice_get (outline program) here ≡ Some (Declares d) → (name_of d).at ≡ at
      → Denotes (outline program) (name_of d).bytes here d meant
      → IsBound env program at (binding (outline program) meant)

-- each token that has a binding has its number
abbrev pub AreBound : Env → ProgramTree → List ℕ → Type 0
AreBound env program numbers = (at number : ℕ) → IsBound env program at number
    → slice_get numbers at ≡ Some number

-- each token without a binding has 0
abbrev pub AreUnbound : Env → ProgramTree → List ℕ → Type 0
AreUnbound env program numbers = (at number : ℕ) → ((bound : ℕ) → ¬ IsBound env program at bound)
    → slice_get numbers at ≡ Some number → number ≡ 0
