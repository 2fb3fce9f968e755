-- The pieces of a text: its declarations, and each of its expressions with its use.
use Rattle.std.specs.Prelude.{List, [], ◌∷◌, ◌++◌, Option, Some, None}
use Rattle.fk_syntax.specs.declared.place.Spot.{Spot}
use Rattle.fk_syntax.specs.Tree.{TypeTree, Tree}
use Rattle.fk_syntax.specs.Program as p
use Rattle.fk_syntax.specs.Program.{DeclaredTree, Statement, Statements, FunctionTree, ItemTree}
use Rattle.fk_syntax.specs.Program.{ProgramTree}
use Rattle.fk_types_obligations.specs.declared.piece.Role.{Role}
use Rattle.fk_types_obligations.specs.declared.piece.Role.TheVariants as role

-- a variable has its initial value, if there is one. A `return` has its value, if there is one, and
-- the result type of its function
pub data PieceTree : Type 0 where
  FileVariable : (variable : DeclaredTree) → PieceTree
  Variable : (variable : DeclaredTree) → PieceTree
  Parameter : (parameter : DeclaredTree) → PieceTree
  Header : (function : FunctionTree) → PieceTree
  Used : (role : Role) (value : Tree) → PieceTree
  Return : (result : TypeTree) (spot : Spot) (value : Option Tree) → PieceTree

abbrev pub optional_pieces : Role → Option Tree → List PieceTree
optional_pieces role None = []
optional_pieces role (Some value) = Used role value ∷ []

abbrev pub variables_pieces : List DeclaredTree → List PieceTree
variables_pieces [] = []
variables_pieces (x ∷ xs) = Variable x ∷ variables_pieces xs

abbrev pub file_pieces : List DeclaredTree → List PieceTree
file_pieces [] = []
file_pieces (x ∷ xs) = FileVariable x ∷ file_pieces xs

abbrev pub parameters_pieces : List DeclaredTree → List PieceTree
parameters_pieces [] = []
parameters_pieces (x ∷ xs) = Parameter x ∷ parameters_pieces xs

-- the pieces of a statement in a function with this result type
abbrev mutual
  pub statement_pieces : TypeTree → Statement → List PieceTree
  statement_pieces result p.Empty = []
  statement_pieces result (p.Expression value) = Used role.Alone value ∷ []
  statement_pieces result (p.Block statements) = statements_pieces result statements
  statement_pieces result (p.Declare variables) = variables_pieces variables
  statement_pieces result (p.If spot condition body) =
      Used role.Condition condition ∷ statement_pieces result body
  statement_pieces result (p.IfElse spot condition body otherwise) = Used role.Condition condition
      ∷ statement_pieces result body ++ statement_pieces result otherwise
  statement_pieces result (p.While spot condition body) =
      Used role.Condition condition ∷ statement_pieces result body
  statement_pieces result (p.DoWhile spot body condition) =
      statement_pieces result body ++ Used role.Condition condition ∷ []
  statement_pieces result (p.For spot before condition after body) =
      optional_pieces role.Alone before ++ optional_pieces role.Condition condition
      ++ optional_pieces role.Alone after ++ statement_pieces result body
  statement_pieces result (p.Start spot count body) =
      optional_pieces role.Word count ++ statement_pieces result body
  statement_pieces result (p.Farm spot body) = statement_pieces result body
  statement_pieces result (p.Seq spot body) = statement_pieces result body
  statement_pieces result (p.Fork spot parts part rank body) = Used role.Word parts
      ∷ Used role.Word part ∷ optional_pieces role.Word rank ++ statement_pieces result body
  statement_pieces result (p.Barrier spot) = []
  statement_pieces result (p.Break spot) = []
  statement_pieces result (p.Continue spot) = []
  statement_pieces result (p.Return spot value) = Return result spot value ∷ []

  pub statements_pieces : TypeTree → Statements → List PieceTree
  statements_pieces result p.no_statements = []
  statements_pieces result (p.statement first others) =
      statement_pieces result first ++ statements_pieces result others

abbrev pub body_pieces : TypeTree → Option Statements → List PieceTree
body_pieces result None = []
body_pieces result (Some body) = statements_pieces result body

abbrev pub function_pieces : FunctionTree → List PieceTree
function_pieces function = Header function ∷ parameters_pieces function.parameters
    ++ body_pieces function.result function.body

abbrev pub item_pieces : ItemTree → List PieceTree
item_pieces (p.StructItem name members) = []
item_pieces (p.VariablesItem variables) = file_pieces variables
item_pieces (p.FunctionItem function) = function_pieces function

abbrev pub items_pieces : List ItemTree → List PieceTree
items_pieces [] = []
items_pieces (x ∷ xs) = item_pieces x ++ items_pieces xs

-- the pieces of a program, in the order of the text
abbrev pub pieces : ProgramTree → List PieceTree
pieces program = items_pieces program.items
