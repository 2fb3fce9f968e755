-- Statements and programs, as trees without memory locations.
use Rattle.std.specs.Prelude.{ℕ, List, [], ◌∷◌, Option, Some, None, Bool}
use Rattle.fk_syntax.specs.declared.place.Place.{Place}
use Rattle.fk_syntax.specs.declared.place.Spot.{Spot}
use Rattle.fk_syntax.specs.declared.program.Mode.{Mode}
use Rattle.fk_syntax.specs.Tree.{Named, TypeTree, Tree}

-- what is declared: a variable, a member or a parameter
pub record DeclaredTree : Type 0 where
  pub shared : Bool
  pub kind : TypeTree
  pub name : Named
  pub length : Option ℕ
  pub first : Option Tree

-- a statement, and the lists in it
mutual
  pub data Statement : Type 0 where
    Empty : Statement
    Expression : (value : Tree) → Statement
    Block : (statements : Statements) → Statement
    Declare : (variables : List DeclaredTree) → Statement
    If : (spot : Spot) (condition : Tree) (then : Statement) → Statement
    IfElse : (spot : Spot) (condition : Tree) (then otherwise : Statement) → Statement
    While : (spot : Spot) (condition : Tree) (body : Statement) → Statement
    DoWhile : (spot : Spot) (body : Statement) (condition : Tree) → Statement
    For : (spot : Spot) (before condition after : Option Tree) (body : Statement) → Statement
    Start : (spot : Spot) (count : Option Tree) (body : Statement) → Statement
    Farm : (spot : Spot) (body : Statement) → Statement
    Seq : (spot : Spot) (body : Statement) → Statement
    Fork : (spot : Spot) (parts part : Tree) (rank : Option Tree) (body : Statement) → Statement
    Barrier : (spot : Spot) → Statement
    Break : (spot : Spot) → Statement
    Continue : (spot : Spot) → Statement
    Return : (spot : Spot) (value : Option Tree) → Statement

  pub data Statements : Type 0 where
    no_statements : Statements
    statement : (first : Statement) (others : Statements) → Statements

-- the statements of a list
abbrev pub statements_of : List Statement → Statements
statements_of [] = no_statements
statements_of (x ∷ xs) = statement x (statements_of xs)

-- an `if`, with its `else` if it has one
abbrev pub branch : Spot → Tree → Statement → Option Statement → Statement
branch spot condition then None = If spot condition then
branch spot condition then (Some otherwise) = IfElse spot condition then otherwise

-- a function, with its body if it has one
pub record FunctionTree : Type 0 where
  pub mode : Mode
  pub result : TypeTree
  pub name : Named
  pub parameters : List DeclaredTree
  pub body : Option Statements

-- an item: one of the declarations of which a text consists
pub data ItemTree : Type 0 where
  StructItem : (name : Named) (members : List DeclaredTree) → ItemTree
  VariablesItem : (variables : List DeclaredTree) → ItemTree
  FunctionItem : (function : FunctionTree) → ItemTree

-- a text: its items, the place after its last token, and the number of its tokens
pub record ProgramTree : Type 0 where
  pub items : List ItemTree
  pub end : Place
  pub tokens : ℕ
