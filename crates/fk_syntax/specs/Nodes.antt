-- The token indices that a program contains, in the order of the tokens in its text.
use Rattle.std.specs.Prelude.{List, [], ◌∷◌, ◌++◌, Option, Some, None}
use Rattle.fk_syntax.specs.declared.nodes.Index.{Index}
use Rattle.fk_syntax.specs.declared.nodes.Index.TheVariants.{Node, StructName}
use Rattle.fk_syntax.specs.Tree as t
use Rattle.fk_syntax.specs.Tree.{Named, BaseType, TypeTree, Tree, Links, Trees, Suffixes}
use Rattle.fk_syntax.specs.Program as p
use Rattle.fk_syntax.specs.Program.{DeclaredTree, Statement, Statements, FunctionTree, ItemTree}
use Rattle.fk_syntax.specs.Program.{ProgramTree}

-- the name of a struct in a type isn't a node
abbrev pub base_indices : BaseType → List Index
base_indices t.Int = []
base_indices t.Unsigned = []
base_indices t.Void = []
base_indices (t.Struct name) = StructName name.at ∷ []

abbrev pub type_indices : TypeTree → List Index
type_indices type = base_indices type.base

-- the indices of an expression and of everything in it
abbrev mutual
  pub tree_indices : Tree → List Index
  tree_indices (t.Number spot value unsigned) = Node spot.at ∷ []
  tree_indices (t.Puts spot text) = Node spot.at ∷ []
  tree_indices (t.Sizeof spot type) = Node spot.at ∷ type_indices type
  tree_indices (t.Variable name) = Node name.at ∷ []
  tree_indices (t.GroupNumber spot) = Node spot.at ∷ []
  tree_indices (t.GroupRank spot) = Node spot.at ∷ []
  tree_indices (t.Prefix spot sign operand) = Node spot.at ∷ tree_indices operand
  tree_indices (t.Cast spot type operand) = Node spot.at ∷ type_indices type ++ tree_indices operand
  tree_indices (t.Chain first links) = tree_indices first ++ links_indices links
  tree_indices (t.Postfix whole suffixes) = tree_indices whole ++ suffixes_indices suffixes
  tree_indices (t.Assign spot sign target value) =
      tree_indices target ++ (Node spot.at ∷ tree_indices value)
  tree_indices (t.Choose spot condition first second) =
      tree_indices condition ++ (Node spot.at ∷ tree_indices first) ++ tree_indices second

  pub links_indices : Links → List Index
  links_indices t.no_links = []
  links_indices (t.link spot sign right others) =
      Node spot.at ∷ tree_indices right ++ links_indices others

  pub trees_indices : Trees → List Index
  trees_indices t.no_trees = []
  trees_indices (t.tree first others) = tree_indices first ++ trees_indices others

  pub suffixes_indices : Suffixes → List Index
  suffixes_indices t.no_suffixes = []
  suffixes_indices (t.index spot by others) =
      Node spot.at ∷ tree_indices by ++ suffixes_indices others
  suffixes_indices (t.call spot arguments others) =
      Node spot.at ∷ trees_indices arguments ++ suffixes_indices others
  suffixes_indices (t.dot spot member others) =
      Node spot.at ∷ Node member.at ∷ suffixes_indices others
  suffixes_indices (t.arrow spot member others) =
      Node spot.at ∷ Node member.at ∷ suffixes_indices others
  suffixes_indices (t.up spot others) = Node spot.at ∷ suffixes_indices others
  suffixes_indices (t.down spot others) = Node spot.at ∷ suffixes_indices others

-- the indices of an expression that may be absent
abbrev pub optional_indices : Option Tree → List Index
optional_indices None = []
optional_indices (Some tree) = tree_indices tree

-- the indices of a variable, a member or a parameter
abbrev pub declared_indices : DeclaredTree → List Index
declared_indices declared =
    type_indices declared.kind ++ (Node declared.name.at ∷ optional_indices declared.first)

abbrev pub declarations_indices : List DeclaredTree → List Index
declarations_indices [] = []
declarations_indices (x ∷ xs) = declared_indices x ++ declarations_indices xs

-- the indices of a statement and of everything in it
abbrev mutual
  pub statement_indices : Statement → List Index
  statement_indices p.Empty = []
  statement_indices (p.Expression value) = tree_indices value
  statement_indices (p.Block statements) = statements_indices statements
  statement_indices (p.Declare variables) = declarations_indices variables
  statement_indices (p.If spot condition then) =
      Node spot.at ∷ tree_indices condition ++ statement_indices then
  statement_indices (p.IfElse spot condition then otherwise) =
      Node spot.at ∷ tree_indices condition ++ statement_indices then ++ statement_indices otherwise
  statement_indices (p.While spot condition body) =
      Node spot.at ∷ tree_indices condition ++ statement_indices body
  statement_indices (p.DoWhile spot body condition) =
      Node spot.at ∷ statement_indices body ++ tree_indices condition
  statement_indices (p.For spot before condition after body) = Node spot.at ∷ optional_indices
      before ++ optional_indices condition ++ optional_indices after ++ statement_indices body
  statement_indices (p.Start spot count body) =
      Node spot.at ∷ optional_indices count ++ statement_indices body
  statement_indices (p.Farm spot body) = Node spot.at ∷ statement_indices body
  statement_indices (p.Seq spot body) = Node spot.at ∷ statement_indices body
  statement_indices (p.Fork spot parts part rank body) = Node spot.at ∷ tree_indices parts
      ++ tree_indices part ++ optional_indices rank ++ statement_indices body
  statement_indices (p.Barrier spot) = Node spot.at ∷ []
  statement_indices (p.Break spot) = Node spot.at ∷ []
  statement_indices (p.Continue spot) = Node spot.at ∷ []
  statement_indices (p.Return spot value) = Node spot.at ∷ optional_indices value

  pub statements_indices : Statements → List Index
  statements_indices p.no_statements = []
  statements_indices (p.statement first others) =
      statement_indices first ++ statements_indices others

-- the indices of a body, if there is one
abbrev pub body_indices : Option Statements → List Index
body_indices None = []
body_indices (Some body) = statements_indices body

abbrev pub function_indices : FunctionTree → List Index
function_indices function = type_indices function.result ++ (Node function.name.at
    ∷ declarations_indices function.parameters ++ body_indices function.body)

abbrev pub item_indices : ItemTree → List Index
item_indices (p.StructItem name members) = Node name.at ∷ declarations_indices members
item_indices (p.VariablesItem variables) = declarations_indices variables
item_indices (p.FunctionItem function) = function_indices function

abbrev pub items_indices : List ItemTree → List Index
items_indices [] = []
items_indices (x ∷ xs) = item_indices x ++ items_indices xs
