-- The scopes and names of a text, in the order in which they are read.
use Rattle.std.specs.Prelude.{List, [], ◌∷◌, ◌++◌, Option, Some, None}
use Rattle.fk_syntax.specs.Tree as t
use Rattle.fk_syntax.specs.Tree.{Named, Tree, Links, Trees, Suffixes}
use Rattle.fk_syntax.specs.Program as p
use Rattle.fk_syntax.specs.Program.{DeclaredTree, Statement, Statements, FunctionTree, ItemTree}
use Rattle.fk_syntax.specs.Program.{ProgramTree}

-- a declaration other than that of a struct or a member; each header of a function is one
pub data DeclarationTree : Type 0 where
  Variable : (variable : DeclaredTree) → DeclarationTree
  Header : (function : FunctionTree) → DeclarationTree

abbrev pub name_of : DeclarationTree → Named
name_of (Variable variable) = variable.name
name_of (Header function) = function.name

-- a scope begins or ends, a declaration has its name here, or a name is used in an expression
pub data MarkTree : Type 0 where
  Opens : MarkTree
  Closes : MarkTree
  Declares : (declaration : DeclarationTree) → MarkTree
  Uses : (name : Named) → MarkTree

-- the marks of an expression
abbrev mutual
  pub tree_marks : Tree → List MarkTree
  tree_marks (t.Number spot value unsigned) = []
  tree_marks (t.Puts spot text) = []
  tree_marks (t.Sizeof spot type) = []
  tree_marks (t.Variable name) = Uses name ∷ []
  tree_marks (t.GroupNumber spot) = []
  tree_marks (t.GroupRank spot) = []
  tree_marks (t.Prefix spot sign operand) = tree_marks operand
  tree_marks (t.Cast spot type operand) = tree_marks operand
  tree_marks (t.Chain first links) = tree_marks first ++ links_marks links
  tree_marks (t.Postfix whole suffixes) = tree_marks whole ++ suffixes_marks suffixes
  tree_marks (t.Assign spot sign target value) = tree_marks target ++ tree_marks value
  tree_marks (t.Choose spot condition first second) =
      tree_marks condition ++ tree_marks first ++ tree_marks second

  pub links_marks : Links → List MarkTree
  links_marks t.no_links = []
  links_marks (t.link spot sign right others) = tree_marks right ++ links_marks others

  pub trees_marks : Trees → List MarkTree
  trees_marks t.no_trees = []
  trees_marks (t.tree first others) = tree_marks first ++ trees_marks others

  pub suffixes_marks : Suffixes → List MarkTree
  suffixes_marks t.no_suffixes = []
  suffixes_marks (t.index spot by others) = tree_marks by ++ suffixes_marks others
  suffixes_marks (t.call spot arguments others) = trees_marks arguments ++ suffixes_marks others
  suffixes_marks (t.dot spot member others) = suffixes_marks others
  suffixes_marks (t.arrow spot member others) = suffixes_marks others
  suffixes_marks (t.up spot others) = suffixes_marks others
  suffixes_marks (t.down spot others) = suffixes_marks others

abbrev pub optional_marks : Option Tree → List MarkTree
optional_marks None = []
optional_marks (Some tree) = tree_marks tree

-- a variable or parameter is declared before its initial value is read
abbrev pub variable_marks : DeclaredTree → List MarkTree
variable_marks variable = Declares (Variable variable) ∷ optional_marks variable.first

abbrev pub variables_marks : List DeclaredTree → List MarkTree
variables_marks [] = []
variables_marks (x ∷ xs) = variable_marks x ++ variables_marks xs

-- the marks inside a scope, with its beginning and its end
abbrev pub scope : List MarkTree → List MarkTree
scope inner = Opens ∷ inner ++ Closes ∷ []

-- a block is a scope, and so is a statement that is the body of another one
abbrev mutual
  pub statement_marks : Statement → List MarkTree
  statement_marks p.Empty = []
  statement_marks (p.Expression value) = tree_marks value
  statement_marks (p.Block statements) = scope (statements_marks statements)
  statement_marks (p.Declare variables) = variables_marks variables
  statement_marks (p.If spot condition then) = tree_marks condition ++ scope (statement_marks then)
  statement_marks (p.IfElse spot condition then otherwise) =
      tree_marks condition ++ scope (statement_marks then) ++ scope (statement_marks otherwise)
  statement_marks (p.While spot condition body) =
      tree_marks condition ++ scope (statement_marks body)
  statement_marks (p.DoWhile spot body condition) =
      scope (statement_marks body) ++ tree_marks condition
  statement_marks (p.For spot before condition after body) = optional_marks before
      ++ optional_marks condition ++ optional_marks after ++ scope (statement_marks body)
  statement_marks (p.Start spot count body) = optional_marks count ++ scope (statement_marks body)
  statement_marks (p.Farm spot body) = scope (statement_marks body)
  statement_marks (p.Seq spot body) = scope (statement_marks body)
  statement_marks (p.Fork spot parts part rank body) =
      tree_marks parts ++ tree_marks part ++ optional_marks rank ++ scope (statement_marks body)
  statement_marks (p.Barrier spot) = []
  statement_marks (p.Break spot) = []
  statement_marks (p.Continue spot) = []
  statement_marks (p.Return spot value) = optional_marks value

  pub statements_marks : Statements → List MarkTree
  statements_marks p.no_statements = []
  statements_marks (p.statement first others) = statement_marks first ++ statements_marks others

abbrev pub body_marks : Option Statements → List MarkTree
body_marks None = []
body_marks (Some body) = statements_marks body

-- the parameters and the outermost block of a function are one scope
abbrev pub function_marks : FunctionTree → List MarkTree
function_marks function = Declares (Header function)
    ∷ scope (variables_marks function.parameters ++ body_marks function.body)

abbrev pub item_marks : ItemTree → List MarkTree
item_marks (p.StructItem name members) = []
item_marks (p.VariablesItem variables) = variables_marks variables
item_marks (p.FunctionItem function) = function_marks function

abbrev pub items_marks : List ItemTree → List MarkTree
items_marks [] = []
items_marks (x ∷ xs) = item_marks x ++ items_marks xs

abbrev pub outline : ProgramTree → List MarkTree
outline program = items_marks program.items

-- the declaration at a mark, and the declarations at marks in their order
abbrev pub declared_by : MarkTree → List DeclarationTree
declared_by Opens = []
declared_by Closes = []
declared_by (Declares declaration) = declaration ∷ []
declared_by (Uses name) = []

abbrev pub declared_in : List MarkTree → List DeclarationTree
declared_in [] = []
declared_in (mark ∷ marks) = declared_by mark ++ declared_in marks

-- the variables, parameters and functions of a text in the order of their names
abbrev pub declarations : ProgramTree → List DeclarationTree
declarations program = declared_in (outline program)
