-- The tokens of a program, and the surroundings of each.
use Rattle.std.specs.Prelude.{ℕ, List, [], ◌∷◌, ◌++◌, Option, Some, None, codes, nat_eq}
use Rattle.std.specs.Prelude.{if◌then◌else◌}
use Rattle.std.specs.Cmp.Lexicographic.{pointwise}
use Rattle.fk_syntax.specs.declared.place.Spot.{Spot}
use Rattle.fk_syntax.specs.declared.sign.Sign.{Sign}
use Rattle.fk_syntax.specs.declared.sign.Sign.TheVariants.{AndAnd, OrOr}
use Rattle.fk_syntax.specs.Tree as t
use Rattle.fk_syntax.specs.Tree.{Named, Tree, Links, Trees, Suffixes}
use Rattle.fk_syntax.specs.Program as p
use Rattle.fk_syntax.specs.Program.{DeclaredTree, Statement, Statements, FunctionTree, ItemTree}
use Rattle.fk_syntax.specs.Program.{ProgramTree}
use Rattle.fk_regions.specs.declared.around.Holder.{Holder}
use Rattle.fk_regions.specs.declared.around.Holder.TheVariants as h
use Rattle.fk_regions.specs.declared.token.Word.{Word}
use Rattle.fk_regions.specs.declared.token.Word.TheVariants as w
use Rattle.fk_regions.specs.declared.token.Spelling.{Spelling}
use Rattle.fk_regions.specs.declared.token.Spelling.TheVariants as s

-- a token, its kind, and its surroundings. These may have any form: the list of all holders of the
-- token, or a summary of that list
pub record TokenIn (R : Type 0) : Type 0 where
  pub around : R
  pub spot : Spot
  pub word : Word

abbrev pub token_in : {R : Type 0} → R → Spot → Word → TokenIn R
token_in around spot word = record { around = around; spot = spot; word = word }

abbrev pub other : {R : Type 0} → R → Spot → TokenIn R
other around spot = token_in around spot w.Other

abbrev pub spot_of : Named → Spot
spot_of name = record { at = name.at; place = name.place }

abbrev pub spelling_of : List ℕ → Spelling
spelling_of name = if pointwise nat_eq name (codes "shalloc") then s.Shalloc else s.Other

-- two signs of a chain decide whether the code after them is run
abbrev pub word_of_sign : Sign → Word
word_of_sign AndAnd = w.Branching
word_of_sign OrOr = w.Branching
word_of_sign _ = w.Other

-- the tokens of an expression
abbrev mutual
  pub tree_tokens : {R : Type 0} → R → Tree → List (TokenIn R)
  tree_tokens around (t.Number spot value unsigned) = other around spot ∷ []
  tree_tokens around (t.Puts spot text) = other around spot ∷ []
  tree_tokens around (t.Sizeof spot type) = other around spot ∷ []
  tree_tokens around (t.Variable name) =
      token_in around (spot_of name) (w.Name (spelling_of name.bytes)) ∷ []
  tree_tokens around (t.GroupNumber spot) = other around spot ∷ []
  tree_tokens around (t.GroupRank spot) = other around spot ∷ []
  tree_tokens around (t.Prefix spot sign operand) = other around spot ∷ tree_tokens around operand
  tree_tokens around (t.Cast spot type operand) = other around spot ∷ tree_tokens around operand
  tree_tokens around (t.Chain first links) = tree_tokens around first ++ links_tokens around links
  tree_tokens around (t.Postfix whole suffixes) =
      tree_tokens around whole ++ suffixes_tokens around suffixes
  tree_tokens around (t.Assign spot sign target value) =
      other around spot ∷ tree_tokens around target ++ tree_tokens around value
  tree_tokens around (t.Choose spot condition first second) = token_in around spot w.Branching
      ∷ tree_tokens around condition ++ tree_tokens around first ++ tree_tokens around second

  pub links_tokens : {R : Type 0} → R → Links → List (TokenIn R)
  links_tokens around t.no_links = []
  links_tokens around (t.link spot sign right others) = token_in around spot (word_of_sign sign)
      ∷ tree_tokens around right ++ links_tokens around others

  pub trees_tokens : {R : Type 0} → R → Trees → List (TokenIn R)
  trees_tokens around t.no_trees = []
  trees_tokens around (t.tree first others) = tree_tokens around first ++ trees_tokens around others

  pub suffixes_tokens : {R : Type 0} → R → Suffixes → List (TokenIn R)
  suffixes_tokens around t.no_suffixes = []
  suffixes_tokens around (t.index spot by others) =
      other around spot ∷ tree_tokens around by ++ suffixes_tokens around others
  suffixes_tokens around (t.call spot arguments others) =
      other around spot ∷ trees_tokens around arguments ++ suffixes_tokens around others
  suffixes_tokens around (t.dot spot member others) =
      other around spot ∷ other around (spot_of member) ∷ suffixes_tokens around others
  suffixes_tokens around (t.arrow spot member others) =
      other around spot ∷ other around (spot_of member) ∷ suffixes_tokens around others
  suffixes_tokens around (t.up spot others) = other around spot ∷ suffixes_tokens around others
  suffixes_tokens around (t.down spot others) = other around spot ∷ suffixes_tokens around others

abbrev pub optional_tokens : {R : Type 0} → R → Option Tree → List (TokenIn R)
optional_tokens around None = []
optional_tokens around (Some tree) = tree_tokens around tree

abbrev pub variable_tokens : {R : Type 0} → R → DeclaredTree → List (TokenIn R)
variable_tokens around variable =
    other around (spot_of variable.name) ∷ optional_tokens around variable.first

abbrev pub variables_tokens : {R : Type 0} → R → List DeclaredTree → List (TokenIn R)
variables_tokens around [] = []
variables_tokens around (x ∷ xs) = variable_tokens around x ++ variables_tokens around xs

-- the tokens directly in a statement: its keyword and its expressions
abbrev pub own_tokens : {R : Type 0} → R → Statement → List (TokenIn R)
own_tokens around p.Empty = []
own_tokens around (p.Expression value) = tree_tokens around value
own_tokens around (p.Block _) = []
own_tokens around (p.Declare variables) = variables_tokens around variables
own_tokens around (p.If spot condition body) =
    token_in around spot w.If ∷ tree_tokens around condition
own_tokens around (p.IfElse spot condition body otherwise) =
    token_in around spot w.If ∷ tree_tokens around condition
own_tokens around (p.While spot condition body) =
    token_in around spot w.Loop ∷ tree_tokens around condition
own_tokens around (p.DoWhile spot body condition) =
    token_in around spot w.Loop ∷ tree_tokens around condition
own_tokens around (p.For spot before condition after body) =
    token_in around spot w.Loop ∷ optional_tokens around before ++ optional_tokens around condition
    ++ optional_tokens around after
own_tokens around (p.Start spot count body) =
    token_in around spot w.Start ∷ optional_tokens around count
own_tokens around (p.Farm spot body) = token_in around spot w.Farm ∷ []
own_tokens around (p.Seq spot body) = token_in around spot w.Seq ∷ []
own_tokens around (p.Fork spot parts part rank body) = token_in around spot w.Fork
    ∷ tree_tokens around parts ++ tree_tokens around part ++ optional_tokens around rank
own_tokens around (p.Barrier spot) = token_in around spot w.Barrier ∷ []
own_tokens around (p.Break spot) = token_in around spot w.Break ∷ []
own_tokens around (p.Continue spot) = token_in around spot w.Continue ∷ []
own_tokens around (p.Return spot value) =
    token_in around spot w.Return ∷ optional_tokens around value

-- the tokens of a statement: its own, and those of the statements inside it. These have one more
-- holder around them, which `within` adds
abbrev mutual
  pub statement_tokens : {R : Type 0} → (Holder → R → R) → R → Statement → List (TokenIn R)
  statement_tokens within around p.Empty = []
  statement_tokens within around (p.Expression value) = own_tokens around (p.Expression value)
  statement_tokens within around (p.Block statements) =
      statements_tokens within (within h.Block around) statements
  statement_tokens within around (p.Declare variables) = own_tokens around (p.Declare variables)
  statement_tokens within around (p.If spot condition body) = own_tokens around
      (p.If spot condition body) ++ statement_tokens within (within h.Branch around) body
  statement_tokens within around (p.IfElse spot condition body otherwise) =
      own_tokens around (p.IfElse spot condition body otherwise) ++ statement_tokens within
      (within h.Branch around) body ++ statement_tokens within (within h.Branch around) otherwise
  statement_tokens within around (p.While spot condition body) = own_tokens around
      (p.While spot condition body) ++ statement_tokens within (within h.Loop around) body
  statement_tokens within around (p.DoWhile spot body condition) = own_tokens around
      (p.DoWhile spot body condition) ++ statement_tokens within (within h.Loop around) body
  statement_tokens within around (p.For spot before condition after body) =
      own_tokens around (p.For spot before condition after body)
      ++ statement_tokens within (within h.Loop around) body
  statement_tokens within around (p.Start spot count body) = own_tokens around
      (p.Start spot count body) ++ statement_tokens within (within h.Start around) body
  statement_tokens within around (p.Farm spot body) =
      own_tokens around (p.Farm spot body) ++ statement_tokens within (within h.Farm around) body
  statement_tokens within around (p.Seq spot body) =
      own_tokens around (p.Seq spot body) ++ statement_tokens within (within h.Seq around) body
  statement_tokens within around (p.Fork spot parts part rank body) = own_tokens around
      (p.Fork spot parts part rank body) ++ statement_tokens within (within h.Fork around) body
  statement_tokens within around (p.Barrier spot) = own_tokens around (p.Barrier spot)
  statement_tokens within around (p.Break spot) = own_tokens around (p.Break spot)
  statement_tokens within around (p.Continue spot) = own_tokens around (p.Continue spot)
  statement_tokens within around (p.Return spot value) = own_tokens around (p.Return spot value)

  pub statements_tokens : {R : Type 0} → (Holder → R → R) → R → Statements → List (TokenIn R)
  statements_tokens within around p.no_statements = []
  statements_tokens within around (p.statement first others) =
      statement_tokens within around first ++ statements_tokens within around others

-- the holder that is the outermost block of a function
abbrev pub holder_of : FunctionTree → Holder
holder_of function = if pointwise nat_eq function.name.bytes (codes "main")
    then h.Main function.mode else h.Function function.mode

abbrev pub body_tokens : {R : Type 0} → (Holder → R → R) → R → Option Statements → List (TokenIn R)
body_tokens within around None = []
body_tokens within around (Some body) = statements_tokens within around body

-- the tokens in the bodies of functions, and in the initial values of variables of file scope
abbrev pub item_tokens : {R : Type 0} → (Holder → R → R) → R → ItemTree → List (TokenIn R)
item_tokens within around (p.StructItem name members) = []
item_tokens within around (p.VariablesItem variables) = variables_tokens around variables
item_tokens within around (p.FunctionItem function) =
    body_tokens within (within (holder_of function) around) function.body

abbrev pub items_tokens : {R : Type 0} → (Holder → R → R) → R → List ItemTree → List (TokenIn R)
items_tokens within around [] = []
items_tokens within around (x ∷ xs) = item_tokens within around x ++ items_tokens within around xs

-- the tokens of a program, each with all its holders, the innermost first
abbrev pub tokens : ProgramTree → List (TokenIn (List Holder))
tokens program = items_tokens ◌∷◌ [] program.items
