-- The tokens of a program that matter for sharing, and the surroundings of each. What the tokens of
-- names denote is given.
use Rattle.std.specs.Prelude.{ℕ, ◌==◌, ◌&&◌, Bool, true, false, List, [], ◌∷◌, ◌++◌, Option, Some}
use Rattle.std.specs.Prelude.{None}
use Rattle.fk_syntax.specs.declared.place.Spot.{Spot}
use Rattle.fk_syntax.specs.declared.program.Mode.{Mode}
use Rattle.fk_syntax.specs.declared.sign.Sign.{Sign}
use Rattle.fk_syntax.specs.declared.sign.Sign.TheVariants.{AndAnd, OrOr}
use Rattle.fk_syntax.specs.Tree as t
use Rattle.fk_syntax.specs.Tree.{TypeTree, Tree, Links, Trees, Suffixes}
use Rattle.fk_syntax.specs.Program as p
use Rattle.fk_syntax.specs.Program.{DeclaredTree, Statement, Statements, FunctionTree, ItemTree}
use Rattle.fk_syntax.specs.Program.{ProgramTree}
use Rattle.fk_sharing_class.specs.declared.thing.Thing.{Thing}
use Rattle.fk_sharing_class.specs.Class.{is_shared, is_call_shared, is_joined_shared}
use Rattle.fk_regions.specs.declared.around.Region.TheVariants.{Synchronous, Asynchronous}
use Rattle.fk_regions.specs.Around.{region_by}
use Rattle.fk_regions.specs.Tokens.{spot_of}
use Rattle.fk_sharing.specs.declared.around.Holder.{Holder}
use Rattle.fk_sharing.specs.declared.around.Holder.TheVariants as h
use Rattle.fk_sharing.specs.declared.token.Form.{Form}
use Rattle.fk_sharing.specs.declared.token.Form.TheVariants as f
use Rattle.fk_sharing.specs.declared.token.Word.{Word}
use Rattle.fk_sharing.specs.declared.token.Word.TheVariants as w

-- a token, whether it is the main token of a shared expression, its kind, and its surroundings.
-- These may have any form: the list of all holders of the token, or a summary of that list
pub record TokenIn (R : Type 0) : Type 0 where
  pub around : R
  pub spot : Spot
  pub shared : Bool
  pub word : Word

abbrev pub token_in : {R : Type 0} → R → Spot → Bool → Word → TokenIn R
token_in around spot shared word =
    record { around = around; spot = spot; shared = shared; word = word }

-- the main token of an expression of which only the class matters
abbrev pub plain : {R : Type 0} → R → Spot → Bool → TokenIn R
plain around spot shared = token_in around spot shared w.Other

-- a token that isn't the main token of an expression
abbrev pub bare : {R : Type 0} → R → Spot → Word → TokenIn R
bare around spot word = token_in around spot false word

-- two signs of a chain decide, by the expression before them, whether the one after them is run
abbrev pub word_of_sign : Sign → Bool → Word
word_of_sign AndAnd before = w.Decides before
word_of_sign OrOr before = w.Decides before
word_of_sign _ before = w.Other

-- what an expression denotes, if it is a name
abbrev pub named_thing : (ℕ → Option Thing) → Tree → Option Thing
named_thing thing (t.Variable name) = thing name.at
named_thing thing _ = None

abbrev pub is_struct_base : t.BaseType → Bool
is_struct_base (t.Struct name) = true
is_struct_base _ = false

-- a type is a struct type
abbrev pub is_struct : TypeTree → Bool
is_struct type = is_struct_base type.base && (type.stars == 0)

-- the form of a variable
abbrev pub form_by : Option ℕ → Bool → Form
form_by (Some length) struct = f.Array
form_by None true = f.Struct
form_by None false = f.Scalar

abbrev pub form_of : DeclaredTree → Form
form_of variable = form_by variable.length (is_struct variable.kind)

-- the tokens of an expression, each part before the sign that it belongs to. Signs of a chain and
-- suffixes group to the left, and each of them is the main token of an expression
abbrev mutual
  pub tree_tokens : {R : Type 0} → (ℕ → Option Thing) → R → Tree → List (TokenIn R)
  tree_tokens thing around (t.Number spot value unsigned) =
      plain around spot (is_shared thing (t.Number spot value unsigned)) ∷ []
  tree_tokens thing around (t.Puts spot text) =
      plain around spot (is_shared thing (t.Puts spot text)) ∷ []
  tree_tokens thing around (t.Sizeof spot type) =
      plain around spot (is_shared thing (t.Sizeof spot type)) ∷ []
  tree_tokens thing around (t.Variable name) =
      plain around (spot_of name) (is_shared thing (t.Variable name)) ∷ []
  tree_tokens thing around (t.GroupNumber spot) =
      plain around spot (is_shared thing (t.GroupNumber spot)) ∷ []
  tree_tokens thing around (t.GroupRank spot) =
      plain around spot (is_shared thing (t.GroupRank spot)) ∷ []
  tree_tokens thing around (t.Prefix spot sign operand) = tree_tokens thing around operand
      ++ token_in around spot (is_shared thing (t.Prefix spot sign operand))
      (w.Prefix sign (named_thing thing operand)) ∷ []
  tree_tokens thing around (t.Cast spot type operand) = tree_tokens thing around operand
      ++ plain around spot (is_shared thing (t.Cast spot type operand)) ∷ []
  tree_tokens thing around (t.Chain first links) =
      tree_tokens thing around first ++ links_tokens thing around (is_shared thing first) links
  tree_tokens thing around (t.Postfix whole suffixes) = tree_tokens thing around whole
      ++ suffixes_tokens thing around (is_shared thing whole) (is_call_shared thing whole) suffixes
  tree_tokens thing around (t.Assign spot sign target value) =
      tree_tokens thing around target ++ tree_tokens thing around value
      ++ plain around spot (is_shared thing (t.Assign spot sign target value)) ∷ []
  tree_tokens thing around (t.Choose spot condition first second) =
      tree_tokens thing around condition ++ tree_tokens thing around first ++ tree_tokens thing
      around second ++ token_in around spot (is_shared thing (t.Choose spot condition first second))
      (w.Decides (is_shared thing condition)) ∷ []

  -- `before` tells whether the expression before the links is shared
  pub links_tokens : {R : Type 0} → (ℕ → Option Thing) → R → Bool → Links → List (TokenIn R)
  links_tokens thing around before t.no_links = []
  links_tokens thing around before (t.link spot sign right others) = tree_tokens thing around right
      ++ token_in around spot (is_joined_shared sign before (is_shared thing right))
      (word_of_sign sign before)
      ∷ links_tokens thing around (is_joined_shared sign before (is_shared thing right)) others

  pub trees_tokens : {R : Type 0} → (ℕ → Option Thing) → R → Trees → List (TokenIn R)
  trees_tokens thing around t.no_trees = []
  trees_tokens thing around (t.tree first others) =
      tree_tokens thing around first ++ trees_tokens thing around others

  -- `before` tells whether the expression before the suffixes is shared, and `called` whether a
  -- call of it is
  pub suffixes_tokens : {R : Type 0} → (ℕ → Option Thing) → R → Bool → Bool → Suffixes
      → List (TokenIn R)
  suffixes_tokens thing around before called t.no_suffixes = []
  suffixes_tokens thing around before called (t.index spot by others) =
      tree_tokens thing around by ++ plain around spot (before && is_shared thing by)
      ∷ suffixes_tokens thing around (before && is_shared thing by) false others
  suffixes_tokens thing around before called (t.call spot arguments others) =
      trees_tokens thing around arguments ++ plain around spot called
      ∷ suffixes_tokens thing around called false others
  suffixes_tokens thing around before called (t.dot spot member others) =
      plain around spot before ∷ suffixes_tokens thing around before false others
  suffixes_tokens thing around before called (t.arrow spot member others) =
      plain around spot before ∷ suffixes_tokens thing around before false others
  suffixes_tokens thing around before called (t.up spot others) =
      plain around spot before ∷ suffixes_tokens thing around before false others
  suffixes_tokens thing around before called (t.down spot others) =
      plain around spot before ∷ suffixes_tokens thing around before false others

abbrev pub optional_tokens : {R : Type 0} → (ℕ → Option Thing) → R → Option Tree → List (TokenIn R)
optional_tokens thing around None = []
optional_tokens thing around (Some tree) = tree_tokens thing around tree

-- an absent condition counts as a number
abbrev pub is_condition_shared : (ℕ → Option Thing) → Option Tree → Bool
is_condition_shared thing None = true
is_condition_shared thing (Some tree) = is_shared thing tree

abbrev pub variable_tokens : {R : Type 0} → (ℕ → Option Thing) → R → DeclaredTree
    → List (TokenIn R)
variable_tokens thing around variable = optional_tokens thing around variable.first
    ++ bare around (spot_of variable.name) (w.Variable variable.shared (form_of variable)) ∷ []

abbrev pub variables_tokens : {R : Type 0} → (ℕ → Option Thing) → R → List DeclaredTree
    → List (TokenIn R)
variables_tokens thing around [] = []
variables_tokens thing around (x ∷ xs) =
    variable_tokens thing around x ++ variables_tokens thing around xs

-- the tokens of a condition, and of the keyword that decides by it
abbrev pub condition_tokens : {R : Type 0} → (ℕ → Option Thing) → R → Spot → Tree
    → List (TokenIn R)
condition_tokens thing around spot condition = tree_tokens thing around condition
    ++ bare around spot (w.Decides (is_shared thing condition)) ∷ []

abbrev pub head_tokens : {R : Type 0} → (ℕ → Option Thing) → R → Spot → Option Tree → Option Tree
    → Option Tree → List (TokenIn R)
head_tokens thing around spot before condition after = optional_tokens thing around before
    ++ optional_tokens thing around condition ++ optional_tokens thing around after
    ++ bare around spot (w.Decides (is_condition_shared thing condition)) ∷ []

-- the tokens of the three expressions of a `fork`
abbrev pub parts_tokens : {R : Type 0} → (ℕ → Option Thing) → R → Tree → Tree → Option Tree
    → List (TokenIn R)
parts_tokens thing around parts part rank = tree_tokens thing around parts
    ++ tree_tokens thing around part ++ optional_tokens thing around rank

-- the tokens of a statement that contains no other
abbrev pub simple_tokens : {R : Type 0} → (ℕ → Option Thing) → R → Statement → List (TokenIn R)
simple_tokens thing around (p.Expression value) = tree_tokens thing around value
simple_tokens thing around (p.Declare variables) = variables_tokens thing around variables
simple_tokens thing around (p.Break spot) = bare around spot w.Break ∷ []
simple_tokens thing around (p.Continue spot) = bare around spot w.Continue ∷ []
simple_tokens thing around (p.Return spot value) =
    optional_tokens thing around value ++ bare around spot w.Return ∷ []
simple_tokens thing around _ = []

-- the tokens of a statement: its own, and those of the statements inside it. These have one more
-- holder around them, which `within` adds
abbrev mutual
  pub statement_tokens : {R : Type 0} → (ℕ → Option Thing) → (Holder → R → R) → R → Statement
      → List (TokenIn R)
  statement_tokens thing within around p.Empty = simple_tokens thing around p.Empty
  statement_tokens thing within around (p.Expression value) =
      simple_tokens thing around (p.Expression value)
  statement_tokens thing within around (p.Block statements) =
      statements_tokens thing within around statements
  statement_tokens thing within around (p.Declare variables) =
      simple_tokens thing around (p.Declare variables)
  statement_tokens thing within around (p.If spot condition body) =
      condition_tokens thing around spot condition
      ++ statement_tokens thing within (within (h.Branch (is_shared thing condition)) around) body
  statement_tokens thing within around (p.IfElse spot condition body otherwise) =
      condition_tokens thing around spot condition ++ statement_tokens thing within
      (within (h.Branch (is_shared thing condition)) around) body ++ statement_tokens thing within
      (within (h.Branch (is_shared thing condition)) around) otherwise
  statement_tokens thing within around (p.While spot condition body) =
      condition_tokens thing around spot condition
      ++ statement_tokens thing within (within (h.Loop (is_shared thing condition)) around) body
  statement_tokens thing within around (p.DoWhile spot body condition) =
      condition_tokens thing around spot condition
      ++ statement_tokens thing within (within (h.Loop (is_shared thing condition)) around) body
  statement_tokens thing within around (p.For spot before condition after body) =
      head_tokens thing around spot before condition after ++ statement_tokens thing within
      (within (h.Loop (is_condition_shared thing condition)) around) body
  statement_tokens thing within around (p.Start spot count body) = optional_tokens thing around
      count ++ statement_tokens thing within (within (h.Body Synchronous) around) body
  statement_tokens thing within around (p.Farm spot body) =
      statement_tokens thing within (within (h.Body Asynchronous) around) body
  statement_tokens thing within around (p.Seq spot body) =
      statement_tokens thing within (within (h.Body Asynchronous) around) body
  statement_tokens thing within around (p.Fork spot parts part rank body) =
      parts_tokens thing around parts part rank
      ++ statement_tokens thing within (within (h.Body Synchronous) around) body
  statement_tokens thing within around (p.Barrier spot) =
      simple_tokens thing around (p.Barrier spot)
  statement_tokens thing within around (p.Break spot) = simple_tokens thing around (p.Break spot)
  statement_tokens thing within around (p.Continue spot) =
      simple_tokens thing around (p.Continue spot)
  statement_tokens thing within around (p.Return spot value) =
      simple_tokens thing around (p.Return spot value)

  pub statements_tokens : {R : Type 0} → (ℕ → Option Thing) → (Holder → R → R) → R → Statements
      → List (TokenIn R)
  statements_tokens thing within around p.no_statements = []
  statements_tokens thing within around (p.statement first others) =
      statement_tokens thing within around first ++ statements_tokens thing within around others

abbrev pub parameters_tokens : {R : Type 0} → R → Mode → List DeclaredTree → List (TokenIn R)
parameters_tokens around mode [] = []
parameters_tokens around mode (x ∷ xs) =
    bare around (spot_of x.name) (w.Parameter x.shared mode) ∷ parameters_tokens around mode xs

abbrev pub body_tokens : {R : Type 0} → (ℕ → Option Thing) → (Holder → R → R) → R
    → Option Statements → List (TokenIn R)
body_tokens thing within around None = []
body_tokens thing within around (Some body) = statements_tokens thing within around body

abbrev pub function_tokens : {R : Type 0} → (ℕ → Option Thing) → (Holder → R → R) → R → FunctionTree
    → List (TokenIn R)
function_tokens thing within around function =
    parameters_tokens around function.mode function.parameters
    ++ body_tokens thing within (within (h.Body (region_by function.mode)) around) function.body

abbrev pub item_tokens : {R : Type 0} → (ℕ → Option Thing) → (Holder → R → R) → R → ItemTree
    → List (TokenIn R)
item_tokens thing within around (p.StructItem name members) = []
item_tokens thing within around (p.VariablesItem variables) =
    variables_tokens thing around variables
item_tokens thing within around (p.FunctionItem function) =
    function_tokens thing within around function

abbrev pub items_tokens : {R : Type 0} → (ℕ → Option Thing) → (Holder → R → R) → R → List ItemTree
    → List (TokenIn R)
items_tokens thing within around [] = []
items_tokens thing within around (x ∷ xs) =
    item_tokens thing within around x ++ items_tokens thing within around xs

-- the tokens of a program, each with all its holders, the innermost first
abbrev pub tokens : (ℕ → Option Thing) → ProgramTree → List (TokenIn (List Holder))
tokens thing program = items_tokens thing ◌∷◌ [] program.items
