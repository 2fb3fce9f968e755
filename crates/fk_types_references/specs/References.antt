-- The references in expressions: to variables and functions, members of structs, and types by
-- `sizeof`.
use Rattle.std.specs.Prelude.{ℕ, Bool, true, false, List, [], ◌∷◌, ◌++◌, Option, Some, None}
use Rattle.fk_syntax.specs.declared.place.Spot.{Spot}
use Rattle.fk_syntax.specs.Tree as t
use Rattle.fk_syntax.specs.Tree.{Named, TypeTree, Tree, Links, Trees, Suffixes}

-- the index of the main token of an expression: its last sign, or its name or number
abbrev mutual
  pub main_token : Tree → ℕ
  main_token (t.Number spot value unsigned) = spot.at
  main_token (t.Puts spot text) = spot.at
  main_token (t.Sizeof spot type) = spot.at
  main_token (t.Variable name) = name.at
  main_token (t.GroupNumber spot) = spot.at
  main_token (t.GroupRank spot) = spot.at
  main_token (t.Prefix spot sign operand) = spot.at
  main_token (t.Cast spot type operand) = spot.at
  main_token (t.Chain first links) = after_links (main_token first) links
  main_token (t.Postfix whole suffixes) = after_suffixes (main_token whole) suffixes
  main_token (t.Assign spot sign target value) = spot.at
  main_token (t.Choose spot condition first second) = spot.at

  pub after_links : ℕ → Links → ℕ
  after_links at t.no_links = at
  after_links at (t.link spot sign right others) = after_links spot.at others

  pub after_suffixes : ℕ → Suffixes → ℕ
  after_suffixes at t.no_suffixes = at
  after_suffixes at (t.index spot by others) = after_suffixes spot.at others
  after_suffixes at (t.call spot arguments others) = after_suffixes spot.at others
  after_suffixes at (t.dot spot member others) = after_suffixes spot.at others
  after_suffixes at (t.arrow spot member others) = after_suffixes spot.at others
  after_suffixes at (t.up spot others) = after_suffixes spot.at others
  after_suffixes at (t.down spot others) = after_suffixes spot.at others

-- a variable or a function; a member of the expression with this main token, after `.` or after
-- `->`; or the type of a `sizeof`
pub data ReferenceTree : Type 0 where
  Name : (name : Named) → ReferenceTree
  Member : (whole : ℕ) (is_arrow : Bool) (member : Named) → ReferenceTree
  Size : (spot : Spot) (type : TypeTree) → ReferenceTree

-- the references in an expression
abbrev mutual
  pub tree_references : Tree → List ReferenceTree
  tree_references (t.Number spot value unsigned) = []
  tree_references (t.Puts spot text) = []
  tree_references (t.Sizeof spot type) = Size spot type ∷ []
  tree_references (t.Variable name) = Name name ∷ []
  tree_references (t.GroupNumber spot) = []
  tree_references (t.GroupRank spot) = []
  tree_references (t.Prefix spot sign operand) = tree_references operand
  tree_references (t.Cast spot type operand) = tree_references operand
  tree_references (t.Chain first links) = tree_references first ++ links_references links
  tree_references (t.Postfix whole suffixes) =
      tree_references whole ++ suffixes_references (main_token whole) suffixes
  tree_references (t.Assign spot sign target value) =
      tree_references target ++ tree_references value
  tree_references (t.Choose spot condition first second) =
      tree_references condition ++ tree_references first ++ tree_references second

  pub links_references : Links → List ReferenceTree
  links_references t.no_links = []
  links_references (t.link spot sign right others) =
      tree_references right ++ links_references others

  pub trees_references : Trees → List ReferenceTree
  trees_references t.no_trees = []
  trees_references (t.tree first others) = tree_references first ++ trees_references others

  -- the references in suffixes of an expression with this main token
  pub suffixes_references : ℕ → Suffixes → List ReferenceTree
  suffixes_references at t.no_suffixes = []
  suffixes_references at (t.index spot by others) =
      tree_references by ++ suffixes_references spot.at others
  suffixes_references at (t.call spot arguments others) =
      trees_references arguments ++ suffixes_references spot.at others
  suffixes_references at (t.dot spot member others) =
      Member at false member ∷ suffixes_references spot.at others
  suffixes_references at (t.arrow spot member others) =
      Member at true member ∷ suffixes_references spot.at others
  suffixes_references at (t.up spot others) = suffixes_references spot.at others
  suffixes_references at (t.down spot others) = suffixes_references spot.at others

abbrev pub optional_references : Option Tree → List ReferenceTree
optional_references None = []
optional_references (Some tree) = tree_references tree
