-- Syntax trees, without memory locations.
use Rattle.std.specs.Prelude.{ℕ, List, [], ◌∷◌, Bool}
use Rattle.fk_syntax.specs.declared.place.Place.{Place}
use Rattle.fk_syntax.specs.declared.place.Spot.{Spot}
use Rattle.fk_syntax.specs.declared.sign.Sign.{Sign}

-- a name: its bytes, the index of its token, its place
pub record Named : Type 0 where
  pub bytes : List ℕ
  pub at : ℕ
  pub place : Place

-- the base of a type: the type without stars
pub data BaseType : Type 0 where
  Int : BaseType
  Unsigned : BaseType
  Void : BaseType
  Struct : (name : Named) → BaseType

-- a type: its base, and the number of `*` after it
pub record TypeTree : Type 0 where
  pub base : BaseType
  pub stars : ℕ

-- an expression, and the lists in it
mutual
  pub data Tree : Type 0 where
    Number : (spot : Spot) (value : ℕ) (unsigned : Bool) → Tree
    Puts : (spot : Spot) (text : List ℕ) → Tree
    Sizeof : (spot : Spot) (type : TypeTree) → Tree
    Variable : (name : Named) → Tree
    GroupNumber : (spot : Spot) → Tree
    GroupRank : (spot : Spot) → Tree
    Prefix : (spot : Spot) (sign : Sign) (operand : Tree) → Tree
    Cast : (spot : Spot) (type : TypeTree) (operand : Tree) → Tree
    Chain : (first : Tree) (links : Links) → Tree
    Postfix : (whole : Tree) (suffixes : Suffixes) → Tree
    Assign : (spot : Spot) (sign : Sign) (target value : Tree) → Tree
    Choose : (spot : Spot) (condition first second : Tree) → Tree

  pub data Links : Type 0 where
    no_links : Links
    link : (spot : Spot) (sign : Sign) (right : Tree) (others : Links) → Links

  pub data Trees : Type 0 where
    no_trees : Trees
    tree : (first : Tree) (others : Trees) → Trees

  pub data Suffixes : Type 0 where
    no_suffixes : Suffixes
    index : (spot : Spot) (by : Tree) (others : Suffixes) → Suffixes
    call : (spot : Spot) (arguments : Trees) (others : Suffixes) → Suffixes
    dot : (spot : Spot) (member : Named) (others : Suffixes) → Suffixes
    arrow : (spot : Spot) (member : Named) (others : Suffixes) → Suffixes
    up : (spot : Spot) (others : Suffixes) → Suffixes
    down : (spot : Spot) (others : Suffixes) → Suffixes

-- an operator of a chain, and its right operand
pub record LinkTree : Type 0 where
  pub spot : Spot
  pub sign : Sign
  pub right : Tree

-- a suffix of an expression
pub data SuffixTree : Type 0 where
  Index : (spot : Spot) (by : Tree) → SuffixTree
  Call : (spot : Spot) (arguments : Trees) → SuffixTree
  Dot : (spot : Spot) (member : Named) → SuffixTree
  Arrow : (spot : Spot) (member : Named) → SuffixTree
  Up : (spot : Spot) → SuffixTree
  Down : (spot : Spot) → SuffixTree

-- the links of a list
abbrev pub links_of : List LinkTree → Links
links_of [] = no_links
links_of (x ∷ xs) = link x.spot x.sign x.right (links_of xs)

-- the expressions of a list
abbrev pub trees_of : List Tree → Trees
trees_of [] = no_trees
trees_of (x ∷ xs) = tree x (trees_of xs)

-- a suffix before others
abbrev pub suffix : SuffixTree → Suffixes → Suffixes
suffix (Index spot by) others = index spot by others
suffix (Call spot arguments) others = call spot arguments others
suffix (Dot spot member) others = dot spot member others
suffix (Arrow spot member) others = arrow spot member others
suffix (Up spot) others = up spot others
suffix (Down spot) others = down spot others

-- the suffixes of a list
abbrev pub suffixes_of : List SuffixTree → Suffixes
suffixes_of [] = no_suffixes
suffixes_of (x ∷ xs) = suffix x (suffixes_of xs)
