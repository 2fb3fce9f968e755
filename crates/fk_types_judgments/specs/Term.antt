-- Expressions in which each sign is a node of its own. Signs that group to the left and suffixes
-- are folded to the left.
use Rattle.std.specs.Prelude.{ℕ, ◌+◌, Bool, true, false}
use Rattle.fk_syntax.specs.declared.place.Place.{Place}
use Rattle.fk_syntax.specs.declared.place.Spot.{Spot}
use Rattle.fk_syntax.specs.declared.sign.Sign.{Sign}
use Rattle.fk_syntax.specs.declared.sign.Sign.TheVariants as s
use Rattle.fk_syntax.specs.Tree.{Named, TypeTree, Tree, Links, Trees, Suffixes}
use Rattle.fk_syntax.specs.Tree as t

mutual
  pub data Term : Type 0 where
    Number : (spot : Spot) (value : ℕ) (unsigned : Bool) → Term
    Puts : (spot : Spot) → Term
    Sizeof : (spot : Spot) (type : TypeTree) → Term
    -- a name, whether it is called or not
    Use : (name : Named) → Term
    GroupNumber : (spot : Spot) → Term
    GroupRank : (spot : Spot) → Term
    -- a sign before a value
    Prefix : (spot : Spot) (sign : Sign) (operand : Term) → Term
    -- `*` before a pointer
    Dereference : (spot : Spot) (pointer : Term) → Term
    -- `&` before a stored value
    Address : (spot : Spot) (place : Term) → Term
    -- `++` or `--`, before or after a stored value
    Count : (spot : Spot) (is_before : Bool) (place : Term) → Term
    Cast : (spot : Spot) (type : TypeTree) (operand : Term) → Term
    -- a sign between two values
    Binary : (spot : Spot) (sign : Sign) (left right : Term) → Term
    Comma : (spot : Spot) (left right : Term) → Term
    Index : (spot : Spot) (whole by : Term) → Term
    Call : (spot : Spot) (callee : Term) (arguments : Terms) → Term
    -- `.`
    Member : (spot : Spot) (whole : Term) (member : Named) → Term
    -- `->`
    Through : (spot : Spot) (pointer : Term) (member : Named) → Term
    Assign : (spot : Spot) (sign : Sign) (place value : Term) → Term
    Choose : (spot : Spot) (condition first second : Term) → Term

  -- arguments, where the last one comes after all others
  pub data Terms : Type 0 where
    no_terms : Terms
    also : (before : Terms) (last : Term) → Terms

-- an expression with a sign in front
abbrev pub prefix_term : Spot → Sign → Term → Term
prefix_term spot s.Star operand = Dereference spot operand
prefix_term spot s.Ampersand operand = Address spot operand
prefix_term spot s.Increment operand = Count spot true operand
prefix_term spot s.Decrement operand = Count spot true operand
prefix_term spot sign operand = Prefix spot sign operand

-- two expressions with a sign between them
abbrev pub joined_term : Spot → Sign → Term → Term → Term
joined_term spot s.Comma left right = Comma spot left right
joined_term spot sign left right = Binary spot sign left right

-- the term of a parsed expression
abbrev mutual
  pub term_of : Tree → Term
  term_of (t.Number spot value unsigned) = Number spot value unsigned
  term_of (t.Puts spot text) = Puts spot
  term_of (t.Sizeof spot type) = Sizeof spot type
  term_of (t.Variable name) = Use name
  term_of (t.GroupNumber spot) = GroupNumber spot
  term_of (t.GroupRank spot) = GroupRank spot
  term_of (t.Prefix spot sign operand) = prefix_term spot sign (term_of operand)
  term_of (t.Cast spot type operand) = Cast spot type (term_of operand)
  term_of (t.Chain first links) = with_links (term_of first) links
  term_of (t.Postfix whole suffixes) = with_suffixes (term_of whole) suffixes
  term_of (t.Assign spot sign target value) = Assign spot sign (term_of target) (term_of value)
  term_of (t.Choose spot condition first second) =
      Choose spot (term_of condition) (term_of first) (term_of second)

  -- the expression before signs that group to the left, joined with all of them
  pub with_links : Term → Links → Term
  with_links before t.no_links = before
  with_links before (t.link spot sign right others) =
      with_links (joined_term spot sign before (term_of right)) others

  pub with_arguments : Terms → Trees → Terms
  with_arguments before t.no_trees = before
  with_arguments before (t.tree first others) = with_arguments (also before (term_of first)) others

  -- the expression before suffixes, together with them
  pub with_suffixes : Term → Suffixes → Term
  with_suffixes before t.no_suffixes = before
  with_suffixes before (t.index spot by others) =
      with_suffixes (Index spot before (term_of by)) others
  with_suffixes before (t.call spot arguments others) =
      with_suffixes (Call spot before (with_arguments no_terms arguments)) others
  with_suffixes before (t.dot spot member others) = with_suffixes (Member spot before member) others
  with_suffixes before (t.arrow spot member others) =
      with_suffixes (Through spot before member) others
  with_suffixes before (t.up spot others) = with_suffixes (Count spot false before) others
  with_suffixes before (t.down spot others) = with_suffixes (Count spot false before) others

-- the place of the first token of an expression
abbrev pub first_place : Term → Place
first_place (Number spot value unsigned) = spot.place
first_place (Puts spot) = spot.place
first_place (Sizeof spot type) = spot.place
first_place (Use name) = name.place
first_place (GroupNumber spot) = spot.place
first_place (GroupRank spot) = spot.place
first_place (Prefix spot sign operand) = spot.place
first_place (Dereference spot pointer) = spot.place
first_place (Address spot place) = spot.place
first_place (Count spot true place) = spot.place
first_place (Count spot false place) = first_place place
first_place (Cast spot type operand) = spot.place
first_place (Binary spot sign left right) = first_place left
first_place (Comma spot left right) = first_place left
first_place (Index spot whole by) = first_place whole
first_place (Call spot callee arguments) = first_place callee
first_place (Member spot whole member) = first_place whole
first_place (Through spot pointer member) = first_place pointer
first_place (Assign spot sign place value) = first_place place
first_place (Choose spot condition first second) = first_place condition

abbrev pub count_of : Terms → ℕ
count_of no_terms = 0
count_of (also before last) = count_of before + 1
