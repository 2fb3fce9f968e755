-- Which expressions are shared, by what the tokens of their names denote.
use Rattle.std.specs.Prelude.{ℕ, Bool, true, false, ◌&&◌, ◌||◌, List, codes, nat_eq, Option, Some}
use Rattle.std.specs.Prelude.{None}
use Rattle.std.specs.Cmp.Lexicographic.{pointwise}
use Rattle.fk_syntax.specs.declared.sign.Sign.{Sign}
use Rattle.fk_syntax.specs.declared.sign.Sign.TheVariants.{Assign, Comma}
use Rattle.fk_syntax.specs.Tree as t
use Rattle.fk_syntax.specs.Tree.{Tree, Links, Suffixes}
use Rattle.fk_sharing_class.specs.declared.thing.Thing.{Thing}
use Rattle.fk_sharing_class.specs.declared.thing.Thing.TheVariants.{SharedVariable, PrivateVariable}
use Rattle.fk_sharing_class.specs.declared.thing.Thing.TheVariants.{Function, Predeclared}

-- the predeclared names of values that are the same for all processors
abbrev pub is_common : List ℕ → Bool
is_common bytes = pointwise nat_eq bytes (codes "__STARTED_PROCS__")
    || pointwise nat_eq bytes (codes "__inputs") || pointwise nat_eq bytes (codes "__input")

-- the predeclared names whose calls give one value for a whole group
abbrev pub is_of_group : List ℕ → Bool
is_of_group bytes =
    pointwise nat_eq bytes (codes "groupsize") || pointwise nat_eq bytes (codes "shalloc")

-- a name is shared
abbrev pub is_name_shared : Option Thing → List ℕ → Bool
is_name_shared None bytes = false
is_name_shared (Some SharedVariable) bytes = true
is_name_shared (Some PrivateVariable) bytes = false
is_name_shared (Some Function) bytes = false
is_name_shared (Some Predeclared) bytes = is_common bytes

-- a call of a name is shared
abbrev pub is_named_call_shared : Option Thing → List ℕ → Bool
is_named_call_shared None bytes = false
is_named_call_shared (Some SharedVariable) bytes = false
is_named_call_shared (Some PrivateVariable) bytes = false
is_named_call_shared (Some Function) bytes = false
is_named_call_shared (Some Predeclared) bytes = is_of_group bytes

-- a call of an expression is shared
abbrev pub is_call_shared : (ℕ → Option Thing) → Tree → Bool
is_call_shared thing (t.Variable name) = is_named_call_shared (thing name.at) name.bytes
is_call_shared thing _ = false

-- a sign with two operands is shared: the comma if its right side is, and any other one if both
-- sides are
abbrev pub is_joined_shared : Sign → Bool → Bool → Bool
is_joined_shared Comma left right = right
is_joined_shared _ left right = left && right

-- an assignment is shared: with `=` if its value is, and with any other sign if its target is too
abbrev pub is_assigned_shared : Sign → Bool → Bool → Bool
is_assigned_shared Assign target value = value
is_assigned_shared _ target value = target && value

-- an expression is shared
abbrev mutual
  pub is_shared : (ℕ → Option Thing) → Tree → Bool
  is_shared thing (t.Number spot value unsigned) = true
  is_shared thing (t.Puts spot text) = false
  is_shared thing (t.Sizeof spot type) = true
  is_shared thing (t.Variable name) = is_name_shared (thing name.at) name.bytes
  is_shared thing (t.GroupNumber spot) = true
  is_shared thing (t.GroupRank spot) = false
  is_shared thing (t.Prefix spot sign operand) = is_shared thing operand
  is_shared thing (t.Cast spot type operand) = is_shared thing operand
  is_shared thing (t.Chain first links) = is_chain_shared thing (is_shared thing first) links
  is_shared thing (t.Postfix whole suffixes) =
      is_postfix_shared thing (is_shared thing whole) (is_call_shared thing whole) suffixes
  is_shared thing (t.Assign spot sign target value) =
      is_assigned_shared sign (is_shared thing target) (is_shared thing value)
  is_shared thing (t.Choose spot condition first second) =
      is_shared thing condition && is_shared thing first && is_shared thing second

  -- signs that group to the left, by whether the expression before them is shared
  pub is_chain_shared : (ℕ → Option Thing) → Bool → Links → Bool
  is_chain_shared thing before t.no_links = before
  is_chain_shared thing before (t.link spot sign right others) =
      is_chain_shared thing (is_joined_shared sign before (is_shared thing right)) others

  -- suffixes, by whether the expression before them is shared, and whether a call of it is. Only a
  -- name can be called
  pub is_postfix_shared : (ℕ → Option Thing) → Bool → Bool → Suffixes → Bool
  is_postfix_shared thing before called t.no_suffixes = before
  is_postfix_shared thing before called (t.index spot by others) =
      is_postfix_shared thing (before && is_shared thing by) false others
  is_postfix_shared thing before called (t.call spot arguments others) =
      is_postfix_shared thing called false others
  is_postfix_shared thing before called (t.dot spot member others) =
      is_postfix_shared thing before false others
  is_postfix_shared thing before called (t.arrow spot member others) =
      is_postfix_shared thing before false others
  is_postfix_shared thing before called (t.up spot others) =
      is_postfix_shared thing before false others
  is_postfix_shared thing before called (t.down spot others) =
      is_postfix_shared thing before false others
