-- The items of the lock, with the indices and places of their tokens.
use Rattle.std.specs.Prelude.{◌≡◌, ℕ, false, List, [], ◌∷◌, ◌++◌, Some, None, codes}
use Rattle.fk_syntax.specs.declared.place.Spot.{Spot}
use Rattle.fk_syntax.specs.declared.program.Mode.TheVariants.{Async}
use Rattle.fk_syntax.specs.declared.sign.Sign.TheVariants.{Ampersand, NotEqualTo}
use Rattle.fk_syntax.specs.Tree.{Named, BaseType, Unsigned, Void, Struct, Tree, Number, Variable}
use Rattle.fk_syntax.specs.Tree.{Prefix, Chain, Postfix, no_links, link, no_trees, tree}
use Rattle.fk_syntax.specs.Tree.{no_suffixes, call, arrow}
use Rattle.fk_syntax.specs.Program.{DeclaredTree, Empty, Expression, Declare, While}
use Rattle.fk_syntax.specs.Program.{Statements, no_statements, statement, FunctionTree, ItemTree}
use Rattle.fk_syntax.specs.Program.{StructItem, FunctionItem, ProgramTree}
use Rattle.fk_lex.specs.Reading.{Spelled}
use Rattle.fk_parse.specs.Parses.{SpellsProgram}
use Rattle.fk_locks_tokens.specs.Tokens.{lock_tokens}

-- the token with an index, at a line and a column; and the name that it is
abbrev pub spot_at : (at line column : ℕ) → Spot
spot_at at line column = record { at = at; place = record { line = line; column = column } }

abbrev pub name_at : (at line column : ℕ) → List ℕ → Named
name_at at line column bytes =
    record { bytes = bytes; at = at; place = record { line = line; column = column } }

-- what is declared with this base of its type, this number of stars, and this name
abbrev pub declares : BaseType → (stars : ℕ) → Named → DeclaredTree
declares base stars name = record {
  shared = false;
  kind = record { base = base; stars = stars };
  name = name;
  length = None;
  first = None;
}

-- the member of the struct to which a variable points; `mpadd` of its address and 1
abbrev pub pointed : Named → Spot → Named → Tree
pointed variable spot member = Postfix (Variable variable) (arrow spot member no_suffixes)

abbrev pub one_added : Named → (opening address : Spot) → Tree → (number : Spot) → Tree
one_added mpadd opening address member number =
    Postfix (Variable mpadd) (call opening (tree (Prefix address Ampersand member)
    (tree (Number number 1 false) no_trees)) no_suffixes)

-- the struct
abbrev pub lock_struct : ItemTree
lock_struct = StructItem (name_at 1 1 8 (codes "FairLock"))
    (declares Unsigned 0 (name_at 4 1 28 (codes "next"))
    ∷ declares Unsigned 0 (name_at 7 1 43 (codes "now")) ∷ [])

-- the function that takes a lock
abbrev pub take_draw : Tree
take_draw = one_added (name_at 24 2 54 (codes "mpadd")) (spot_at 25 2 59) (spot_at 26 2 60)
    (pointed (name_at 27 2 61 (codes "l")) (spot_at 28 2 62) (name_at 29 2 64 (codes "next")))
    (spot_at 31 2 70)

abbrev pub take_test : Tree
take_test = Chain
    (pointed (name_at 36 2 81 (codes "l")) (spot_at 37 2 82) (name_at 38 2 84 (codes "now")))
    (link (spot_at 39 2 88) NotEqualTo (Variable (name_at 40 2 91 (codes "t"))) no_links)

abbrev pub take_ticket : DeclaredTree
take_ticket = record (declares Unsigned 0 (name_at 22 2 50 (codes "t"))) { first = Some take_draw }

abbrev pub take_body : Statements
take_body = statement (Declare (take_ticket ∷ []))
    (statement (While (spot_at 34 2 74) take_test Empty) no_statements)

abbrev pub take_parameter : DeclaredTree
take_parameter = declares (Struct (name_at 15 2 23 (codes "FairLock"))) 1 (name_at 17 2 33 (codes "l"))

abbrev pub lock_take : FunctionTree
lock_take = record {
  mode = Async;
  result = record { base = Void; stars = 0 };
  name = name_at 12 2 6 (codes "fair_take");
  parameters = take_parameter ∷ [];
  body = Some take_body;
}

-- the function that gives a lock
abbrev pub give_add : Tree
give_add = one_added (name_at 53 3 38 (codes "mpadd")) (spot_at 54 3 43) (spot_at 55 3 44)
    (pointed (name_at 56 3 45 (codes "l")) (spot_at 57 3 46) (name_at 58 3 48 (codes "now")))
    (spot_at 60 3 53)

abbrev pub give_body : Statements
give_body = statement (Expression give_add) no_statements

abbrev pub give_parameter : DeclaredTree
give_parameter = declares (Struct (name_at 48 3 23 (codes "FairLock"))) 1 (name_at 50 3 33 (codes "l"))

abbrev pub lock_give : FunctionTree
lock_give = record {
  mode = Async;
  result = record { base = Void; stars = 0 };
  name = name_at 45 3 6 (codes "fair_give");
  parameters = give_parameter ∷ [];
  body = Some give_body;
}

-- The tree of tokens that begin with those of the lock begins with the items of the lock.
abbrev pub LockItemsFirst : Type 0
LockItemsFirst =
    (more : List Spelled) (program : ProgramTree) → SpellsProgram (lock_tokens ++ more) program
    → (others : List ItemTree)
    × (program.items ≡ lock_struct ∷ FunctionItem lock_take ∷ FunctionItem lock_give ∷ others)
