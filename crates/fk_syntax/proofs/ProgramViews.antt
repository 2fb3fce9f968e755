-- The equations of the views of statements.
use Rattle.std.proofs.Common.{◌≡◌, Option, map, rules}
use Rattle.std.specs.Option.{option_map}
use Rattle.std.specs.declared.boxed.Box.{Box}
use Rattle.std.specs.declared.vec.Vec.{Vec}
use Rattle.std.specs.declared.alloc.Global.{Global}
use Rattle.fk_syntax.specs.declared.place.Spot.{Spot}
use Rattle.fk_syntax.specs.declared.expression.Expr.{Expr}
use Rattle.fk_syntax.specs.declared.program.Declared.{Declared}
use Rattle.fk_syntax.specs.declared.program.Stmt.{Stmt}
use Rattle.fk_syntax.specs.declared.program.Stmt as s
use Rattle.fk_syntax.specs.declared.program.Stmt.TheFolds.{the_lemmas}
use Rattle.fk_syntax.specs.Program as p
use Rattle.fk_syntax.specs.Program.{branch, statements_of}
use Rattle.fk_syntax.specs.View.{tree_of}
use Rattle.fk_syntax.specs.ProgramView.{declared_of, statement_of}

pub statement_of-Empty : statement_of s.Empty ≡ p.Empty
statement_of-Empty = search (rules, the_lemmas)

pub statement_of-Expression : (value : Expr) → statement_of (s.Expression value) ≡ p.Expression (tree_of value)
statement_of-Expression value = search (rules, the_lemmas)

pub statement_of-Block : (statements : Vec Stmt Global) → statement_of (s.Block statements) ≡ p.Block (statements_of (map statement_of statements.items))
statement_of-Block statements = search (rules, the_lemmas)

pub statement_of-Declare : (variables : Vec Declared Global) → statement_of (s.Declare variables) ≡ p.Declare (map declared_of variables.items)
statement_of-Declare variables = search (rules, the_lemmas)

pub statement_of-If : (spot : Spot) (condition : Expr) (then : Box Stmt Global) (otherwise : Option (Box Stmt Global)) → statement_of (s.If spot condition then otherwise) ≡ branch spot (tree_of condition) (statement_of then.value) (option_map (λ (b : Box Stmt Global). statement_of b.value) otherwise)
statement_of-If spot condition then otherwise = search (rules, the_lemmas)

pub statement_of-While : (spot : Spot) (condition : Expr) (body : Box Stmt Global) → statement_of (s.While spot condition body) ≡ p.While spot (tree_of condition) (statement_of body.value)
statement_of-While spot condition body = search (rules, the_lemmas)

pub statement_of-DoWhile : (spot : Spot) (body : Box Stmt Global) (condition : Expr) → statement_of (s.DoWhile spot body condition) ≡ p.DoWhile spot (statement_of body.value) (tree_of condition)
statement_of-DoWhile spot body condition = search (rules, the_lemmas)

pub statement_of-For : (spot : Spot) (before condition after : Option Expr) (body : Box Stmt Global) → statement_of (s.For spot before condition after body) ≡ p.For spot (option_map tree_of before) (option_map tree_of condition) (option_map tree_of after) (statement_of body.value)
statement_of-For spot before condition after body = search (rules, the_lemmas)

pub statement_of-Start : (spot : Spot) (count : Option Expr) (body : Box Stmt Global) → statement_of (s.Start spot count body) ≡ p.Start spot (option_map tree_of count) (statement_of body.value)
statement_of-Start spot count body = search (rules, the_lemmas)

pub statement_of-Farm : (spot : Spot) (body : Box Stmt Global) → statement_of (s.Farm spot body) ≡ p.Farm spot (statement_of body.value)
statement_of-Farm spot body = search (rules, the_lemmas)

pub statement_of-Seq : (spot : Spot) (body : Box Stmt Global) → statement_of (s.Seq spot body) ≡ p.Seq spot (statement_of body.value)
statement_of-Seq spot body = search (rules, the_lemmas)

pub statement_of-Fork : (spot : Spot) (parts part : Expr) (rank : Option Expr) (body : Box Stmt Global) → statement_of (s.Fork spot parts part rank body) ≡ p.Fork spot (tree_of parts) (tree_of part) (option_map tree_of rank) (statement_of body.value)
statement_of-Fork spot parts part rank body = search (rules, the_lemmas)

pub statement_of-Barrier : (spot : Spot) → statement_of (s.Barrier spot) ≡ p.Barrier spot
statement_of-Barrier spot = search (rules, the_lemmas)

pub statement_of-Break : (spot : Spot) → statement_of (s.Break spot) ≡ p.Break spot
statement_of-Break spot = search (rules, the_lemmas)

pub statement_of-Continue : (spot : Spot) → statement_of (s.Continue spot) ≡ p.Continue spot
statement_of-Continue spot = search (rules, the_lemmas)

pub statement_of-Return : (spot : Spot) (value : Option Expr) → statement_of (s.Return spot value) ≡ p.Return spot (option_map tree_of value)
statement_of-Return spot value = search (rules, the_lemmas)
