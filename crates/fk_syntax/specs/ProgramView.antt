-- The statements and programs of the code as the trees of the definitions.
use Rattle.std.specs.Prelude.{map}
use Rattle.std.specs.Option.{option_map}
use Rattle.std.specs.declared.boxed.Box.{Box}
use Rattle.std.specs.declared.alloc.Global.{Global}
use Rattle.fk_syntax.specs.declared.program.Declared.{Declared}
use Rattle.fk_syntax.specs.declared.program.Stmt.{Stmt}
use Rattle.fk_syntax.specs.declared.program.Stmt.TheOpen.{Stmt-F}
use Rattle.fk_syntax.specs.declared.program.Stmt.TheOpen as s
use Rattle.fk_syntax.specs.declared.program.Stmt.TheFolds.{fold-Stmt}
use Rattle.fk_syntax.specs.declared.program.Function.{Function}
use Rattle.fk_syntax.specs.declared.program.Item.{Item}
use Rattle.fk_syntax.specs.declared.program.Item.TheVariants as i
use Rattle.fk_syntax.specs.declared.program.Program.{Program}
use Rattle.fk_syntax.specs.View.{named, type_of, tree_of}
use Rattle.fk_syntax.specs.Program.{DeclaredTree, Statement, FunctionTree, ItemTree, ProgramTree}
use Rattle.fk_syntax.specs.Program.{branch, statements_of}
use Rattle.fk_syntax.specs.Program as p

abbrev pub declared_of : Declared → DeclaredTree
declared_of declared = record {
  shared = declared.shared;
  kind = type_of declared.kind;
  name = named declared.name;
  length = declared.length;
  first = option_map tree_of declared.first;
}

-- a statement, given the trees of the statements in it
abbrev pub statement_step : Stmt-F Statement → Statement
statement_step s.Empty = p.Empty
statement_step (s.Expression value) = p.Expression (tree_of value)
statement_step (s.Block statements) = p.Block (statements_of statements.items)
statement_step (s.Declare variables) = p.Declare (map declared_of variables.items)
statement_step (s.If spot condition then otherwise) = branch spot (tree_of condition) then.value
    (option_map (λ (b : Box Statement Global). b.value) otherwise)
statement_step (s.While spot condition body) = p.While spot (tree_of condition) body.value
statement_step (s.DoWhile spot body condition) = p.DoWhile spot body.value (tree_of condition)
statement_step (s.For spot before condition after body) = p.For spot (option_map tree_of before)
    (option_map tree_of condition) (option_map tree_of after) body.value
statement_step (s.Start spot count body) = p.Start spot (option_map tree_of count) body.value
statement_step (s.Farm spot body) = p.Farm spot body.value
statement_step (s.Seq spot body) = p.Seq spot body.value
statement_step (s.Fork spot parts part rank body) =
    p.Fork spot (tree_of parts) (tree_of part) (option_map tree_of rank) body.value
statement_step (s.Barrier spot) = p.Barrier spot
statement_step (s.Break spot) = p.Break spot
statement_step (s.Continue spot) = p.Continue spot
statement_step (s.Return spot value) = p.Return spot (option_map tree_of value)

abbrev pub statement_of : Stmt → Statement
statement_of = fold-Stmt Statement statement_step

abbrev pub function_of : Function → FunctionTree
function_of function = record {
  mode = function.mode;
  result = type_of function.result;
  name = named function.name;
  parameters = map declared_of function.params.items;
  body = option_map (λ body. statements_of (map statement_of body.items)) function.body;
}

abbrev pub item_of : Item → ItemTree
item_of (i.Struct name members) = p.StructItem (named name) (map declared_of members.items)
item_of (i.Variables variables) = p.VariablesItem (map declared_of variables.items)
item_of (i.Function function) = p.FunctionItem (function_of function)

abbrev pub program_of : Program → ProgramTree
program_of program = record {
  items = map item_of program.items.items;
  end = program.end;
  tokens = program.tokens;
}
