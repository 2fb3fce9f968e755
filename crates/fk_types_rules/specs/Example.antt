-- The text `int x = 2;`, the example of a law.
use Rattle.std.specs.Prelude.{ℕ, false, [], ◌∷◌, Some, None}
use Rattle.fk_syntax.specs.declared.place.Place.{Place}
use Rattle.fk_syntax.specs.Tree as t
use Rattle.fk_syntax.specs.Program as p
use Rattle.fk_syntax.specs.Program.{DeclaredTree, ProgramTree}

abbrev pub at_column : ℕ → Place
at_column column = record { line = 1; column = column }

-- the second of five tokens is the name, and the fourth the number
abbrev pub variable : DeclaredTree
variable = record {
  shared = false;
  kind = record { base = t.Int; stars = 0 };
  name = record { bytes = 120 ∷ []; at = 1; place = at_column 5 };
  length = None;
  first = Some (t.Number (record { at = 3; place = at_column 9 }) 2 false);
}

abbrev pub example : ProgramTree
example = record { items = p.VariablesItem (variable ∷ []) ∷ []; end = at_column 11; tokens = 5 }
