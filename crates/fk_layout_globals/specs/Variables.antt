-- The variables of file scope.
use Rattle.std.specs.Prelude.{Bool, true, false, not, List, [], map, filter, flat_map}
use denote.Ref.{Bor}
use Rattle.fk_syntax.specs.declared.program.Declared.{Declared}
use Rattle.fk_syntax.specs.Program as p
use Rattle.fk_syntax.specs.Program.{DeclaredTree, ItemTree}
use Rattle.fk_syntax.specs.ProgramView.{declared_of}

abbrev pub variables_in : ItemTree → List DeclaredTree
variables_in (p.VariablesItem variables) = variables
variables_in item = []

-- the variables that have `sh`, or those that don't
abbrev pub is_kept : (shared : Bool) → DeclaredTree → Bool
is_kept true variable = variable.shared
is_kept false variable = not variable.shared

abbrev pub kept : (shared : Bool) → List DeclaredTree → List DeclaredTree
kept shared variables = filter (is_kept shared) variables

-- the variables of file scope that have `sh`, or those that don't, in the order of the text
abbrev pub variables_of : (shared : Bool) → List ItemTree → List DeclaredTree
variables_of shared items = flat_map (λ item. kept shared (variables_in item)) items

abbrev pub declared_behind : List (Bor Declared) → List DeclaredTree
declared_behind variables = map (λ v. declared_of v.now) variables
