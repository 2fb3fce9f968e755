-- The words of the rest are missing, and nothing else.
use Rattle.std.proofs.Common.{◌≡◌, ◌++◌, drop}
use Rattle.std.specs.Prelude.{flat_map}
use Rattle.fk_layout_globals.specs.Variables.{declared_behind}
use Rattle.fk_layout_globals.specs.Rows.{words_at_first}
use Rattle.fk_layout_globals.specs.View.{tables_of}
use Rattle.fk_layout_globals.proofs.rows.lay_words.Given as goal

abbrev pub invariant-loop-index : goal.invariant-loop-index
invariant-loop-index l = l.words.items ++ flat_map (words_at_first (tables_of l.types)) (declared_behind (drop l.index l.variables.items)) ≡ flat_map (words_at_first (tables_of l.types)) (declared_behind l.variables.items)
