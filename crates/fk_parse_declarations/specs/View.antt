-- Declarations in the code as those of the definitions.
use Rattle.std.specs.Option.{option_map}
use Rattle.fk_syntax.specs.View.{named, tree_of}
use Rattle.fk_parse_declarations.specs.declared.declaration.Declarator.{Declarator}
use Rattle.fk_parse_declarations.specs.Grammar as g

abbrev pub declarator_of : Declarator → g.Declarator
declarator_of d = record {
  stars = d.stars;
  name = named d.name;
  length = d.length;
  first = option_map tree_of d.first;
}
