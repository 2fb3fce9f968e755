-- The tokens that the code has collected.
use Rattle.std.specs.Prelude.{List, map}
use Rattle.fk_regions.specs.declared.around.Around.{Around}
use Rattle.fk_regions.specs.declared.collect.Tokens.{Tokens}
use Rattle.fk_regions.specs.Tokens.{TokenIn}
use Rattle.fk_regions.specs.Collected.{seen}

abbrev pub seen_in : Tokens → List (TokenIn Around)
seen_in tokens = map seen tokens.list.items
