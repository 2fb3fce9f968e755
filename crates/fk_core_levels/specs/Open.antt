-- The open parts that a pass keeps, of which the innermost is the last.
use Rattle.std.specs.Prelude.{map, reverse}
use Rattle.fk_core_levels.specs.declared.open.Open.{Open}
use Rattle.fk_core_levels.specs.declared.open.OpenParts.{OpenParts}
use Rattle.fk_core_levels.specs.Forks.{OpenPart, Parts}

abbrev pub part_of : Open → OpenPart
part_of part = record { fork = part.fork; words = part.words }

abbrev pub parts_of : OpenParts → Parts
parts_of parts = record { parts = reverse (map part_of parts.parts.items); words = parts.words }
