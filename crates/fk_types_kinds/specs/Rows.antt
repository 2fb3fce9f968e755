-- The kinds in a set.
use Rattle.std.specs.Prelude.{List, map}
use Rattle.fk_syntax.specs.declared.facts.Kind.{Kind}
use Rattle.fk_types_kinds.specs.declared.numbers.Row.{Row}

abbrev pub kind_in : Row → Kind
kind_in row =
    record { words = row.words; unsigned = row.unsigned; array = row.array; step = row.step }

abbrev pub kinds_in : List Row → List Kind
kinds_in rows = map kind_in rows
