-- Headers in the code as those of the definitions.
use Rattle.std.specs.Option.{option_map}
use Rattle.fk_syntax.specs.View.{tree_of}
use Rattle.fk_parse_headers.specs.declared.header.Header.{Header}
use Rattle.fk_parse_headers.specs.declared.header.Header.TheVariants as c
use Rattle.fk_parse_headers.specs.Headers as h

abbrev pub header_of : Header → h.Header
header_of (c.While at condition) = h.OfWhile at (tree_of condition)
header_of (c.For at before condition after) =
    h.OfFor at (option_map tree_of before) (option_map tree_of condition) (option_map tree_of after)
header_of (c.Start at count) = h.OfStart at (option_map tree_of count)
header_of (c.Farm at) = h.OfFarm at
header_of (c.Seq at) = h.OfSeq at
header_of (c.Fork at parts part rank) =
    h.OfFork at (tree_of parts) (tree_of part) (option_map tree_of rank)
