use Rattle.std.proofs.Common.{◌≡◌, take}
use Rattle.std.specs.Option.{option_map}
use Rattle.fk_types_structs.specs.Words.{total_words, capped}
use Rattle.fk_types_structs.specs.Table.{sizes_of, AreFirstOffsets}
use Rattle.fk_types_structs.proofs.words.offsets.Given as goal

abbrev pub invariant-loop-kind : goal.invariant-loop-kind
invariant-loop-kind l = (l.total ≡ option_map capped (total_words (sizes_of l.sizes) (take l.kind-index l.kinds)))
    × AreFirstOffsets (sizes_of l.sizes) l.kinds l.kind-index l.offsets.items
