-- The tokens so far, and those of what is left, are those before and those of all.
use Rattle.std.proofs.Common.{◌≡◌, ◌++◌, map, drop}
use Rattle.fk_syntax.specs.ProgramView.{item_of}
use Rattle.fk_regions.specs.Tokens.{items_tokens}
use Rattle.fk_regions.specs.Collected.{within, outside}
use Rattle.fk_regions.specs.TokensView.{seen_in}
use Rattle.fk_regions.proofs.collect.Tokens.add_items.Given as goal

abbrev pub invariant-loop-item : goal.invariant-loop-item
invariant-loop-item l = seen_in l.into ++ (items_tokens within outside (map item_of (drop l.item-index l.items))) ≡ seen_in l.fn.into ++ (items_tokens within outside (map item_of l.items))
