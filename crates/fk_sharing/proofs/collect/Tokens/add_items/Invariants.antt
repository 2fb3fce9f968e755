-- The tokens so far, and those of what is left, are those before and those of all.
use Rattle.std.proofs.Common.{◌≡◌, ◌++◌, map, drop}
use Rattle.fk_syntax.specs.ProgramView.{item_of}
use Rattle.fk_sharing_class.specs.Things.{thing_in}
use Rattle.fk_sharing.specs.Tokens.{items_tokens}
use Rattle.fk_sharing.specs.Collected.{within, outside}
use Rattle.fk_sharing.specs.TokensView.{seen_in}
use Rattle.fk_sharing.proofs.collect.Tokens.add_items.Given as goal

abbrev pub invariant-loop-item : goal.invariant-loop-item
invariant-loop-item l = seen_in l.into ++ (items_tokens (thing_in l.names) within outside (map item_of (drop l.item-index l.items))) ≡ seen_in l.fn.into ++ (items_tokens (thing_in l.names) within outside (map item_of l.items))
