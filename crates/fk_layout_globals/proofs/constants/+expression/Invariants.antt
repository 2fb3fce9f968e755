-- What the rest of the links makes of the value so far is what all of them make of the first.
use Rattle.std.proofs.Common.{◌≡◌, map, drop}
use Rattle.fk_syntax.specs.Tree.{links_of}
use Rattle.fk_syntax.specs.View.{link_of}
use Rattle.fk_layout_globals.specs.Constants.{worth_of_links}
use Rattle.fk_layout_globals.specs.View.{tables_of}
use Rattle.fk_layout_globals.proofs.constants.+expression.Given as goal

abbrev pub invariant-chain-loop-link : goal.invariant-chain-loop-link
invariant-chain-loop-link l = worth_of_links (tables_of l.types) l.value l.left (links_of (map link_of (drop l.link-index l.links))) ≡ worth_of_links (tables_of l.types) l.fn.first l.fn.at (links_of (map link_of l.links))
