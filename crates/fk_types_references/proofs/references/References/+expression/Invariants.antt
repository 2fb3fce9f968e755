-- The references so far, and those of what is left, are those before and those of all; and the main
-- token so far, and what is left, give that of all.
use Rattle.std.proofs.Common.{◌≡◌, ◌++◌, map, drop}
use Rattle.fk_syntax.specs.Tree.{links_of, trees_of, suffixes_of}
use Rattle.fk_syntax.specs.View.{tree_of, link_of, suffix_of}
use Rattle.fk_types_references.specs.References.{after_links, after_suffixes, links_references, trees_references, suffixes_references}
use Rattle.fk_types_references.specs.Found.{found_in}
use Rattle.fk_types_references.proofs.references.References.+expression.Given as goal

abbrev pub invariant-add_all-loop-expression : goal.invariant-add_all-loop-expression
invariant-add_all-loop-expression l = found_in l.kept ++ trees_references (trees_of (map tree_of (drop l.expression-index l.expressions))) ≡ found_in l.fn.kept ++ trees_references (trees_of (map tree_of l.expressions))

abbrev pub invariant-add_links-loop-link : goal.invariant-add_links-loop-link
invariant-add_links-loop-link l = record {
  main : after_links l.at (links_of (map link_of (drop l.link-index l.links))) ≡ after_links l.first (links_of (map link_of l.links));
  added : found_in l.kept ++ links_references (links_of (map link_of (drop l.link-index l.links))) ≡ found_in l.fn.kept ++ links_references (links_of (map link_of l.links));
}

abbrev pub invariant-add_suffixes-loop-suffix : goal.invariant-add_suffixes-loop-suffix
invariant-add_suffixes-loop-suffix l = record {
  main : after_suffixes l.at (suffixes_of (map suffix_of (drop l.suffix-index l.suffixes))) ≡ after_suffixes l.whole (suffixes_of (map suffix_of l.suffixes));
  added : found_in l.kept ++ suffixes_references l.at (suffixes_of (map suffix_of (drop l.suffix-index l.suffixes))) ≡ found_in l.fn.kept ++ suffixes_references l.whole (suffixes_of (map suffix_of l.suffixes));
}
