-- The marks so far, and those of what is left, are those before and those of all.
use Rattle.std.proofs.Common.{◌≡◌, ◌++◌, map, drop}
use Rattle.fk_syntax.specs.Tree.{links_of, trees_of, suffixes_of}
use Rattle.fk_syntax.specs.View.{tree_of, link_of, suffix_of}
use Rattle.fk_types_names.specs.Outline.{links_marks, trees_marks, suffixes_marks}
use Rattle.fk_types_names.specs.OutlineView.{marks_in}
use Rattle.fk_types_names.proofs.outline.Outline.+expression.Given as goal

abbrev pub invariant-add_expressions-loop-expression : goal.invariant-add_expressions-loop-expression
invariant-add_expressions-loop-expression l = marks_in l.into ++ trees_marks (trees_of (map tree_of (drop l.expression-index l.expressions))) ≡ marks_in l.fn.into ++ trees_marks (trees_of (map tree_of l.expressions))

abbrev pub invariant-add_links-loop-link : goal.invariant-add_links-loop-link
invariant-add_links-loop-link l = marks_in l.into ++ links_marks (links_of (map link_of (drop l.link-index l.links))) ≡ marks_in l.fn.into ++ links_marks (links_of (map link_of l.links))

abbrev pub invariant-add_suffixes-loop-suffix : goal.invariant-add_suffixes-loop-suffix
invariant-add_suffixes-loop-suffix l = marks_in l.into ++ suffixes_marks (suffixes_of (map suffix_of (drop l.suffix-index l.suffixes))) ≡ marks_in l.fn.into ++ suffixes_marks (suffixes_of (map suffix_of l.suffixes))
