-- What the rest of the list still makes of the visitor is what the whole list makes of it.
use Rattle.std.proofs.Common.{◌≡◌, map, drop, fold}
use Rattle.fk_syntax.specs.Tree.{links_of, trees_of, suffixes_of}
use Rattle.fk_syntax.specs.View.{tree_of, link_of, suffix_of}
use Rattle.fk_syntax.specs.Nodes.{links_indices, trees_indices, suffixes_indices}
use Rattle.fk_syntax_well_formed.proofs.walk.+expression.Given as goal

abbrev pub invariant-visit_expressions-loop-expression :
    goal.invariant-visit_expressions-loop-expression
invariant-visit_expressions-loop-expression g l = fold g.V.Visitor.after l.visitor (trees_indices (trees_of (map tree_of (drop l.expression-index l.expressions)))) ≡ fold g.V.Visitor.after l.fn.visitor (trees_indices (trees_of (map tree_of l.expressions)))

abbrev pub invariant-visit_links-loop-link : goal.invariant-visit_links-loop-link
invariant-visit_links-loop-link g l = fold g.V.Visitor.after l.visitor (links_indices (links_of (map link_of (drop l.link-index l.links)))) ≡ fold g.V.Visitor.after l.fn.visitor (links_indices (links_of (map link_of l.links)))

abbrev pub invariant-visit_suffixes-loop-suffix : goal.invariant-visit_suffixes-loop-suffix
invariant-visit_suffixes-loop-suffix g l = fold g.V.Visitor.after l.visitor (suffixes_indices (suffixes_of (map suffix_of (drop l.suffix-index l.suffixes)))) ≡ fold g.V.Visitor.after l.fn.visitor (suffixes_indices (suffixes_of (map suffix_of l.suffixes)))
