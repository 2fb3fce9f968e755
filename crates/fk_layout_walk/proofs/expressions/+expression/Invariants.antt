-- What is left still makes of the visitor what the whole makes of it.
use Rattle.std.proofs.Common.{◌≡◌, map, drop}
use Rattle.fk_syntax.specs.Tree.{links_of, trees_of, suffixes_of}
use Rattle.fk_syntax.specs.View.{tree_of, link_of, suffix_of}
use Rattle.fk_syntax.specs.ProgramView.{declared_of}
use Rattle.fk_meaning_forms.specs.Expressions.{Coded, ResultLocation, arguments, all_evaluated}
use Rattle.fk_layout_walk.specs.Suffix.{chained, followed}
use Rattle.fk_layout_walk.specs.Known.{tables_of, functions_of}
use Rattle.fk_layout_walk.specs.Location.{location_of}
use Rattle.fk_layout_walk.specs.Through.{through}
use Rattle.fk_layout_walk.proofs.expressions.+expression.Given as goal

abbrev pub invariant-chain-loop-link : goal.invariant-chain-loop-link
invariant-chain-loop-link g l = (k : ResultLocation → Coded) → through g.V.Visitor.after g.V.Visitor.counts (functions_of l.known) l.fn.visitor (chained (tables_of l.known) (functions_of l.known) (location_of l.fn.first) l.fn.at (links_of (map link_of l.links)) k) ≡ through g.V.Visitor.after g.V.Visitor.counts (functions_of l.known) l.visitor (chained (tables_of l.known) (functions_of l.known) (location_of l.location) l.left (links_of (map link_of (drop l.link-index l.links))) k)

abbrev pub invariant-postfix-loop-suffix : goal.invariant-postfix-loop-suffix
invariant-postfix-loop-suffix g l = (k : ResultLocation → Coded) → through g.V.Visitor.after g.V.Visitor.counts (functions_of l.known) l.fn.visitor (followed (tables_of l.known) (functions_of l.known) (location_of l.fn.whole) l.fn.at (suffixes_of (map suffix_of l.suffixes)) k) ≡ through g.V.Visitor.after g.V.Visitor.counts (functions_of l.known) l.visitor (followed (tables_of l.known) (functions_of l.known) (location_of l.location) l.left (suffixes_of (map suffix_of (drop l.suffix-index l.suffixes))) k)

abbrev pub invariant-argue-loop-index : goal.invariant-argue-loop-index
invariant-argue-loop-index g l = (rest : Coded) → through g.V.Visitor.after g.V.Visitor.counts (functions_of l.known) l.fn.visitor (arguments (tables_of l.known) (functions_of l.known) (map declared_of l.parameters) (all_evaluated (tables_of l.known) (functions_of l.known) (trees_of (map tree_of l.arguments))) rest) ≡ through g.V.Visitor.after g.V.Visitor.counts (functions_of l.known) l.visitor (arguments (tables_of l.known) (functions_of l.known) (map declared_of (drop l.index l.parameters)) (all_evaluated (tables_of l.known) (functions_of l.known) (trees_of (map tree_of (drop l.index l.arguments)))) rest)
