-- The expressions of the code as the trees of the definitions.
use Rattle.fk_syntax.specs.declared.place.Name.{Name}
use Rattle.fk_syntax.specs.declared.expression.Base.{Base}
use Rattle.fk_syntax.specs.declared.expression.Base.TheVariants as b
use Rattle.fk_syntax.specs.declared.expression.TypeName.{TypeName}
use Rattle.fk_syntax.specs.declared.expression.Expr.{Expr}
use Rattle.fk_syntax.specs.declared.expression.Link.{Link}
use Rattle.fk_syntax.specs.declared.expression.Suffix.{Suffix}
use Rattle.fk_syntax.specs.declared.expression.Expr.TheOpen.{Expr-F, Suffix-F, Link-F}
use Rattle.fk_syntax.specs.declared.expression.Expr.TheOpen as e
use Rattle.fk_syntax.specs.declared.expression.Expr.TheFolds.{fold-Expr, fold-Suffix, fold-Link}
use Rattle.fk_syntax.specs.Tree.{Named, BaseType, TypeTree, Tree, LinkTree, SuffixTree, links_of}
use Rattle.fk_syntax.specs.Tree.{trees_of, suffixes_of}
use Rattle.fk_syntax.specs.Tree as t

abbrev pub named : Name → Named
named name = record { bytes = name.bytes.now; at = name.at; place = name.place }

abbrev pub base_of : Base → BaseType
base_of b.Int = t.Int
base_of b.Unsigned = t.Unsigned
base_of b.Void = t.Void
base_of (b.Struct name) = t.Struct (named name)

abbrev pub type_of : TypeName → TypeTree
type_of type = record { base = base_of type.base; stars = type.stars }

-- an expression, given the trees of the expressions in it
abbrev pub tree_step : Expr-F Tree SuffixTree LinkTree → Tree
tree_step (e.Number spot value unsigned) = t.Number spot value unsigned
tree_step (e.Puts spot text) = t.Puts spot text.now
tree_step (e.Sizeof spot type) = t.Sizeof spot (type_of type)
tree_step (e.Named name) = t.Variable (named name)
tree_step (e.GroupNumber spot) = t.GroupNumber spot
tree_step (e.GroupRank spot) = t.GroupRank spot
tree_step (e.Prefix spot sign operand) = t.Prefix spot sign operand.value
tree_step (e.Cast spot type operand) = t.Cast spot (type_of type) operand.value
tree_step (e.Chain first links) = t.Chain first.value (links_of links.items)
tree_step (e.Postfix whole suffixes) = t.Postfix whole.value (suffixes_of suffixes.items)
tree_step (e.Assign spot sign target value) = t.Assign spot sign target.value value.value
tree_step (e.Choose spot condition first second) =
    t.Choose spot condition.value first.value second.value

-- a suffix, given the trees of the expressions in it
abbrev pub suffix_step : Suffix-F Tree SuffixTree LinkTree → SuffixTree
suffix_step (e.Index spot by) = t.Index spot by
suffix_step (e.Call spot arguments) = t.Call spot (trees_of arguments.items)
suffix_step (e.Dot spot member) = t.Dot spot (named member)
suffix_step (e.Arrow spot member) = t.Arrow spot (named member)
suffix_step (e.Up spot) = t.Up spot
suffix_step (e.Down spot) = t.Down spot

-- a link, given the tree of its operand
abbrev pub link_step : Link-F Tree SuffixTree LinkTree → LinkTree
link_step link = record { spot = link.spot; sign = link.sign; right = link.right }

abbrev pub tree_of : Expr → Tree
tree_of = fold-Expr Tree SuffixTree LinkTree tree_step suffix_step link_step

abbrev pub suffix_of : Suffix → SuffixTree
suffix_of = fold-Suffix Tree SuffixTree LinkTree tree_step suffix_step link_step

abbrev pub link_of : Link → LinkTree
link_of = fold-Link Tree SuffixTree LinkTree tree_step suffix_step link_step
