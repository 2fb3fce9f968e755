-- The equations of the views of expressions.
use Rattle.std.proofs.Common.{◌≡◌, ℕ, Bool, List, map, Bor, rules}
use Rattle.std.specs.declared.boxed.Box.{Box}
use Rattle.std.specs.declared.vec.Vec.{Vec}
use Rattle.std.specs.declared.alloc.Global.{Global}
use Rattle.fk_syntax.specs.declared.place.Spot.{Spot}
use Rattle.fk_syntax.specs.declared.place.Name.{Name}
use Rattle.fk_syntax.specs.declared.sign.Sign.{Sign}
use Rattle.fk_syntax.specs.declared.expression.TypeName.{TypeName}
use Rattle.fk_syntax.specs.declared.expression.Expr.{Expr}
use Rattle.fk_syntax.specs.declared.expression.Expr as e
use Rattle.fk_syntax.specs.declared.expression.Link.{Link}
use Rattle.fk_syntax.specs.declared.expression.Suffix.{Suffix}
use Rattle.fk_syntax.specs.declared.expression.Suffix as s
use Rattle.fk_syntax.specs.declared.expression.Expr.TheFolds.{the_lemmas}
use Rattle.fk_syntax.specs.Tree as t
use Rattle.fk_syntax.specs.Tree.{links_of, suffixes_of, trees_of}
use Rattle.fk_syntax.specs.View.{named, type_of, tree_of, suffix_of, link_of}

pub tree_of-Number : (spot : Spot) (value : ℕ) (unsigned : Bool) → tree_of (e.Number spot value unsigned) ≡ t.Number spot value unsigned
tree_of-Number spot value unsigned = search (rules, the_lemmas)

pub tree_of-Puts : (spot : Spot) (text : Bor (List ℕ)) → tree_of (e.Puts spot text) ≡ t.Puts spot text.now
tree_of-Puts spot text = search (rules, the_lemmas)

pub tree_of-Sizeof : (spot : Spot) (type : TypeName) → tree_of (e.Sizeof spot type) ≡ t.Sizeof spot (type_of type)
tree_of-Sizeof spot type = search (rules, the_lemmas)

pub tree_of-Named : (name : Name) → tree_of (e.Named name) ≡ t.Variable (named name)
tree_of-Named name = search (rules, the_lemmas)

pub tree_of-GroupNumber : (spot : Spot) → tree_of (e.GroupNumber spot) ≡ t.GroupNumber spot
tree_of-GroupNumber spot = search (rules, the_lemmas)

pub tree_of-GroupRank : (spot : Spot) → tree_of (e.GroupRank spot) ≡ t.GroupRank spot
tree_of-GroupRank spot = search (rules, the_lemmas)

pub tree_of-Prefix : (spot : Spot) (sign : Sign) (operand : Box Expr Global) → tree_of (e.Prefix spot sign operand) ≡ t.Prefix spot sign (tree_of operand.value)
tree_of-Prefix spot sign operand = search (rules, the_lemmas)

pub tree_of-Cast : (spot : Spot) (type : TypeName) (operand : Box Expr Global) → tree_of (e.Cast spot type operand) ≡ t.Cast spot (type_of type) (tree_of operand.value)
tree_of-Cast spot type operand = search (rules, the_lemmas)

pub tree_of-Chain : (first : Box Expr Global) (links : Vec Link Global) → tree_of (e.Chain first links) ≡ t.Chain (tree_of first.value) (links_of (map link_of links.items))
tree_of-Chain first links = search (rules, the_lemmas)

pub tree_of-Postfix : (whole : Box Expr Global) (suffixes : Vec Suffix Global) → tree_of (e.Postfix whole suffixes) ≡ t.Postfix (tree_of whole.value) (suffixes_of (map suffix_of suffixes.items))
tree_of-Postfix whole suffixes = search (rules, the_lemmas)

pub tree_of-Assign : (spot : Spot) (sign : Sign) (target value : Box Expr Global) → tree_of (e.Assign spot sign target value) ≡ t.Assign spot sign (tree_of target.value) (tree_of value.value)
tree_of-Assign spot sign target value = search (rules, the_lemmas)

pub tree_of-Choose : (spot : Spot) (condition first second : Box Expr Global) → tree_of (e.Choose spot condition first second) ≡ t.Choose spot (tree_of condition.value) (tree_of first.value) (tree_of second.value)
tree_of-Choose spot condition first second = search (rules, the_lemmas)

pub link_of_lem : (link : Link) → link_of link ≡ record { spot = link.spot; sign = link.sign; right = tree_of link.right }
link_of_lem link = search (rules, the_lemmas)

pub suffix_of-Index : (spot : Spot) (by : Expr) → suffix_of (s.Index spot by) ≡ t.Index spot (tree_of by)
suffix_of-Index spot by = search (rules, the_lemmas)

pub suffix_of-Call : (spot : Spot) (arguments : Vec Expr Global) → suffix_of (s.Call spot arguments) ≡ t.Call spot (trees_of (map tree_of arguments.items))
suffix_of-Call spot arguments = search (rules, the_lemmas)

pub suffix_of-Dot : (spot : Spot) (member : Name) → suffix_of (s.Dot spot member) ≡ t.Dot spot (named member)
suffix_of-Dot spot member = search (rules, the_lemmas)

pub suffix_of-Arrow : (spot : Spot) (member : Name) → suffix_of (s.Arrow spot member) ≡ t.Arrow spot (named member)
suffix_of-Arrow spot member = search (rules, the_lemmas)

pub suffix_of-Up : (spot : Spot) → suffix_of (s.Up spot) ≡ t.Up spot
suffix_of-Up spot = search (rules, the_lemmas)

pub suffix_of-Down : (spot : Spot) → suffix_of (s.Down spot) ≡ t.Down spot
suffix_of-Down spot = search (rules, the_lemmas)
