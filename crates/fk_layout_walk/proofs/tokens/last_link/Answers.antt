use Rattle.std.proofs.Common.{◌≡◌, ◌∙◌, List, map, ap, sym, rules}
use Rattle.fk_syntax.specs.declared.place.Spot.{Spot}
use Rattle.fk_syntax.specs.declared.expression.Link.{Link}
use Rattle.fk_syntax.specs.declared.expression.Expr.TheFolds.{the_lemmas}
use Rattle.fk_syntax.specs.Tree.{links_of}
use Rattle.fk_syntax.specs.View.{link_of}
use Rattle.fk_meaning_forms.specs.Expressions.{last_link}
use Rattle.fk_layout_walk.proofs.Last.{last_of_links, none_is_last}
use Rattle.fk_layout_walk.proofs.tokens.last_link.Goals as goal

pub returns-in-Some : goal.returns-in-Some
returns-in-Some c = λ before.
    let same : (link_of c.in-Some.link.now).spot ≡ c.in-Some.link.now.spot = search (rules, the_lemmas) in
    last_of_links before c.args.links.now c.in-Some.link.now (sym c.in-Some.ensures.value) ∙ ap (λ (p : Spot). p.at) same

pub returns-in-None : goal.returns-in-None
returns-in-None c = λ before. ap (λ (xs : List Link). last_link before (links_of (map link_of xs))) (none_is_last c.args.links.now (sym c.in-None.ensures.value))
