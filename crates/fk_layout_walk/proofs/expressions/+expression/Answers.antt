use Rattle.std.proofs.Common.{◌≡◌, ◌+◌, ◌∷◌, map, drop, rules, arith}
use Rattle.fk_syntax.specs.Tree.{links_of}
use Rattle.fk_syntax.specs.View.{link_of}
use Rattle.fk_layout_walk.specs.Suffix.{chained}
use Rattle.std.proofs.lemmas.Grind.{common_steps}
use Rattle.fk_syntax.specs.declared.expression.Expr.TheFolds.{the_lemmas}
use Rattle.fk_meaning_forms.specs.Expressions.{is_deep}
use Rattle.fk_layout_walk.specs.Known.{tables_of, functions_of}
use Rattle.fk_layout_walk.specs.Location.{location_of}
use Rattle.fk_layout_walk.proofs.Stepwise.{chain_first, suffixes_first, target_first, followed_step}
use Rattle.fk_layout_walk.proofs.Arguments.{no_arguments}
use Rattle.fk_layout_walk.proofs.expressions.+expression.Goals as goal

pub expression-returns-in_ok-location-in-Chain : goal.expression-returns-in_ok-location-in-Chain
expression-returns-in_ok-location-in-Chain g t c = first_of (grind (arith, common_steps, the_lemmas, chain_first), search (rules, the_lemmas, chain_first))

pub expression-returns-in_err-location-in-Chain : goal.expression-returns-in_err-location-in-Chain
expression-returns-in_err-location-in-Chain g t c = first_of (grind (arith, common_steps, the_lemmas, chain_first), search (rules, the_lemmas, chain_first))

pub expression-returns-in_ok-location-in-Postfix : goal.expression-returns-in_ok-location-in-Postfix
expression-returns-in_ok-location-in-Postfix g t c = first_of (grind (arith, common_steps, the_lemmas, suffixes_first), search (rules, the_lemmas, suffixes_first))

pub expression-returns-in_err-location-in-Postfix : goal.expression-returns-in_err-location-in-Postfix
expression-returns-in_err-location-in-Postfix g t c = first_of (grind (arith, common_steps, the_lemmas, suffixes_first), search (rules, the_lemmas, suffixes_first))

pub expression-returns-in_ok-location-in-Assign : goal.expression-returns-in_ok-location-in-Assign
expression-returns-in_ok-location-in-Assign g t c = grind (arith, the_lemmas, target_first)

pub expression-returns-in_err-location-in-Assign : goal.expression-returns-in_err-location-in-Assign
expression-returns-in_err-location-in-Assign g t c = first_of (grind (arith, common_steps, the_lemmas, target_first), search (rules, the_lemmas, target_first))

pub chain-loop-link-preserved : goal.chain-loop-link-preserved
chain-loop-link-preserved g t c = λ k.
    let split : drop c.loop-link.link-index c.args.links.now ≡ c.link-item.result ∷ drop (c.loop-link.link-index + 1) c.args.links.now = grind (arith, common_steps) in
    let same : (link_of c.link-item.result).spot ≡ c.link-item.result.spot = search (rules, the_lemmas) in
    let before = c.loop-link.invariant k in
    let there = c.in_ok-location.ensures (λ s. chained (tables_of c.args.known.now) (functions_of c.args.known.now) s (link_of c.link-item.result).spot.at (links_of (map link_of (drop (c.loop-link.link-index + 1) c.args.links.now))) k) in
    first_of (cc, grind (arith, before, there, split, same))

pub chain-returns-in_err-location : goal.chain-returns-in_err-location
chain-returns-in_err-location g t c = first_of (grind (arith, common_steps, the_lemmas), search (rules, the_lemmas))

pub postfix-loop-suffix-preserved : goal.postfix-loop-suffix-preserved
postfix-loop-suffix-preserved g t c = first_of (grind (arith, common_steps, the_lemmas, followed_step), search (rules, the_lemmas, followed_step))

pub postfix-returns-in_err-location : goal.postfix-returns-in_err-location
postfix-returns-in_err-location g t c = first_of (grind (arith, common_steps, the_lemmas, followed_step), search (rules, the_lemmas, followed_step))

pub argue-returns : goal.argue-returns
argue-returns g t c = first_of (grind (arith, common_steps, the_lemmas, no_arguments), search (rules, the_lemmas, no_arguments))

pub one_suffix-returns-in-Dot : goal.one_suffix-returns-in-Dot
one_suffix-returns-in-Dot g t c =
    let deep : c.is_deep.result ≡ is_deep (tables_of c.args.known.now) (functions_of c.args.known.now) (location_of c.args.location) = c.is_deep.ensures (tables_of c.args.known.now) (functions_of c.args.known.now) in
    grind (arith, common_steps, the_lemmas, deep)
