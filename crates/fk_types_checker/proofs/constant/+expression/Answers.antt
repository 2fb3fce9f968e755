use Rattle.std.proofs.lemmas.List.{at_drop_all}
use Rattle.std.proofs.Common.{◌≡◌, ◌+◌, true, not, map, drop, length, refl, sym, ap, ◌∙◌, arith}
use Rattle.std.proofs.lemmas.Bool.{eqb-true, eqb-false}
use Rattle.fk_syntax.specs.Tree.{links_of}
use Rattle.fk_syntax.specs.View.{tree_of, link_of}
use Rattle.fk_syntax.proofs.Views.{tree_of-Chain, tree_of-Postfix}
use Rattle.fk_types_judgments.specs.Term.{term_of, with_links, joined_term}
use Rattle.fk_types_forms.specs.Scope.{env_in}
use Rattle.fk_types_expressions.proofs.ReadLemmas.{link-step}
use Rattle.fk_types_rules.specs.Constant.{is_more}
use Rattle.fk_types_checker.proofs.MoreLemmas.{or-true, or-false, more-links, more-link, no-more-link, more-some, more-none}
use Rattle.fk_types_checker.proofs.constant.+expression.Goals as goal

pub is_more-returns-then-is_more : goal.is_more-returns-then-is_more
is_more-returns-then-is_more t c =
    let E = env_in c.args.scope.now in
    let first = c.in-Chain.first.value in
    let links = links_of (map link_of c.in-Chain.links.items) in
    let d : c.deref-in-Chain.result.now ≡ first = cc in
    let more : is_more E (term_of (tree_of first)) ≡ true = ap (λ v. is_more E (term_of (tree_of v))) (sym d) ∙ sym c.is_more-in-Chain.ensures ∙ c.if-is_more.true in
    c.if-is_more.true ∙ sym (ap (λ v. is_more E (term_of v)) (ap tree_of c.in-Chain.is ∙ tree_of-Chain c.in-Chain.first c.in-Chain.links) ∙ more-links E (term_of (tree_of first)) links more)

pub is_more-returns-then-not-is_empty : goal.is_more-returns-then-not-is_empty
is_more-returns-then-not-is_empty t c =
    let E = env_in c.args.scope.now in
    let whole = term_of (tree_of c.in-Postfix.whole.value) in
    let tree = ap (λ v. is_more E (term_of v)) (ap tree_of c.in-Postfix.is ∙ tree_of-Postfix c.in-Postfix.whole c.in-Postfix.suffixes) in
    let some : ¬ (length c.in-Postfix.suffixes.items ≡ 0) = λ e. eqb-false c.in-Postfix.suffixes.len 0 (sym c.is_empty.ensures ∙ c.if-not-is_empty.true) (omega (arith, e, c.in-Postfix.suffixes.ok.0)) in
    ap not c.if-not-is_empty.true ∙ sym (tree ∙ more-some E whole c.in-Postfix.suffixes.items some)

pub is_more-returns-else-not-is_empty : goal.is_more-returns-else-not-is_empty
is_more-returns-else-not-is_empty t c =
    let E = env_in c.args.scope.now in
    let whole = c.in-Postfix.whole.value in
    let tree = ap (λ v. is_more E (term_of v)) (ap tree_of c.in-Postfix.is ∙ tree_of-Postfix c.in-Postfix.whole c.in-Postfix.suffixes) in
    let empty : c.in-Postfix.suffixes.len ≡ 0 = eqb-true c.in-Postfix.suffixes.len 0 (sym c.is_empty.ensures ∙ c.if-not-is_empty.false) in
    let none : length c.in-Postfix.suffixes.items ≡ 0 = omega (arith, empty, c.in-Postfix.suffixes.ok.0) in
    let d : c.deref-else-not-is_empty.result.now ≡ whole = cc in
    c.is_more-else-not-is_empty.ensures ∙ ap (λ v. is_more E (term_of (tree_of v))) d ∙ sym (tree ∙ more-none E (term_of (tree_of whole)) c.in-Postfix.suffixes.items none)

pub are_more-loop-link-init : goal.are_more-loop-link-init
are_more-loop-link-init t c = λ before. (before, refl, refl)

pub are_more-loop-link-preserved : goal.are_more-loop-link-preserved
are_more-loop-link-preserved t c = λ before.
    let E = env_in c.args.scope.now in
    let h = c.loop-link.invariant before in
    let link = c.link-item.result in
    let right = term_of (tree_of link.right) in (
      joined_term link.spot link.sign h.0 right,
      no-more-link E link.spot link.sign h.0 right (sym c.is_more.ensures ∙ c.if-is_more.false) ∙ h.1,
      sym (link-step c.args.links.now c.loop-link.link-index link h.0 c.loop-link-test.true c.link-item.is) ∙ h.2,
    )

pub are_more-returns-then-is_more : goal.are_more-returns-then-is_more
are_more-returns-then-is_more t c = λ before.
    let E = env_in c.args.scope.now in
    let h = c.loop-link.invariant before in
    let link = c.link-item.result in
    let right = term_of (tree_of link.right) in
    let others = links_of (map link_of (drop (c.loop-link.link-index + 1) c.args.links.now)) in
    ap (is_more E) (sym h.2 ∙ link-step c.args.links.now c.loop-link.link-index link h.0 c.loop-link-test.true c.link-item.is)
    ∙ more-link E link.spot link.sign h.0 right others (sym c.is_more.ensures ∙ c.if-is_more.true) ∙ or-true (is_more E before)

pub are_more-returns : goal.are_more-returns
are_more-returns t c = λ before.
    let E = env_in c.args.scope.now in
    let h = c.loop-link.invariant before in
    ap (is_more E) (sym h.2 ∙ at_drop_all (λ ls. with_links h.0 (links_of (map link_of ls))) c.args.links.now c.loop-link.link-index c.loop-link-test.false)
    ∙ h.1 ∙ sym (or-false (is_more E before))
