use Rattle.std.proofs.Common.{◌≡◌, ◌+◌, ◌++◌, List, length, map, drop, ap, sym, subst, ◌∙◌, arith}
use Rattle.std.proofs.lemmas.List.{at_drop_all}
use Rattle.fk_syntax.specs.declared.program.Item.{Item}
use Rattle.fk_syntax.specs.Program.{ItemTree}
use Rattle.fk_syntax.specs.ProgramView.{item_of}
use Rattle.fk_meaning_forms.specs.Program.{functions_of}
use Rattle.fk_layout_walk_statements.specs.Texts.{functions_in}
use Rattle.fk_lower_text.specs.Laid.{codes_of, laid, sizes, CanBeLaid}
use Rattle.fk_lower_text.proofs.Keeping.{one_left, item_laid}
use Rattle.fk_lower_text.proofs.Deep.{sites_sized}
use Rattle.fk_lower_text.proofs.bodies.Bodies.of.Goals as goal

pub item-requires-clause-laid : goal.item-requires-clause-laid
item-requires-clause-laid c =
    let known = c.args.known.now in
    let items = known.items.now in
    let i = c.loop-item.item-index in
    let x = c.item-item.result in
    let count = length c.loop-item.bodies.blocks.items in
    let site = c.loop-item.bodies.site in
    let left = one_left items i x c.loop-item-test.true c.item-item.is in
    item_laid known (item_of x) (map item_of (drop (i + 1) items)) count site
    (subst (λ (xs : List ItemTree). CanBeLaid known count site (functions_of xs)) left c.loop-item.invariant.next)

pub loop-item-preserved : goal.loop-item-preserved
loop-item-preserved c =
    let known = c.args.known.now in
    let items = known.items.now in
    let i = c.loop-item.item-index in
    let x = c.item-item.result in
    let codes = codes_of c.loop-item.bodies.blocks.items in
    let count = length c.loop-item.bodies.blocks.items in
    let site = c.loop-item.bodies.site in
    let others = map item_of (drop (i + 1) items) in
    let left = one_left items i x c.loop-item-test.true c.item-item.is in
    record {
      next = c.in_ok-item.ensures.next others (subst (λ (xs : List ItemTree). CanBeLaid known count site (functions_of xs)) left c.loop-item.invariant.next);
      codes = sym (c.in_ok-item.ensures.codes others) ∙ sym (ap (λ (xs : List ItemTree). codes ++ laid known count site (functions_of xs)) left) ∙ c.loop-item.invariant.codes;
      sites = sym (c.in_ok-item.ensures.sites others) ∙ sym (ap (λ (xs : List ItemTree). site + sizes known (functions_of xs)) left) ∙ c.loop-item.invariant.sites;
      measured = c.item.ensures.measured;
    }

pub returns-clause-sites : goal.returns-clause-sites
returns-clause-sites c =
    let known = c.args.known.now in
    let site = c.loop-item.bodies.site in
    let all : site + 0 ≡ 0 + sizes known (functions_in known) =
    sym (at_drop_all (λ (l : List Item). site + sizes known (functions_of (map item_of l))) known.items.now c.loop-item.item-index c.loop-item-test.false)
    ∙ c.loop-item.invariant.sites in
    omega (arith, all, sites_sized known (functions_in known))
