use Rattle.std.proofs.Common.{◌+◌, length, ap, ◌∙◌, arith}
use Rattle.fk_syntax.specs.ProgramView.{function_of}
use Rattle.fk_meaning_forms.specs.Code.{size}
use Rattle.fk_layout_walk_statements.specs.Texts.{code_in}
use Rattle.fk_lower_text.specs.Laid.{codes_of, sizes}
use Rattle.fk_lower_text.proofs.Keeping.{rest_laid, one_laid}
use Rattle.fk_lower_text.proofs.bodies.Bodies.add.Goals as goal

pub reach-requires-clause-up : goal.reach-requires-clause-up
reach-requires-clause-up c =
    let e = c.binding_of.ensures in
    let up = c.requires.laid.up.0 in
    omega (arith, e, up)

pub push-requires-clause-plain : goal.push-requires-clause-plain
push-requires-clause-plain c = c.requires.laid.plain.0

pub push-requires-clause-few : goal.push-requires-clause-few
push-requires-clause-few c =
    let s = c.reach.ensures.site in
    let few = c.requires.laid.few in
    omega (arith, s, few)

pub returns-clause-next : goal.returns-clause-next
returns-clause-next c fs can =
    let old = c.args.self.now in
    let new = c.push.new.self in
    let f = function_of c.args.whole.now in
    let e = c.binding_of.ensures in
    let n = c.in_ok-reach.ensures.count in
    let m = c.in_ok-push.ensures.count in
    rest_laid c.args.known.now f fs (length old.blocks.items) old.site (length new.blocks.items) new.site (omega (arith, e, n, m))
    (c.in_ok-push.ensures.site ∙ ap (λ s. s + size (code_in c.args.known.now f)) c.reach.ensures.site) can

pub returns-clause-codes : goal.returns-clause-codes
returns-clause-codes c fs =
    let old = c.args.self.now in
    let mid = c.reach.new.self in
    let new = c.push.new.self in
    let n = c.in_ok-reach.ensures.count in
    let m = c.in_ok-push.ensures.count in
    one_laid c.args.known.now (function_of c.args.whole.now) fs (codes_of old.blocks.items) (codes_of mid.blocks.items) (codes_of new.blocks.items)
    (length old.blocks.items) old.site mid.site c.binding_of.result (length new.blocks.items) new.site
    c.binding_of.ensures c.in_ok-reach.ensures.codes c.reach.ensures.site c.in_ok-push.ensures.codes (omega (arith, n, m)) c.in_ok-push.ensures.site

pub returns-clause-sites : goal.returns-clause-sites
returns-clause-sites c fs =
    let s = c.reach.ensures.site in
    let t = c.in_ok-push.ensures.site in
    omega (arith, s, t)
