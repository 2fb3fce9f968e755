use Rattle.std.proofs.Common.{◌≡◌, ◌+◌, ◌++◌, [], ◌∷◌, ◌∙◌, sym, ap, map, List, ℕ, arith}
use Rattle.std.specs.List.{count_by}
use Rattle.std.proofs.lemmas.Result.{err_from_is_err_and}
use Rattle.fk_syntax.specs.ProgramView.{function_of}
use Rattle.fk_meaning_forms.specs.Code.{Code}
use Rattle.fk_layout_walk_statements.specs.Texts.{code_in}
use Rattle.fk_lower.specs.Building.{Event, has_site, events_of}
use Rattle.fk_lower.specs.BuilderView.{event_of}
use Rattle.fk_lower_text.specs.Laid.{codes_of}
use Rattle.fk_lower_text.proofs.Keeping.{sized, only_memory}
use Rattle.fk_lower_text.proofs.bodies.Bodies.push.Goals as goal

pub returns-in_err-block-clause-refused : goal.returns-in_err-block-clause-refused
returns-in_err-block-clause-refused c =
    let code = code_in c.args.known.now (function_of c.args.whole.now) in
    let noted = c.in_ok-events.ensures.events c.requires.plain in
    let shown = c.deref.ensures.value in
    let all : map event_of c.deref.result.now ≡ events_of code = cc in
    let p = err_from_is_err_and c.from_residual-in_err-block.result c.from_residual-in_err-block.ensures.1 in
    rw (p.1, p.2)
    (only_memory code c.requires.plain.0 c.args.self.now.site (map event_of c.deref.result.now) all c.requires.few c.in_err-block.field-0.0 c.in_err-block.ensures.refused)

pub site_behind-site-requires : goal.site_behind-site-requires
site_behind-site-requires c =
    let code = code_in c.args.known.now (function_of c.args.whole.now) in
    let noted = c.in_ok-events.ensures.events c.requires.plain in
    let shown = c.deref-2.ensures.value in
    let all : map event_of c.deref-2.result.now ≡ events_of code = cc in
    let same = ap (λ (events : List Event). count_by has_site events) all in
    let few = c.requires.few in
    omega (arith, same, sized code c.requires.plain.0, few)

pub returns-clause-codes : goal.returns-clause-codes
returns-clause-codes c =
    let code = code_in c.args.known.now (function_of c.args.whole.now) in
    let noted = c.in_ok-events.ensures.events c.requires.plain in
    let shown = c.deref.ensures.value in
    let all : map event_of c.deref.result.now ≡ events_of code = cc in
    c.in_ok-keep.ensures.codes
    ∙ ap (λ (block : Code ℕ). codes_of c.args.self.now.blocks.items ++ block ∷ []) (c.in_ok-block.ensures.built code c.requires.plain.0 (sym all))

pub returns-clause-site : goal.returns-clause-site
returns-clause-site c =
    let code = code_in c.args.known.now (function_of c.args.whole.now) in
    let noted = c.in_ok-events.ensures.events c.requires.plain in
    let shown = c.deref-2.ensures.value in
    let all : map event_of c.deref-2.result.now ≡ events_of code = cc in
    c.site_behind-site.ensures
    ∙ ap (λ (events : List Event). c.args.self.now.site + count_by has_site events) all
    ∙ ap (λ n. c.args.self.now.site + n) (sized code c.requires.plain.0)
