use Rattle.std.proofs.Common.{map, arith}
use Rattle.std.proofs.lemmas.List.{length-map}
use Rattle.fk_syntax.specs.ProgramView.{item_of}
use Rattle.fk_types_names.specs.TableView.{shown}
use Rattle.fk_types_names.proofs.SurveyLemmas.{first_more, first_all, someone}
use Rattle.fk_types_name_rules.specs.Headers.{HasHeaderAt, HeaderHere}
use Rattle.fk_types_name_rules.proofs.ListLemmas.{map_at, here_at, at_here, at_within}
use Rattle.fk_types_name_rules.proofs.HeaderLemmas.{header_once}
use Rattle.fk_types_name_rules.proofs.headers.first_headers.Goals as goal

pub loop-at-preserved : goal.loop-at-preserved
loop-at-preserved c =
    let i = c.loop-at.at in
    let items = map item_of c.args.items.now in
    let m = item_of c.index-items-at.result in
    let here = map_at item_of c.args.items.now i c.index-items-at.result (omega arith) c.index-items-at.is in
    first_more (HasHeaderAt items) i c.header_name.result
    (someone (λ name. HeaderHere name.now m) (λ name. HasHeaderAt items name.now i) (λ name p. here_at (HeaderHere name.now) items i m here p) c.header_name.result c.header_name.ensures.some)
    (λ none q p. c.header_name.ensures.none none q (at_here (HeaderHere q) items i m here p))
    (λ q r p s. header_once items i r q s p)
    (shown c.loop-at.firsts) (shown c.set_first.new.self) c.in_ok-set_first.ensures.some c.in_ok-set_first.ensures.none c.loop-at.invariant

pub returns : goal.returns
returns c = λ q.
    let items = map item_of c.args.items.now in
    first_all (HasHeaderAt items q) c.loop-at.at (shown c.loop-at.firsts q)
    (λ k p. let w = at_within (HeaderHere q) items k p in let n = length-map c.args.items.now item_of in omega (arith, w, n))
    (c.loop-at.invariant q)
