use Rattle.std.proofs.Common.{◌≢◌, Some, map, arith}
use Rattle.std.proofs.lemmas.List.{length-map}
use Rattle.fk_syntax.specs.ProgramView.{item_of}
use Rattle.fk_types_names.specs.TableView.{shown}
use Rattle.fk_types_names.proofs.SurveyLemmas.{first_more, first_all, someone}
use Rattle.fk_types_name_rules.specs.Headers.{HasLaterAt, HeaderHere}
use Rattle.fk_types_name_rules.proofs.ListLemmas.{map_at, here_at, at_here, at_within}
use Rattle.fk_types_name_rules.proofs.HeaderLemmas.{header_once, later_from, later_not_first}
use Rattle.fk_types_name_rules.proofs.headers.second_headers.Goals as goal

pub loop-at-preserved : goal.loop-at-preserved
loop-at-preserved c =
    let i = c.loop-at.at in
    let items = map item_of c.args.items.now in
    let firsts = c.args.firsts.now in
    let m = item_of c.index-items-at.result in
    let here = map_at item_of c.args.items.now i c.index-items-at.result (omega arith) c.index-items-at.is in
    first_more (HasLaterAt items) i c.later_name.result
    (someone (λ name. HeaderHere name.now m × (shown firsts name.now ≢ Some i)) (λ name. HasLaterAt items name.now i)
    (λ name p. later_from items name.now i (shown firsts name.now) (c.requires name.now) (here_at (HeaderHere name.now) items i m here p.0) p.1) c.later_name.result c.later_name.ensures.some)
    (λ none q p. later_not_first items q i (shown firsts q) (c.requires q) (c.later_name.ensures.none none q (at_here (HeaderHere q) items i m here p.0)) p)
    (λ q r p s. header_once items i r q s.0 p.0)
    (shown c.loop-at.seconds) (shown c.set_first.new.self) c.in_ok-set_first.ensures.some c.in_ok-set_first.ensures.none c.loop-at.invariant

pub returns : goal.returns
returns c = λ q.
    let items = map item_of c.args.items.now in
    first_all (HasLaterAt items q) c.loop-at.at (shown c.loop-at.seconds q)
    (λ k p. let w = at_within (HeaderHere q) items k p.0 in let n = length-map c.args.items.now item_of in omega (arith, w, n))
    (c.loop-at.invariant q)
