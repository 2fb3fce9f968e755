use Rattle.std.proofs.Common.{map, arith}
use Rattle.std.proofs.lemmas.List.{length-map}
use Rattle.fk_types_names.specs.View.{mark_of}
use Rattle.fk_types_names.specs.Means.{HasBodyAt, DefinesHere}
use Rattle.fk_types_names.specs.TableView.{shown}
use Rattle.fk_types_names.proofs.SurveyLemmas.{mark_at, first_more, first_all, someone, here_at, at_here, at_within}
use Rattle.fk_types_names.proofs.ReadingLemmas.{defined_once}
use Rattle.fk_types_names.proofs.survey.definitions.Goals as goal

pub loop-at-preserved : goal.loop-at-preserved
loop-at-preserved c =
    let i = c.loop-at.at in
    let marks = map mark_of c.args.marks.now in
    let m = mark_of c.index-marks-at.result in
    let here = mark_at c.args.marks.now i c.index-marks-at.result (omega arith) c.index-marks-at.is in
    first_more (HasBodyAt marks) i c.defined_name.result
    (someone (λ name. DefinesHere name.now m) (λ name. HasBodyAt marks name.now i) (λ name p. here_at (DefinesHere name.now) marks i m here p) c.defined_name.result c.defined_name.ensures.some)
    (λ none q p. c.defined_name.ensures.none none q (at_here (DefinesHere q) marks i m here p))
    (λ q r p s. defined_once marks i r q s p)
    (shown c.loop-at.firsts) (shown c.set_first.new.self) c.in_ok-set_first.ensures.some c.in_ok-set_first.ensures.none c.loop-at.invariant

pub returns : goal.returns
returns c = λ q.
    let marks = map mark_of c.args.marks.now in
    first_all (HasBodyAt marks q) c.loop-at.at (shown c.loop-at.firsts q)
    (λ k p. let w = at_within (DefinesHere q) marks k p in let n = length-map c.args.marks.now mark_of in omega (arith, w, n))
    (c.loop-at.invariant q)
