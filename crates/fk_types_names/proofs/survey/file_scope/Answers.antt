use Rattle.std.proofs.Common.{◌≡◌, map, sym, ◌∙◌, arith}
use Rattle.std.specs.Prelude.{slice_index}
use Rattle.std.proofs.lemmas.List.{length-map}
use Rattle.fk_types_names.specs.View.{mark_of}
use Rattle.fk_types_names.specs.Visible.{DeclaresAt, DeclaresHere, depth}
use Rattle.fk_types_names.specs.TableView.{shown}
use Rattle.fk_types_names.proofs.SurveyLemmas.{mark_at, first_more, first_all, someone, here_at, at_here, at_within}
use Rattle.fk_types_names.proofs.ReadingLemmas.{named_once}
use Rattle.fk_types_names.proofs.survey.file_scope.Goals as goal

pub loop-at-preserved : goal.loop-at-preserved
loop-at-preserved c =
    let i = c.loop-at.at in
    let marks = map mark_of c.args.marks.now in
    let m = mark_of c.index-marks-at.result in
    let here = mark_at c.args.marks.now i c.index-marks-at.result (omega arith) c.index-marks-at.is in
    let n = length-map c.args.marks.now mark_of in
    let level : slice_index c.args.depths.now i ≡ depth marks i = c.requires.each i (omega (arith, n)) in
    first_more (λ q k. DeclaresAt marks q k × (depth marks k ≡ 0)) i c.file_name.result
    (someone (λ name. DeclaresHere name.now m × (slice_index c.args.depths.now i ≡ 0)) (λ name. DeclaresAt marks name.now i × (depth marks i ≡ 0)) (λ name p. (here_at (DeclaresHere name.now) marks i m here p.0, sym level ∙ p.1)) c.file_name.result c.file_name.ensures.some)
    (λ none q p. c.file_name.ensures.none none (level ∙ p.1) q (at_here (DeclaresHere q) marks i m here p.0))
    (λ q r p s. named_once marks i r q s.0 p.0)
    (shown c.loop-at.firsts) (shown c.set_first.new.self) c.in_ok-set_first.ensures.some c.in_ok-set_first.ensures.none c.loop-at.invariant

pub returns : goal.returns
returns c = λ q.
    let marks = map mark_of c.args.marks.now in
    first_all (λ k. DeclaresAt marks q k × (depth marks k ≡ 0)) c.loop-at.at (shown c.loop-at.firsts q)
    (λ k p. let w = at_within (DeclaresHere q) marks k p.0 in let n = length-map c.args.marks.now mark_of in omega (arith, w, n))
    (c.loop-at.invariant q)
