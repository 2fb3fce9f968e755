use Rattle.std.proofs.Common.{length, sym, ap, ◌∙◌, arith}
use Rattle.std.specs.Prelude.{slice_get}
use Rattle.std.proofs.lemmas.List.{length-map}
use Rattle.fk_types_names.specs.View.{mark_of}
use Rattle.fk_types_names.proofs.SurveyLemmas.{mark_at}
use Rattle.fk_types_names.proofs.scoped.ScopedMarks.mark.Goals as goal

pub bounds-marks-at : goal.bounds-marks-at
bounds-marks-at c = let n = length-map c.list-marks.result.now mark_of in let s = ap length c.list-marks.ensures in omega (arith, n, s)

pub returns : goal.returns
returns c =
    let n = length-map c.list-marks.result.now mark_of in
    let s = ap length c.list-marks.ensures in
    ap (λ ms. slice_get ms c.args.at) (sym c.list-marks.ensures)
    ∙ mark_at c.list-marks.result.now c.args.at c.index-marks-at.result (omega (arith, n, s)) c.index-marks-at.is
