use Rattle.std.proofs.Common.{Some, ap, ◌∙◌, arith}
use Rattle.std.proofs.lemmas.List.{length-map}
use Rattle.fk_types_names.specs.View.{mark_of}
use Rattle.fk_types_names.proofs.SurveyLemmas.{mark_at}
use Rattle.fk_types_names.proofs.reader.Reader.mark.Goals as goal

pub returns : goal.returns
returns c =
    let n = length-map c.args.self.now.marks.now mark_of in
    mark_at c.args.self.now.marks.now c.args.at c.index-self-at.result (omega (arith, n)) c.index-self-at.is ∙ ap (λ m. Some (mark_of m)) c.index-self-at.is
