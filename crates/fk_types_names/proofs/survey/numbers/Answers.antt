use Rattle.std.proofs.Common.{◌+◌, [], ◌∷◌, length, map, ap, ◌∙◌, sym, arith, length-append}
use Rattle.fk_types_names.specs.View.{mark_of}
use Rattle.fk_types_names.specs.Outline.{declared_by}
use Rattle.fk_types_names.specs.Means.{binding}
use Rattle.fk_types_names.proofs.SurveyLemmas.{mark_at, binding_more, index_more}
use Rattle.fk_types_names.proofs.survey.numbers.Goals as goal

pub loop-mark-preserved : goal.loop-mark-preserved
loop-mark-preserved c =
    let i = c.loop-mark.mark-index in
    let marks = map mark_of c.args.marks.now in
    let m = mark_of c.mark-item.result in
    let here = mark_at c.args.marks.now i c.mark-item.result (omega arith) c.mark-item.is in
    record {
      next = c.in_ok-number.ensures ∙ (ap (λ n. n + length (declared_by m)) c.loop-mark.invariant.next ∙ sym (binding_more marks i m here));
      size = ap length c.in_ok-push.ensures.items ∙ (length-append c.loop-mark.numbers.items (c.loop-mark.number ∷ []) ∙ ap (λ n. n + 1) c.loop-mark.invariant.size);
      each = index_more (binding marks) c.loop-mark.numbers.items c.push.new.self.items c.loop-mark.number i c.in_ok-push.ensures.items c.loop-mark.invariant.size c.loop-mark.invariant.next c.loop-mark.invariant.each;
    }
