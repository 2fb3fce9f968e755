use Rattle.std.proofs.Common.{◌≡◌, ℕ, ◌+◌, ◌-◌, ◌≤◌, Bool, true, false, List, map, take, [], ◌∷◌, length, ap, sym, ◌∙◌, arith, length-append}
use Rattle.std.specs.Prelude.{count_by}
use Rattle.std.specs.Int.{from_bool}
use Rattle.std.proofs.lemmas.List.{length-take}
use Rattle.std.proofs.lemmas.List.Sums.{count_by-le-length}
use Rattle.fk_types_names.specs.View.{mark_of}
use Rattle.fk_types_names.specs.Outline.{MarkTree}
use Rattle.fk_types_names.specs.Visible.{depth, is_opening, is_closing}
use Rattle.fk_types_names.proofs.SurveyLemmas.{mark_at, count_more, index_more}
use Rattle.fk_types_names.proofs.survey.depths.Goals as goal

at_most : (p : MarkTree → Bool) (marks : List MarkTree) (i : ℕ) → count_by p (take i marks) ≤ i
at_most p marks i = let a = count_by-le-length p (take i marks) in let b = length-take i marks in omega (arith, a, b)

at_most_one : (b : Bool) → from_bool b ≤ 1
at_most_one true = omega arith
at_most_one false = omega arith

pub overflow_add-opened : goal.overflow_add-opened
overflow_add-opened c =
    let a = at_most is_opening (map mark_of c.args.marks.now) c.loop-mark.mark-index in
    let b = at_most_one (is_opening (mark_of c.mark-item.result)) in
    let e = c.loop-mark.invariant.opened in
    let f = c.from-opened.ensures ∙ ap from_bool c.is_opening.ensures in
    omega (arith, a, b, e, f)

pub overflow_add-closed : goal.overflow_add-closed
overflow_add-closed c =
    let a = at_most is_closing (map mark_of c.args.marks.now) c.loop-mark.mark-index in
    let b = at_most_one (is_closing (mark_of c.mark-item.result)) in
    let e = c.loop-mark.invariant.closed in
    let f = c.from-closed.ensures ∙ ap from_bool c.is_closing.ensures in
    omega (arith, a, b, e, f)

pub loop-mark-preserved : goal.loop-mark-preserved
loop-mark-preserved c =
    let i = c.loop-mark.mark-index in
    let marks = map mark_of c.args.marks.now in
    let m = mark_of c.mark-item.result in
    let here = mark_at c.args.marks.now i c.mark-item.result (omega arith) c.mark-item.is in
    let opened : c.loop-mark.opened + c.from-opened.result ≡ count_by is_opening (take (i + 1) marks) =
    ap (λ n. n + c.from-opened.result) c.loop-mark.invariant.opened ∙ (ap (λ n. count_by is_opening (take i marks) + n) (c.from-opened.ensures ∙ ap from_bool c.is_opening.ensures) ∙ sym (count_more is_opening marks i m here)) in
    let closed : c.loop-mark.closed + c.from-closed.result ≡ count_by is_closing (take (i + 1) marks) =
    ap (λ n. n + c.from-closed.result) c.loop-mark.invariant.closed ∙ (ap (λ n. count_by is_closing (take i marks) + n) (c.from-closed.ensures ∙ ap from_bool c.is_closing.ensures) ∙ sym (count_more is_closing marks i m here)) in
    record {
      opened = opened;
      closed = closed;
      size = ap length c.in_ok-push-2.ensures.items ∙ (length-append c.loop-mark.depths.items (c.saturating_sub.result ∷ []) ∙ ap (λ n. n + 1) c.loop-mark.invariant.size);
      each = λ k low. index_more (depth marks) c.loop-mark.depths.items c.push-in-loop-mark.new.self.items c.saturating_sub.result (i + 1) c.in_ok-push-2.ensures.items c.loop-mark.invariant.size
          (c.saturating_sub.ensures ∙ (ap (λ n. n - (c.loop-mark.closed + c.from-closed.result)) opened ∙ ap (λ n. count_by is_opening (take (i + 1) marks) - n) closed))
          (λ j less. c.loop-mark.invariant.each j (omega arith)) k (omega arith);
    }
