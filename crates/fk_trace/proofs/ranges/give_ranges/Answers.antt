use Rattle.std.proofs.Common.{◌+◌, ◌<◌, ◌≤◌, [], ◌∷◌, append-nil, length, drop, sym, ap, subst, ◌∙◌, refl, arith}
use Rattle.fk_ports.specs.Known.{IsGiven}
use Rattle.fk_ports.proofs.Given.{all_given, none_given, part_of_given, piece_given}
use Rattle.fk_ports.proofs.Pieces.{on_err, err_then, ok_then}
use Rattle.fk_machine.specs.Run.{committed}
use Rattle.fk_machine.specs.View.{machine_of}
use Rattle.fk_trace.specs.Text.{number_in, range_text, ranges_text}
use Rattle.fk_trace.specs.Ranges.{numbers_of, range_of, text_from}
use Rattle.fk_trace.proofs.Longest.{begins, last_range}
use Rattle.fk_trace.proofs.Numbers.{numbers_from, numbers_end}
use Rattle.fk_trace.proofs.ranges.give_ranges.Goals as goal

pub loop-hart-init : goal.loop-hart-init
loop-hart-init g c =
    let column = c.args.column in
    let commits = committed (machine_of c.args.machine.now) in
    let numbers = numbers_of column commits in
    let before = g.K.Sink.taken c.args.out.now in
    let some : 0 < length commits = omega (arith, c.harts-hart-end.ensures.committed, c.harts-hart-end.ensures.some) in
    let first = c.number_in.ensures ∙ ap (number_in column) c.committed.ensures in
    record {
      ordered = omega arith;
      last = refl;
      given =
          subst (λ text. IsGiven (ranges_text column 0 numbers) text before before)
          (ap (ranges_text column 0) (numbers_from column commits 0 some ∙ ap (λ n. n ∷ drop 1 numbers) (sym first)) ∙ begins column _ (drop 1 numbers) refl)
          (none_given (ranges_text column 0 numbers) before);
      steady = refl;
    }

pub loop-hart-preserved : goal.loop-hart-preserved
loop-hart-preserved g c =
    let column = c.args.column in
    let commits = committed (machine_of c.args.machine.now) in
    let numbers = numbers_of column commits in
    let hart = c.loop-hart.hart in
    let lt : hart < length commits = omega (arith, c.harts-hart-end.ensures.committed, c.loop-hart-test.true) in
    let next = c.number_in-in-loop-hart.ensures ∙ ap (number_in column) c.committed-in-loop-hart.ensures in
    let now = g.K.Sink.taken c.loop-hart.out in
    let so_far = subst (λ above. IsGiven (ranges_text column 0 numbers) (text_from column c.loop-hart.range above) (g.K.Sink.taken c.args.out.now) now)
    (numbers_from column commits hart lt ∙ ap (λ n. n ∷ drop (hart + 1) numbers) (sym next)) c.loop-hart.invariant.given in
    record {
      ordered = c.in_ok-range.ensures.ordered;
      last = ap (λ n. n + 1) (c.in_ok-range.ensures.next ∙ c.loop-hart.invariant.last);
      given = c.in_ok-range.ensures.given (ranges_text column 0 numbers) (drop (hart + 1) numbers) (g.K.Sink.taken c.args.out.now) so_far;
      steady = c.in_ok-range.ensures.steady ∙ c.loop-hart.invariant.steady;
    }

pub returns-in_err-range-clause-prefix : goal.returns-in_err-range-clause-prefix
returns-in_err-range-clause-prefix g c =
    let column = c.args.column in
    let commits = committed (machine_of c.args.machine.now) in
    let numbers = numbers_of column commits in
    let hart = c.loop-hart.hart in
    let lt : hart < length commits = omega (arith, c.harts-hart-end.ensures.committed, c.loop-hart-test.true) in
    let next = c.number_in-in-loop-hart.ensures ∙ ap (number_in column) c.committed-in-loop-hart.ensures in
    let so_far = subst (λ above. IsGiven (ranges_text column 0 numbers) (text_from column c.loop-hart.range above) (g.K.Sink.taken c.args.out.now) (g.K.Sink.taken c.loop-hart.out))
    (numbers_from column commits hart lt ∙ ap (λ n. n ∷ drop (hart + 1) numbers) (sym next)) c.loop-hart.invariant.given in
    on_err c.from_residual.result _
    (c.in_err-range.ensures.prefix (ranges_text column 0 numbers) (drop (hart + 1) numbers) (g.K.Sink.taken c.args.out.now) so_far)

pub returns-clause-all : goal.returns-clause-all
returns-clause-all g c =
    let column = c.args.column in
    let commits = committed (machine_of c.args.machine.now) in
    let numbers = numbers_of column commits in
    let before = g.K.Sink.taken c.args.out.now in
    let r = c.loop-hart.range in
    let past : length commits ≤ c.loop-hart.hart = omega (arith, c.harts-hart-end.ensures.committed, c.loop-hart-test.false) in
    let last = subst (λ text. IsGiven (ranges_text column 0 numbers) text before (g.K.Sink.taken c.loop-hart.out))
    (ap (text_from column r) (numbers_end column commits c.loop-hart.hart past) ∙ last_range column r c.loop-hart.invariant.ordered ∙ sym (append-nil (range_text column (range_of r)))) c.loop-hart.invariant.given in
    ok_then c.give_range.result _ _ (λ all. all_given (ranges_text column 0 numbers) [] before _ refl (piece_given (ranges_text column 0 numbers) (range_text column (range_of r)) [] before _ _ last all)) c.give_range.ensures.all

pub returns-clause-prefix : goal.returns-clause-prefix
returns-clause-prefix g c =
    let column = c.args.column in
    let commits = committed (machine_of c.args.machine.now) in
    let numbers = numbers_of column commits in
    let before = g.K.Sink.taken c.args.out.now in
    let r = c.loop-hart.range in
    let past : length commits ≤ c.loop-hart.hart = omega (arith, c.harts-hart-end.ensures.committed, c.loop-hart-test.false) in
    let last = subst (λ text. IsGiven (ranges_text column 0 numbers) text before (g.K.Sink.taken c.loop-hart.out))
    (ap (text_from column r) (numbers_end column commits c.loop-hart.hart past) ∙ last_range column r c.loop-hart.invariant.ordered ∙ sym (append-nil (range_text column (range_of r)))) c.loop-hart.invariant.given in
    err_then c.give_range.result _ _ (part_of_given (ranges_text column 0 numbers) (range_text column (range_of r)) [] before _ _ last) c.give_range.ensures.prefix
