use Rattle.std.proofs.Common.{◌≡◌, suc, ◌+◌, ◌∷◌, ap, subst, ◌∙◌, refl, arith}
use Rattle.fk_ports.specs.Known.{IsGiven}
use Rattle.fk_ports.proofs.Given.{piece_given, part_of_given}
use Rattle.fk_ports.proofs.Pieces.{on_err}
use Rattle.fk_trace.specs.Text.{range_text, ranges_text}
use Rattle.fk_trace.specs.Ranges.{range_of}
use Rattle.fk_trace.proofs.Longest.{begins, ends, grows}
use Rattle.fk_trace.proofs.ranges.go_on.Goals as goal

pub returns-then-number-range-clause-given : goal.returns-then-number-range-clause-given
returns-then-number-range-clause-given g c = λ bytes rest before given.
    subst (λ text. IsGiven bytes text before (g.K.Sink.taken c.args.out.now))
    (grows c.args.column c.args.range _ c.args.number rest c.requires.ordered c.if-number-range.true refl refl refl) given

pub returns-in_err-give_range-clause-prefix : goal.returns-in_err-give_range-clause-prefix
returns-in_err-give_range-clause-prefix g c = λ bytes rest before given.
    let r = c.args.range in
    let parts = subst (λ text. IsGiven bytes text before (g.K.Sink.taken c.args.out.now))
    (ends c.args.column r (c.args.number ∷ rest) c.requires.ordered c.if-number-range.false) given in
    on_err c.from_residual.result _
    (part_of_given bytes (range_text c.args.column (range_of r)) _ before _ _ parts c.in_err-give_range.ensures.prefix)

pub returns-clause-given : goal.returns-clause-given
returns-clause-given g c = λ bytes rest before given.
    let r = c.args.range in
    let parts = subst (λ text. IsGiven bytes text before (g.K.Sink.taken c.args.out.now))
    (ends c.args.column r (c.args.number ∷ rest) c.requires.ordered c.if-number-range.false) given in
    let next : suc r.last ≡ r.last + 1 = omega arith in
    let after = piece_given bytes (range_text c.args.column (range_of r)) _ before _ _ parts c.in_ok-give_range.ensures.all in
    subst (λ text. IsGiven bytes text before (g.K.Sink.taken c.give_range.new.out))
    (ap (λ h. ranges_text c.args.column h (c.args.number ∷ rest)) next ∙ begins c.args.column _ rest refl) after
