use Rattle.std.proofs.Common.{◌≡◌, ap, ◌∙◌}
use Rattle.fk_num.specs.Op.{upper_word}
use Rattle.fk_num.specs.Word.{signed}
use Rattle.fk_num.proofs.Words.{signed-fits, wide_product, widened}
use Rattle.fk_num.proofs.operator.high_signed.Goals as goal

pub returns : goal.returns
returns c =
    let left : c.from.result ≡ signed c.args.a = c.from.ensures ∙ rw c.cast_signed.ensures (widened c.args.a c.ranges.a.fits) in
    let right : c.from-2.result ≡ signed c.args.b = c.from-2.ensures ∙ rw c.cast_signed-2.ensures (widened c.args.b c.ranges.b.fits) in
    rw (left, right) at c.upper_half.ensures
    ∙ ap upper_word (wide_product (signed c.args.a) (signed c.args.b) (signed-fits c.args.a c.ranges.a.fits) (signed-fits c.args.b c.ranges.b.fits))
