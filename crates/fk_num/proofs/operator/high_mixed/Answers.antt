use Rattle.std.proofs.Common.{◌≡◌, ap, ◌∙◌}
use Rattle.fk_num.specs.Op.{upper_word}
use Rattle.fk_num.specs.Word.{signed}
use Rattle.fk_num.proofs.Words.{mixed_product, signed-fits, widened}
use Rattle.fk_num.proofs.operator.high_mixed.Goals as goal

pub returns : goal.returns
returns c =
    let left : c.from.result ≡ signed c.args.a = c.from.ensures ∙ rw c.cast_signed.ensures (widened c.args.a c.ranges.a.fits) in
    rw (left, c.from-2.ensures) at c.upper_half.ensures
    ∙ ap upper_word (mixed_product (signed c.args.a) c.args.b (signed-fits c.args.a c.ranges.a.fits) c.ranges.b.fits)
