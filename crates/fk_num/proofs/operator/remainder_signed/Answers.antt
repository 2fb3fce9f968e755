use Rattle.std.proofs.Common.{◌≡◌, ◌∙◌, false, of_z, to_z, w32}
use Rattle.std.proofs.lemmas.Bool.{ne_eqb}
use Rattle.std.specs.Prelude.{◌==◌}
use Rattle.fk_num.specs.Word.{signed}
use Rattle.fk_num.proofs.Words.{remainder-bits, signed-fits, widened}
use Rattle.fk_num.proofs.operator.remainder_signed.Goals as goal

pub returns-else-b-eq0 : goal.returns-else-b-eq0
returns-else-b-eq0 c =
    let left : to_z w32 (of_z w32 c.cast_signed.result) ≡ signed c.args.a = rw c.cast_signed.ensures (widened c.args.a c.ranges.a.fits) in
    let right : to_z w32 (of_z w32 c.cast_signed-else-b-eq0.result) ≡ signed c.args.b = rw c.cast_signed-else-b-eq0.ensures (widened c.args.b c.ranges.b.fits) in
    let by : c.wrapping_rem.result ≡ _ = rw (left, right) at c.wrapping_rem.ensures in
    let bits = remainder-bits (signed c.args.a) (signed c.args.b) (signed-fits c.args.a c.ranges.a.fits) (signed-fits c.args.b c.ranges.b.fits) in
    let other : (c.args.b == 0) ≡ false = ne_eqb c.args.b 0 c.if-b-eq0.false in
    rw other (rw by at c.cast_unsigned.ensures ∙ bits)
