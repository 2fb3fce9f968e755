use Rattle.std.proofs.Common.{sym, ◌∙◌}
use Rattle.fk_num.proofs.Numerals.{all_read, digit_read, no_digit_read}
use Rattle.fk_num.proofs.decimal.read_unsigned.Goals as goal

pub loop-byte-preserved : goal.loop-byte-preserved
loop-byte-preserved c = digit_read c.args.text.now c.loop-byte.byte-index c.loop-byte.value c.in_ok-value.value c.loop-byte-test.true c.loop-byte.invariant c.in_ok-value.ensures

pub returns-in_err-value : goal.returns-in_err-value
returns-in_err-value c = c.from_residual.ensures ∙ sym (no_digit_read c.args.text.now c.loop-byte.byte-index c.loop-byte.value c.loop-byte-test.true c.loop-byte.invariant c.in_err-value.ensures)

pub returns : goal.returns
returns c = sym (all_read c.args.text.now c.loop-byte.byte-index c.loop-byte.value c.loop-byte-test.false c.loop-byte.invariant)
