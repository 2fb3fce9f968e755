use Rattle.std.proofs.Common.{sym, ◌∙◌, arith, below_more}
use Rattle.std.proofs.lemmas.Bool.{false≢true}
use Rattle.fk_elf.proofs.reading.read_header.Goals as goal

pub loop-offset-preserved : goal.loop-offset-preserved
loop-offset-preserved c = below_more _ _ c.loop-offset.invariant (c.is_header_byte.ensures.0 c.if-not-is_header_byte.false)

pub returns-then-not-is_header_byte-clause-fault : goal.returns-then-not-is_header_byte-clause-fault
returns-then-not-is_header_byte-clause-fault c = (
  omega arith,
  omega arith,
  record {
    behind = omega arith;
    bad = λ is. false≢true (sym c.if-not-is_header_byte.true ∙ c.is_header_byte.ensures.1 is);
    good_before = λ k from h. c.loop-offset.invariant k h;
  },
)

pub returns-clause-header : goal.returns-clause-header
returns-clause-header c = (omega arith, λ offset h. c.loop-offset.invariant offset (omega (arith, h, c.loop-offset-test.false)))
