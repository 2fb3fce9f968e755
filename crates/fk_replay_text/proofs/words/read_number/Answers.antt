use Rattle.std.proofs.Common.{arith}
use Rattle.fk_replay_text.proofs.Decimals.{leading_zero, number_answer}
use Rattle.fk_replay_text.proofs.words.read_number.Goals as goal
use Rattle.fk_replay_text.proofs.words.read_number.Goals.{else-text-gt1-via-then-text-gt1+else-text-eq48, else-text-gt1-via-else-text-gt1}

pub returns-then-text-eq48-clause-number : goal.returns-then-text-eq48-clause-number
returns-then-text-eq48-clause-number c = λ n h is. leading_zero c.args.text.now n c.if-text-gt1.true c.if-text-eq48.true h is

pub returns-clause-number : goal.returns-clause-number
returns-clause-number c = elim c.else-text-gt1.branch [
  | else-text-gt1-via-then-text-gt1+else-text-eq48 w ↦ number_answer c.args.text.now c.read_unsigned.result c.read_unsigned.ensures (λ more zero. w.if-text-eq48.false zero)
  | else-text-gt1-via-else-text-gt1 w ↦ number_answer c.args.text.now c.read_unsigned.result c.read_unsigned.ensures (λ more zero. omega (arith, w.if-text-gt1.false, more))
]
