use Rattle.std.proofs.Common.{◌≡◌, ℕ, Option, None, SomeIff, sym, subst, arith}
use Rattle.fk_lex.proofs.TokenSteps.{value_least}
use Rattle.fk_lex.proofs.numeral.value_in.Goals as goal

no_value : {P : Type 0} (r : Option ℕ) (v : ℕ) → r ≡ None → ¬ P → SomeIff r P v
no_value {P} r v none never = subst (λ o. SomeIff o P v) (sym none) never

-- the number so far is too wide already
pub returns-in_err-checked_mul : goal.returns-in_err-checked_mul
returns-in_err-checked_mul c = no_value _ _ c.from_residual.ensures (λ small.
    let digit = c.digit_value-digit.ensures in
    let least = value_least c.args.base c.loop-byte.value c.args.digits.now c.loop-byte.byte-index c.requires (omega arith) (omega arith) c.loop-byte.invariant.left in
    c.in_err-checked_mul.ensures (omega arith))

pub returns-in_err-value : goal.returns-in_err-value
returns-in_err-value c = no_value _ _ c.from_residual-in_err-value.ensures (λ small.
    let digit = c.digit_value-digit.ensures in
    let product = c.in_ok-checked_mul.ensures in
    let least = value_least c.args.base c.loop-byte.value c.args.digits.now c.loop-byte.byte-index c.requires (omega arith) (omega arith) c.loop-byte.invariant.left in
    c.in_err-value.ensures (omega arith))
