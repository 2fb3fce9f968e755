use Rattle.std.proofs.Common.{sym, ap, ◌∙◌, arith}
use Rattle.std.proofs.lemmas.List.{get_or_past}
use Rattle.fk_lex.specs.Bytes.{is_x}
use Rattle.fk_lex.specs.Kinds.{value_in}
use Rattle.fk_lex.proofs.TokenSteps.{decimal_value, hexadecimal_value, octal_value, same_value}
use Rattle.fk_lex.proofs.numeral.numeral_value.Goals.{else-numeral-gt1-via-then-numeral-gt1+else-is_x, else-numeral-gt1-via-else-numeral-gt1}
use Rattle.fk_lex.proofs.numeral.numeral_value.Goals as goal

pub returns-then-numeral-ne48 : goal.returns-then-numeral-ne48
returns-then-numeral-ne48 c = same_value _ _ _ (decimal_value c.args.numeral.now (λ is. omega arith)) c.value_in.ensures

pub returns-then-is_x : goal.returns-then-is_x
returns-then-is_x c =
    same_value _ _ _ (ap (value_in 16 0) c.split_at.ensures.back ∙ hexadecimal_value c.args.numeral.now (omega arith) (sym c.if-is_x.ensures)) c.value_in-then-is_x.ensures

pub returns : goal.returns
returns c =
    same_value _ _ _ (octal_value c.args.numeral.now (omega arith) (elim c.else-numeral-gt1.branch [
      | else-numeral-gt1-via-then-numeral-gt1+else-is_x w ↦ sym w.if-is_x.ensures
      | else-numeral-gt1-via-else-numeral-gt1 w ↦ ap is_x (get_or_past c.args.numeral.now 1 0 (omega arith))
    ])) c.value_in-2.ensures
