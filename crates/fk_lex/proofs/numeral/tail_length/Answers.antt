use Rattle.std.proofs.Common.{sym, ap, subst}
use Rattle.std.proofs.lemmas.List.{get_or_past}
use Rattle.fk_lex.specs.Bytes.{is_suffix}
use Rattle.fk_lex.proofs.Fronts.{IsTailAt, tail_at}
use Rattle.fk_lex.proofs.numeral.tail_length.Goals.{else-digits-text-via-then-digits-text+else-is_suffix, else-digits-text-via-else-digits-text}
use Rattle.fk_lex.proofs.numeral.tail_length.Goals as goal

pub returns-then-is_suffix : goal.returns-then-is_suffix
returns-then-is_suffix c =
    let tail = subst (IsTailAt c.args.base c.args.text.now) (sym c.digits_length-digits.ensures.value) (tail_at c.args.base c.args.text.now) in
    tail.suffixed (sym c.if-is_suffix.ensures)

pub returns-else-digits-text : goal.returns-else-digits-text
returns-else-digits-text c =
    let tail = subst (IsTailAt c.args.base c.args.text.now) (sym c.digits_length-digits.ensures.value) (tail_at c.args.base c.args.text.now) in
    elim c.else-digits-text.branch [
      | else-digits-text-via-then-digits-text+else-is_suffix w ↦ tail.plain (sym w.if-is_suffix.ensures)
      | else-digits-text-via-else-digits-text w ↦ tail.plain (ap is_suffix (get_or_past c.args.text.now c.digits_length-digits.result 0 w.if-digits-text.false))
    ]
