use Rattle.std.proofs.Common.{sym, subst, arith}
use Rattle.fk_lex.specs.Kinds.{LongestTail}
use Rattle.fk_lex.proofs.Numerals.{decimal_longest, octal_longest, hexadecimal_longest}
use Rattle.fk_lex.proofs.numeral.numeral_length.Goals.{else-text-gt2-via-then-text-gt2+else-is_hexadecimal, else-text-gt2-via-else-text-gt2}
use Rattle.fk_lex.proofs.numeral.numeral_length.Goals as goal

pub returns-then-text-ne48 : goal.returns-then-text-ne48
returns-then-text-ne48 c =
    let tail = subst (λ text. LongestTail 10 text c.tail_length.result) c.split_at.ensures.back c.tail_length.ensures in
    decimal_longest c.args.text.now c.tail_length.result c.requires.some (λ is. omega arith) c.requires.digit tail

pub returns-then-is_hexadecimal : goal.returns-then-is_hexadecimal
returns-then-is_hexadecimal c =
    let tail = subst (λ text. LongestTail 16 text c.tail_length-then-is_hexadecimal.result) c.split_at-then-is_hexadecimal.ensures.back c.tail_length-then-is_hexadecimal.ensures in
    hexadecimal_longest c.args.text.now c.tail_length-then-is_hexadecimal.result (omega arith) (omega arith) (sym c.if-is_hexadecimal.ensures) tail

pub returns : goal.returns
returns c =
    let tail = subst (λ text. LongestTail 8 text c.tail_length-2.result) c.split_at-2.ensures.back c.tail_length-2.ensures in
    octal_longest c.args.text.now c.tail_length-2.result c.requires.some (omega arith)
    (λ more. elim c.else-text-gt2.branch [
      | else-text-gt2-via-then-text-gt2+else-is_hexadecimal w ↦ sym w.if-is_hexadecimal.ensures
      | else-text-gt2-via-else-text-gt2 w ↦ absurd (omega arith)
    ])
    tail
