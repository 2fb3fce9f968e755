use Rattle.std.proofs.Common.{sym, ap, ◌∙◌}
use Rattle.fk_lex.specs.Bytes.{is_word_byte}
use Rattle.fk_lex.specs.Kinds.{number_of}
use Rattle.fk_lex.proofs.TokenSteps.{wide_step_is, joined_step_is, number_step_is}
use Rattle.fk_lex.proofs.numeral.numeral_step.Goals as goal

pub returns-in-None : goal.returns-in-None
returns-in-None c =
    wide_step_is c.args.text.now c.numeral_length-size.result c.requires.some c.requires.digit c.numeral_length-size.ensures
    (sym c.in-None.is ∙ c.number_of.ensures ∙ ap number_of c.split_at.ensures.front)

pub returns-in-Some : goal.returns-in-Some
returns-in-Some c =
    joined_step_is c.args.text.now c.numeral_length-size.result c.in-Some.field-0 c.requires.some c.requires.digit c.numeral_length-size.ensures
    (sym c.in-Some.is ∙ c.number_of.ensures ∙ ap number_of c.split_at.ensures.front)
    (ap is_word_byte (sym c.byte_at.ensures) ∙ sym c.if-is_word_byte.ensures)

pub returns-in-Some-2 : goal.returns-in-Some-2
returns-in-Some-2 c =
    number_step_is c.args.text.now c.numeral_length-size.result c.in-Some.field-0 c.requires.some c.requires.digit c.numeral_length-size.ensures
    (sym c.in-Some.is ∙ c.number_of.ensures ∙ ap number_of c.split_at.ensures.front)
    (ap is_word_byte (sym c.byte_at.ensures) ∙ sym c.if-is_word_byte.ensures)
