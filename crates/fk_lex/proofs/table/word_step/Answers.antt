use Rattle.std.proofs.Common.{ap, ◌∙◌}
use Rattle.fk_lex.specs.Kinds.{lookup, keywords, or_word}
use Rattle.fk_lex.proofs.TokenSteps.{word_step_is}
use Rattle.fk_lex.proofs.table.word_step.Goals as goal

pub returns : goal.returns
returns c =
    word_step_is c.args.text.now c.word_length-size.result c.word_kind.result c.requires.some c.requires.letter c.word_length-size.ensures.value
    (c.word_kind.ensures ∙ ap (λ bytes. or_word (lookup keywords bytes)) c.split_at.ensures.front)
