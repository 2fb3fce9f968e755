use Rattle.std.proofs.Common.{sym}
use Rattle.fk_top_input.specs.Input.{is_blank}
use Rattle.fk_top_input.proofs.Splitting.{front_and_rest, no_part, no_position, front-le}
use Rattle.fk_top_input.proofs.words.first_word.Goals as goal

pub returns-in_err-start-clause-word : goal.returns-in_err-start-clause-word
returns-in_err-start-clause-word c =
    rw c.from_residual.ensures (no_part is_blank c.args.text.now (no_position _ _ (sym c.in_err-start.ensures)))

pub split_at-requires : goal.split_at-requires
split_at-requires c = rw c.word_end.ensures (front-le _ _)

pub returns-clause-word : goal.returns-clause-word
returns-clause-word c =
    (front_and_rest is_blank c.args.text.now c.in_ok-start.start c.word_end.result _ _ c.in_ok-start.ensures c.word_end.ensures c.split_at.ensures.front c.split_at.ensures.back).0

pub returns-clause-shorter : goal.returns-clause-shorter
returns-clause-shorter c =
    (front_and_rest is_blank c.args.text.now c.in_ok-start.start c.word_end.result _ _ c.in_ok-start.ensures c.word_end.ensures c.split_at.ensures.front c.split_at.ensures.back).1
