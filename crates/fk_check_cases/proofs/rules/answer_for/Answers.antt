-- The last token of a text reaches no further than its bytes. What is said of its faults is said of the text.
use Rattle.std.proofs.Common.{List, map, ap, sym, subst, arith}
use Rattle.fk_lex.specs.Reading.{Tokens}
use Rattle.fk_lex.specs.declared.token.Token.{Token}
use Rattle.fk_lex.specs.View.{spelled}
use Rattle.fk_parse.specs.Parses.{beginning, end_of}
use Rattle.fk_compile_text.proofs.Bounds.{narrow}
use Rattle.fk_check_cases.proofs.rules.answer_for.Goals as goal

pub parse-requires-clause-narrow : goal.parse-requires-clause-narrow
parse-requires-clause-narrow c =
    let far = narrow c.args.source.now (map spelled c.in-Ok.tokens.items) c.in-Ok.ensures.tokens in
    let same = ap (λ (ts : List Token). (end_of beginning (map spelled ts)).column) c.as_slice.ensures.value in
    omega (arith, c.if-source-gt-MOST_TEXT_BYTES.false)

pub returns-in-Err : goal.returns-in-Err
returns-in-Err c = c.without_tokens.ensures c.args.asked c.args.source.now c.in-Err.ensures.fault

pub returns : goal.returns
returns c =
    let lexed = subst (λ (ts : List Token). Tokens c.args.source.now (map spelled ts)) (sym c.as_slice.ensures.value) c.in-Ok.ensures.tokens in
    c.without_program.ensures c.args.asked c.args.source.now (map spelled c.as_slice.result.now) lexed c.in-Err-parse.ensures.refused
