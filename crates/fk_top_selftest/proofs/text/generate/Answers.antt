use Rattle.std.proofs.Common.{◌+◌, ◌≤◌, [], ◌∷◌, ◌++◌, sym, ap, ◌∙◌, arith}
use Rattle.fk_top_selftest.specs.Generated.{statement}
use Rattle.fk_top_selftest.proofs.Statements.{behind, first_lines, head, last_line, lines_from, next_line}
use Rattle.fk_top_selftest.proofs.text.generate.Goals as goal

pub loop-index-init : goal.loop-index-init
loop-index-init c =
    let count = c.args.statements in
    let made = c.in_ok-extend_from_slice.ensures.items ∙ ap (λ text. text ++ head) c.new-text.ensures.items in
    ap (λ text. text ++ lines_from 0 count) made ∙ first_lines count

pub loop-index-preserved : goal.loop-index-preserved
loop-index-preserved c =
    let count = c.args.statements in
    let index = c.loop-index.index in
    let before = c.loop-index.text.items in
    let line = c.as_bytes.ensures.value ∙ c.in_ok-statement.ensures in
    let made = c.in_ok-extend_from_slice-3.ensures.items ∙ ap (λ text. text ++ 10 ∷ []) (c.in_ok-extend_from_slice-2.ensures.items ∙ ap (λ bytes. before ++ bytes) line) in
    ap (λ text. text ++ lines_from (index + 1) count) made
    ∙ behind before (statement (index + 1)) (lines_from (index + 1) count)
    ∙ ap (λ rest. before ++ rest) (sym (next_line index count c.loop-index-test.true))
    ∙ c.loop-index.invariant

pub returns : goal.returns
returns c =
    let count = c.args.statements in
    let index = c.loop-index.index in
    let le : count ≤ index = omega (arith, c.loop-index-test.false) in
    c.in_ok-extend_from_slice-4.ensures.items ∙ ap (λ rest. c.loop-index.text.items ++ rest) (sym (last_line index count le)) ∙ c.loop-index.invariant
