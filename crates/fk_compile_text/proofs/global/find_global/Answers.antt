use Rattle.std.proofs.Common.{get_or, arith}
use Rattle.std.specs.Cmp.Lexicographic.{same_text, other_text}
use Rattle.std.proofs.lemmas.List.{get_or_default}
use Rattle.fk_layout_globals.specs.View.{row_of}
use Rattle.fk_compile_text.proofs.Searches.{no_row, has_it, lack_more, lack_at_all}
use Rattle.fk_compile_text.proofs.global.find_global.Goals as goal

pub returns-then-eq : goal.returns-then-eq
returns-then-eq c =
    let rows = c.args.rows.now in
    let i = c.loop-row.row-index in
    let row = get_or rows i no_row in
    let is = get_or_default rows i no_row row c.loop-row-test.true in
    (has_it row_of rows i row c.loop-row-test.true is, same_text row.name.now c.args.name.now c.if-eq.ensures)

pub loop-row-preserved : goal.loop-row-preserved
loop-row-preserved c =
    let rows = c.args.rows.now in
    let i = c.loop-row.row-index in
    let row = get_or rows i no_row in
    let is = get_or_default rows i no_row row c.loop-row-test.true in
    lack_more rows c.args.name.now i row c.loop-row-test.true is (other_text row.name.now c.args.name.now c.if-eq.ensures) c.loop-row.invariant

pub returns : goal.returns
returns c = lack_at_all c.args.rows.now c.args.name.now c.loop-row.row-index (omega arith) c.loop-row.invariant
