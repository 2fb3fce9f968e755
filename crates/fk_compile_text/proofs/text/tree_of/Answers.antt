use Rattle.std.proofs.Common.{List, map, arith, rules, ap, length, ◌≤◌}
use Rattle.std.proofs.lemmas.List.{length-map}
use Rattle.std.proofs.lemmas.Result.{IfOk-at_ok}
use Rattle.fk_syntax.specs.ProgramView.{program_of, item_of}
use Rattle.fk_lex.specs.View.{spelled}
use Rattle.fk_lex.specs.declared.token.Token.{Token}
use Rattle.fk_parse.specs.Parses.{beginning, end_of}
use Rattle.fk_compile_text.proofs.Bounds.{narrow, few_items}
use Rattle.fk_compile_text.proofs.Parts.{kept, faulty, parsed}
use Rattle.fk_compile_text.proofs.text.tree_of.Goals as goal

pub parse-requires-clause-narrow : goal.parse-requires-clause-narrow
parse-requires-clause-narrow c =
    let short = IfOk-at_ok (λ u. length c.args.source.now ≤ 1048576) c.in_ok-test_length.was c.test_length.ensures.short in
    let lexed = kept _ _ c.lex.result c.map_err.result c.in_ok-tokens.tokens c.lex.ensures.tokens c.map_err.ensures.cases c.in_ok-tokens.was in
    let far = narrow c.args.source.now (map spelled c.in_ok-tokens.tokens.items) lexed in
    let same = ap (λ (ts : List Token). (end_of beginning (map spelled ts)).column) c.as_slice.ensures.value in
    omega (arith, short)

pub returns-in_err-tree-clause-refused : goal.returns-in_err-tree-clause-refused
returns-in_err-tree-clause-refused c =
    let lexed = kept _ _ c.lex.result c.map_err.result c.in_ok-tokens.tokens c.lex.ensures.tokens c.map_err.ensures.cases c.in_ok-tokens.was in
    let fault = faulty c.args.source.now c.in_ok-tokens.tokens.items c.as_slice.result.now c.parse.result c.as_slice.ensures.value lexed c.parse.ensures.refused in
    search rules

pub returns-clause-tree : goal.returns-clause-tree
returns-clause-tree c =
    let lexed = kept _ _ c.lex.result c.map_err.result c.in_ok-tokens.tokens c.lex.ensures.tokens c.map_err.ensures.cases c.in_ok-tokens.was in
    let derived = kept _ _ c.parse.result c.map_err-2.result c.in_ok-tree.tree c.parse.ensures.program c.map_err-2.ensures.cases c.in_ok-tree.was in
    parsed c.args.source.now c.in_ok-tokens.tokens.items c.as_slice.result.now (program_of c.in_ok-tree.tree) c.as_slice.ensures.value lexed derived

pub returns-clause-well_formed : goal.returns-clause-well_formed
returns-clause-well_formed c =
    kept _ _ c.parse.result c.map_err-2.result c.in_ok-tree.tree c.parse.ensures.well_formed c.map_err-2.ensures.cases c.in_ok-tree.was

pub returns-clause-small : goal.returns-clause-small
returns-clause-small c =
    let short = IfOk-at_ok (λ u. length c.args.source.now ≤ 1048576) c.in_ok-test_length.was c.test_length.ensures.short in
    let few = kept _ _ c.lex.result c.map_err.result c.in_ok-tokens.tokens c.lex.ensures.few c.map_err.ensures.cases c.in_ok-tokens.was in
    let derived = kept _ _ c.parse.result c.map_err-2.result c.in_ok-tree.tree c.parse.ensures.program c.map_err-2.ensures.cases c.in_ok-tree.was in
    omega (arith, derived.count, length-map c.as_slice.result.now spelled, c.as_slice.ensures.len, short)

pub returns-clause-few : goal.returns-clause-few
returns-clause-few c =
    let short = IfOk-at_ok (λ u. length c.args.source.now ≤ 1048576) c.in_ok-test_length.was c.test_length.ensures.short in
    let few = kept _ _ c.lex.result c.map_err.result c.in_ok-tokens.tokens c.lex.ensures.few c.map_err.ensures.cases c.in_ok-tokens.was in
    let derived = kept _ _ c.parse.result c.map_err-2.result c.in_ok-tree.tree c.parse.ensures.program c.map_err-2.ensures.cases c.in_ok-tree.was in
    let items = few_items (map spelled c.as_slice.result.now) (program_of c.in_ok-tree.tree) derived in
    omega (arith, length-map c.in_ok-tree.tree.items.items item_of, length-map c.as_slice.result.now spelled, c.in_ok-tree.tree.items.ok.0, c.as_slice.ensures.len, short)
