use Rattle.std.proofs.Common.{◌≤◌, IfOk, subst, sum_by}
use Rattle.fk_syntax.specs.ProgramView.{program_of}
use Rattle.fk_meaning_forms.specs.Tables.{Tables}
use Rattle.fk_layout_walk.specs.Known.{tables_of}
use Rattle.fk_lower_text.specs.Lowered.{HasSites}
use Rattle.fk_gen_list.specs.Generable.{most_words}
use Rattle.fk_lower.specs.Depths.{AreTold}
use Rattle.fk_lower_text.specs.Depths.{depths_of}
use Rattle.fk_layout_walk_statements.specs.Texts.{functions_in}
use Rattle.fk_lower_laws.specs.Laws.{count_of_file}
use Rattle.fk_compile.specs.Lists.{HasListOf, IsGrouped}
use Rattle.fk_compile.proofs.Lowerable.{prepared, lowerable, few_sites, grouped_list, answered, answered_all}
use Rattle.fk_compile.proofs.list.list_of.Goals as goal

pub returns-clause-list : goal.returns-clause-list
returns-clause-list c =
    let text = c.args.text.now in
    let tree = program_of text.tree in
    let known = c.tables-known.result in
    let p =
    prepared c.requires.checked.0 tree text.facts known c.tables-known.ensures.tables c.tables-known.ensures.items c.requires.checked.1 c.requires.well_formed c.requires.tokens c.requires.fits
    c.texts_are_trim.ensures c.texts_are_proper.ensures c.texts_have_words.ensures c.numbers_have_room.ensures c.correct_programs_fit.ensures c.forms_are_shaped.ensures in
    subst (λ (t : Tables). IfOk c.lowered.result (λ list. HasListOf t tree list.ops.items list.main)) p.of.tables
    (c.lowered.ensures.list tree (lowerable tree text.facts known p))

pub returns-clause-small : goal.returns-clause-small
returns-clause-small c =
    let text = c.args.text.now in
    let tree = program_of text.tree in
    let known = c.tables-known.result in
    let p =
    prepared c.requires.checked.0 tree text.facts known c.tables-known.ensures.tables c.tables-known.ensures.items c.requires.checked.1 c.requires.well_formed c.requires.tokens c.requires.fits
    c.texts_are_trim.ensures c.texts_are_proper.ensures c.texts_have_words.ensures c.numbers_have_room.ensures c.correct_programs_fit.ensures c.forms_are_shaped.ensures in
    answered (λ list. HasSites known list.ops.items) (λ list. sum_by most_words list.ops.items ≤ 256000) c.lowered.result
    (λ list has. c.lists_are_small.ensures known list.ops.items has (few_sites tree text.facts known p)) (c.lowered.ensures.sites tree (lowerable tree text.facts known p))

pub returns-clause-grouped : goal.returns-clause-grouped
returns-clause-grouped c =
    let text = c.args.text.now in
    let tree = program_of text.tree in
    let known = c.tables-known.result in
    let p =
    prepared c.requires.checked.0 tree text.facts known c.tables-known.ensures.tables c.tables-known.ensures.items c.requires.checked.1 c.requires.well_formed c.requires.tokens c.requires.fits
    c.texts_are_trim.ensures c.texts_are_proper.ensures c.texts_have_words.ensures c.numbers_have_room.ensures c.correct_programs_fit.ensures c.forms_are_shaped.ensures in
    let can = lowerable tree text.facts known p in
    answered_all (λ list. HasListOf (tables_of known) tree list.ops.items list.main) (λ list. HasSites known list.ops.items)
    (λ list. AreTold (depths_of known (functions_in known)) list.ops.items)
    (λ list. IsGrouped list.ops.items list.main (count_of_file tree text.facts)) c.lowered.result
    (λ list is sites told.
    grouped_list tree text.facts known p c.lowered_lists_can_have_groups.ensures c.lists_have_blocks.ensures c.lists_are_of_tree.ensures
    list.ops.items list.main is sites told)
    (c.lowered.ensures.list tree can) (c.lowered.ensures.sites tree can) (c.lowered.ensures.told tree can)

pub lowered-requires-clause-laid : goal.lowered-requires-clause-laid
lowered-requires-clause-laid c =
    let text = c.args.text.now in
    let tree = program_of text.tree in
    let known = c.tables-known.result in
    let p =
    prepared c.requires.checked.0 tree text.facts known c.tables-known.ensures.tables c.tables-known.ensures.items c.requires.checked.1 c.requires.well_formed c.requires.tokens c.requires.fits
    c.texts_are_trim.ensures c.texts_are_proper.ensures c.texts_have_words.ensures c.numbers_have_room.ensures c.correct_programs_fit.ensures c.forms_are_shaped.ensures in
    c.texts_can_be_laid.ensures tree text.facts known p.laid.correct p.of p.laid.fits p.whole

pub lowered-requires-clause-numbered : goal.lowered-requires-clause-numbered
lowered-requires-clause-numbered c =
    let text = c.args.text.now in
    let tree = program_of text.tree in
    let known = c.tables-known.result in
    let p =
    prepared c.requires.checked.0 tree text.facts known c.tables-known.ensures.tables c.tables-known.ensures.items c.requires.checked.1 c.requires.well_formed c.requires.tokens c.requires.fits
    c.texts_are_trim.ensures c.texts_are_proper.ensures c.texts_have_words.ensures c.numbers_have_room.ensures c.correct_programs_fit.ensures c.forms_are_shaped.ensures in
    p.numbered
