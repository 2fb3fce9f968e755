use Rattle.fk_syntax.specs.ProgramView.{program_of}
use Rattle.fk_compile_text.proofs.Parts.{passes_on}
use Rattle.fk_replay_source.proofs.Known.{laid_out, few_indices, few_globals}
use Rattle.fk_replay_source.proofs.listed.listed_text.Goals as goal

pub returns-in_err-list-clause-refused : goal.returns-in_err-list-clause-refused
returns-in_err-list-clause-refused c =
    passes_on c.from_residual-in_err-list.result c.in_err-list.field-0.0 c.args.source.now c.from_residual-in_err-list.ensures.1
    (c.in_err-list.ensures.refused c.args.source.now)

pub returns-clause-small : goal.returns-clause-small
returns-clause-small c = few_indices c.in_ok-list.list.ops.items c.in_ok-list.ensures.small

pub returns-clause-few : goal.returns-clause-few
returns-clause-few c =
    let text = c.in_ok-text.text in
    few_globals (program_of text.tree) text.facts c.in_ok-text.ensures.fits

pub returns-clause-replayable : goal.returns-clause-replayable
returns-clause-replayable c =
    let text = c.in_ok-text.text in
    let tree = program_of text.tree in
    let list = c.in_ok-list.list in
    let laid = laid_out c.args.source.now tree text.facts c.in_ok-text.ensures.checked c.in_ok-text.ensures.well_formed c.in_ok-text.ensures.small c.in_ok-text.ensures.fits
    c.texts_are_trim.ensures c.texts_are_proper.ensures in
    c.lists_can_be_replayed.ensures tree text.facts laid list.ops.items list.main c.in_ok-list.ensures.list c.in_ok-list.ensures.grouped
