use Rattle.std.proofs.Common.{◌^◌, ◌<◌, List, length, ◌∙◌, sym, ap, subst, arith}
use Rattle.fk_syntax.specs.ProgramView.{program_of}
use Rattle.fk_meaning_forms.specs.Program.{main_of}
use Rattle.fk_layout.specs.Layout.{tables_by}
use Rattle.fk_core.specs.declared.op.CoreOp.{CoreOp}
use Rattle.fk_compile.specs.Faithful.{firsts_by, words_by}
use Rattle.fk_replay.specs.Replay.{IsOrderly, IsSafe, schedule_in}
use Rattle.fk_replay_source.proofs.Passed.{same_answer}
use Rattle.fk_replay_source.proofs.program.replay.Goals as goal

pub replay_list-requires-clause-few : goal.replay_list-requires-clause-few
replay_list-requires-clause-few c = subst (λ (ops : List CoreOp). length ops < 2 ^ 32) (sym c.deref.ensures.value) c.requires.small

pub replay_list-requires-clause-words : goal.replay_list-requires-clause-words
replay_list-requires-clause-words c =
    let room = c.requires.room in
    let same = ap length (c.deref-2.ensures.value ∙ c.requires.laid.words) in
    omega (arith, room, same)

pub replay_list-requires-clause-orderly : goal.replay_list-requires-clause-orderly
replay_list-requires-clause-orderly c =
    let list = c.args.listed.now.list in
    subst (λ (ops : List CoreOp). IsOrderly ops list.main) (sym c.deref.ensures.value) c.requires.replayable.orderly

pub replay_list-requires-clause-safe : goal.replay_list-requires-clause-safe
replay_list-requires-clause-safe c =
    let list = c.args.listed.now.list in
    let words = c.deref-2.result.now in
    let firsts = c.deref-3.result.now in
    let room = c.requires.room in
    let same = ap length (c.deref-2.ensures.value ∙ c.requires.laid.words) in
    subst (λ (ops : List CoreOp). IsSafe ops list.main words firsts c.args.input.now c.args.trace.now.harts) (sym c.deref.ensures.value)
    (c.requires.replayable.safe words firsts c.args.input.now c.args.trace.now.harts (omega (arith, room, same)))

pub returns : goal.returns
returns c =
    let text = c.args.listed.now.text in
    let list = c.args.listed.now.list in
    let program = program_of text.tree in
    let tables = tables_by program text.facts in
    let words = words_by program text.facts in
    let firsts = firsts_by program text.facts in
    let has = c.requires.list in
    c.answers_are_carried.ensures tables program list.ops.items has.entry has.code words firsts c.args.input.now c.args.trace.now.harts (schedule_in c.args.trace.now) c.replay_list.result
    (same_answer list.ops.items c.deref.result.now list.main (has.entry (main_of tables program)) words c.deref-2.result.now firsts c.deref-3.result.now c.args.input.now c.args.trace.now.harts
    (schedule_in c.args.trace.now) c.replay_list.result c.deref.ensures.value has.begins (c.deref-2.ensures.value ∙ c.requires.laid.words) (c.deref-3.ensures.value ∙ c.requires.laid.firsts)
    c.replay_list.ensures)
