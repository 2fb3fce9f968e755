use Rattle.std.proofs.Common.{◌≡◌, ◌≤◌, length, map, Some, vec_len, arith}
use Rattle.fk_isa.specs.Find.{row}
use Rattle.fk_asm.specs.declared.code.Code.{Code}
use Rattle.fk_asm.specs.Assembly.{instructions}
use Rattle.fk_gen_list.specs.Generable.{DoesTheList, GivesWholeCode}
use Rattle.fk_gen_list.proofs.Done.{does_the_list, stands}
use Rattle.fk_gen_list.proofs.Steps.{if_ok_two}
use Rattle.fk_gen_list.proofs.Whole.{few_words, lines_bound, lines_near, count_lines}
use Rattle.fk_gen_list.proofs.code.assemble_list.Goals as goal

pub finish-requires-clause-bound : goal.finish-requires-clause-bound
finish-requires-clause-bound c =
    lines_bound c.args.ops.now c.args.kept.now c.args.saved.now c.args.main c.args.firsts.now c.args.globals c.requires.list c.requires.small c.in_ok-laid.laid c.in_ok-laid.ensures.laid

pub finish-requires-clause-near : goal.finish-requires-clause-near
finish-requires-clause-near c =
    lines_near c.args.ops.now c.args.kept.now c.args.saved.now c.args.main c.args.firsts.now c.args.globals c.requires.list c.requires.small c.in_ok-laid.laid c.in_ok-laid.ensures.laid

pub returns-clause-law : goal.returns-clause-law
returns-clause-law c =
    let laid = c.in_ok-laid.laid in
    if_ok_two c.finish.result (λ (code : Code). map row code.words.items ≡ map Some (instructions laid.bound laid.lines))
    (λ (code : Code). code.commits.items ≡ laid.commits)
    (DoesTheList c.args.ops.now c.args.kept.now c.args.main c.args.firsts.now c.args.globals)
    (λ code rows commits. does_the_list c.args.ops.now c.args.kept.now c.args.saved.now c.args.main c.args.firsts.now c.args.globals c.requires.list c.requires.globals
    c.requires.small laid c.in_ok-laid.ensures.laid code rows commits)
    c.finish.ensures.rows c.finish.ensures.commits

pub returns-clause-stands : goal.returns-clause-stands
returns-clause-stands c =
    let laid = c.in_ok-laid.laid in
    if_ok_two c.finish.result (λ (code : Code). map row code.words.items ≡ map Some (instructions laid.bound laid.lines))
    (λ (code : Code). code.commits.items ≡ laid.commits)
    (GivesWholeCode c.args.ops.now c.args.kept.now c.args.saved.now c.args.main c.args.firsts.now c.args.globals)
    (λ code rows commits. stands c.args.ops.now c.args.kept.now c.args.saved.now c.args.main c.args.firsts.now c.args.globals c.requires.list c.requires.globals
    c.requires.small laid c.in_ok-laid.ensures.laid code rows commits)
    c.finish.ensures.rows c.finish.ensures.commits

pub returns-clause-few : goal.returns-clause-few
returns-clause-few c =
    let laid = c.in_ok-laid.laid in
    let count = count_lines c.args.ops.now c.args.kept.now c.args.saved.now c.args.main c.args.firsts.now c.args.globals c.requires.list c.requires.small laid c.in_ok-laid.ensures.laid in
    let few = few_words c.args.ops.now c.args.kept.now c.args.saved.now c.args.main c.args.firsts.now c.args.globals c.requires.list c.requires.small in
    if_ok_two c.finish.result (λ (code : Code). vec_len code.words ≡ length laid.lines) (λ (code : Code). vec_len code.words ≡ length laid.lines)
    (λ (code : Code). vec_len code.words ≤ 262144) (λ code same again. omega arith)
    c.finish.ensures.count c.finish.ensures.count
