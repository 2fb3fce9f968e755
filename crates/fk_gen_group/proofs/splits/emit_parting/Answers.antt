-- The way to the shared code and what follows it are what is behind the lines of the part.
use Rattle.std.proofs.Common.{All, ◌≡◌, sym, subst, arith, refl, length-append}
use Rattle.fk_asm.specs.Block.{GoesToMade, HasBegun, with_block}
use Rattle.fk_gen.proofs.Emitted.{on_err, on_ok, when_err, many_lines, followed, added_both, begun_front, begun_behind}
use Rattle.fk_gen_flow.proofs.Rows.{all_front}
use Rattle.fk_gen_group.specs.Splits.{parting_lines, parts_label, level_word, heading_lines}
use Rattle.fk_gen_group.proofs.splits.emit_parting.Goals as goal

pub emit_way-requires-clause-labels : goal.emit_way-requires-clause-labels
emit_way-requires-clause-labels c =
    let made = GoesToMade c.args.into.now.bound in
    let word = level_word c.args.levels c.args.levels.count in
    let xs = parting_lines (parts_label c.args.by) word c.args.target c.args.site in
    subst (λ l. All made (parting_lines l word c.args.target c.args.site)) (sym c.parts_label.ensures.exact)
    (all_front made xs (heading_lines c.args.by c.args.levels) c.requires.labels)

pub emit_way-requires-clause-room : goal.emit_way-requires-clause-room
emit_way-requires-clause-room c =
    let word = level_word c.args.levels c.args.levels.count in
    let xs = parting_lines (parts_label c.args.by) word c.args.target c.args.site in
    let ys = heading_lines c.args.by c.args.levels in
    let all = length-append xs ys in
    let room = c.requires.room in
    omega arith

pub returns-in_err-emit_way-clause-begun : goal.returns-in_err-emit_way-clause-begun
returns-in_err-emit_way-clause-begun c =
    let word = level_word c.args.levels c.args.levels.count in
    let xs = parting_lines (parts_label c.args.by) word c.args.target c.args.site in
    on_err c.from_residual.result _
    (begun_front c.args.into.now c.emit_way.new.into xs (heading_lines c.args.by c.args.levels)
    (subst (λ l. HasBegun (parting_lines l word c.args.target c.args.site) c.args.into.now c.emit_way.new.into) c.parts_label.ensures.exact c.in_err-emit_way.ensures.begun))

pub emit_heading-requires-clause-room : goal.emit_heading-requires-clause-room
emit_heading-requires-clause-room c =
    let word = level_word c.args.levels c.args.levels.count in
    let xs = parting_lines (parts_label c.args.by) word c.args.target c.args.site in
    let ys = heading_lines c.args.by c.args.levels in
    let all = length-append xs ys in
    let more = many_lines c.args.into.now c.emit_way.new.into (parting_lines c.parts_label.result word c.args.target c.args.site) _ c.in_ok-emit_way.ensures.added refl in
    let room = c.requires.room in
    omega arith

pub emit_heading-requires-clause-free : goal.emit_heading-requires-clause-free
emit_heading-requires-clause-free c =
    let word = level_word c.args.levels c.args.levels.count in
    followed c.args.into.now c.emit_way.new.into (parting_lines c.parts_label.result word c.args.target c.args.site) c.requires.free c.in_ok-emit_way.ensures.added

pub returns-clause-added : goal.returns-clause-added
returns-clause-added c =
    let word = level_word c.args.levels c.args.levels.count in
    let xs = parting_lines (parts_label c.args.by) word c.args.target c.args.site in
    on_ok c.emit_heading.result _ _
    (added_both c.args.into.now c.emit_way.new.into c.emit_heading.new.into xs (heading_lines c.args.by c.args.levels)
    (subst (λ l. c.emit_way.new.into ≡ with_block c.args.into.now (parting_lines l word c.args.target c.args.site)) c.parts_label.ensures.exact c.in_ok-emit_way.ensures.added))
    c.emit_heading.ensures.added

pub returns-clause-begun : goal.returns-clause-begun
returns-clause-begun c =
    let word = level_word c.args.levels c.args.levels.count in
    let xs = parting_lines (parts_label c.args.by) word c.args.target c.args.site in
    when_err c.emit_heading.result _ _
    (begun_behind c.args.into.now c.emit_way.new.into c.emit_heading.new.into xs (heading_lines c.args.by c.args.levels)
    (subst (λ l. c.emit_way.new.into ≡ with_block c.args.into.now (parting_lines l word c.args.target c.args.site)) c.parts_label.ensures.exact c.in_ok-emit_way.ensures.added))
    c.emit_heading.ensures.begun
