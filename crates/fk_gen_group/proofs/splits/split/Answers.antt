-- The lines that find the part and the way to the shared code are the block.
use Rattle.std.proofs.Common.{map, arith, refl, length-append}
use Rattle.std.proofs.lemmas.List.{length-map}
use Rattle.fk_asm.specs.Block.{GoesToMade}
use Rattle.fk_gen.specs.Lines.{quiet}
use Rattle.fk_gen.proofs.Emitted.{on_err, on_ok, when_err, many_lines, followed, bound_stays, added_both, begun_front, begun_behind}
use Rattle.fk_gen_flow.proofs.Rows.{all_back}
use Rattle.fk_gen_group.specs.Splits.{part_lines, behind_part}
use Rattle.fk_gen_group.proofs.splits.split.Goals as goal

pub emit_part-requires-clause-room : goal.emit_part-requires-clause-room
emit_part-requires-clause-room c =
    let xs = part_lines c.args.by c.args.depth in
    let ys = behind_part c.args.by c.args.levels c.args.target c.args.site in
    let all = length-append (map quiet xs) ys in
    let same = length-map xs quiet in
    let room = c.requires.room in
    omega arith

pub returns-in_err-emit_part-clause-begun : goal.returns-in_err-emit_part-clause-begun
returns-in_err-emit_part-clause-begun c =
    let ys = behind_part c.args.by c.args.levels c.args.target c.args.site in
    on_err c.from_residual.result _
    (begun_front c.args.into.now c.emit_part.new.into (map quiet (part_lines c.args.by c.args.depth)) ys c.in_err-emit_part.ensures.begun)

pub emit_parting-requires-clause-labels : goal.emit_parting-requires-clause-labels
emit_parting-requires-clause-labels c =
    let made = GoesToMade c.args.into.now.bound in
    let xs = map quiet (part_lines c.args.by c.args.depth) in
    let ys = behind_part c.args.by c.args.levels c.args.target c.args.site in
    (bound_stays c.args.into.now c.emit_part.new.into xs ys c.in_ok-emit_part.ensures.added (all_back made xs ys c.requires.labels))

pub emit_parting-requires-clause-room : goal.emit_parting-requires-clause-room
emit_parting-requires-clause-room c =
    let xs = map quiet (part_lines c.args.by c.args.depth) in
    let ys = behind_part c.args.by c.args.levels c.args.target c.args.site in
    let all = length-append xs ys in
    let more = many_lines c.args.into.now c.emit_part.new.into xs _ c.in_ok-emit_part.ensures.added refl in
    let room = c.requires.room in
    omega arith

pub emit_parting-requires-clause-free : goal.emit_parting-requires-clause-free
emit_parting-requires-clause-free c =
    followed c.args.into.now c.emit_part.new.into (map quiet (part_lines c.args.by c.args.depth)) c.requires.free c.in_ok-emit_part.ensures.added

pub returns-clause-added : goal.returns-clause-added
returns-clause-added c =
    let xs = map quiet (part_lines c.args.by c.args.depth) in
    let ys = behind_part c.args.by c.args.levels c.args.target c.args.site in
    on_ok c.emit_parting.result _ _
    (added_both c.args.into.now c.emit_part.new.into c.emit_parting.new.into xs ys c.in_ok-emit_part.ensures.added)
    c.emit_parting.ensures.added

pub returns-clause-begun : goal.returns-clause-begun
returns-clause-begun c =
    let xs = map quiet (part_lines c.args.by c.args.depth) in
    let ys = behind_part c.args.by c.args.levels c.args.target c.args.site in
    when_err c.emit_parting.result _ _
    (begun_behind c.args.into.now c.emit_part.new.into c.emit_parting.new.into xs ys c.in_ok-emit_part.ensures.added)
    c.emit_parting.ensures.begun
