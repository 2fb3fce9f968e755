-- What the frame has, where the frames end, and the way on are the block.
use Rattle.std.proofs.Common.{◌++◌, arith, refl, length-append}
use Rattle.fk_asm.specs.Block.{GoesToMade}
use Rattle.fk_gen.proofs.Emitted.{on_err, on_ok, when_err, many_lines, followed, bound_stays, added_both, begun_front, begun_behind}
use Rattle.fk_gen_flow.proofs.Rows.{all_back}
use Rattle.fk_gen_group.specs.Splits.{forked_front, frames_end, away_line}
use Rattle.fk_gen_group.proofs.splits.emit_out_of_fork.Goals as goal

pub emit_forked-requires-clause-room : goal.emit_forked-requires-clause-room
emit_forked-requires-clause-room c =
    let xs = forked_front c.args.word in
    let ys = frames_end c.args.count c.args.words ++ away_line c.args.target in
    let all = length-append xs ys in
    let room = c.requires.room in
    omega arith

pub returns-in_err-emit_forked-clause-begun : goal.returns-in_err-emit_forked-clause-begun
returns-in_err-emit_forked-clause-begun c =
    on_err c.from_residual.result _
    (begun_front c.args.into.now c.emit_forked.new.into (forked_front c.args.word) (frames_end c.args.count c.args.words ++ away_line c.args.target) c.in_err-emit_forked.ensures.begun)

pub emit_frames_end-requires-clause-room : goal.emit_frames_end-requires-clause-room
emit_frames_end-requires-clause-room c =
    let xs = forked_front c.args.word in
    let ys = frames_end c.args.count c.args.words in
    let all = length-append xs (ys ++ away_line c.args.target) in
    let both = length-append ys (away_line c.args.target) in
    let more = many_lines c.args.into.now c.emit_forked.new.into xs _ c.in_ok-emit_forked.ensures.added refl in
    let room = c.requires.room in
    omega arith

pub returns-in_err-emit_frames_end-clause-begun : goal.returns-in_err-emit_frames_end-clause-begun
returns-in_err-emit_frames_end-clause-begun c =
    let ys = frames_end c.args.count c.args.words in
    on_err c.from_residual-in_err-emit_frames_end.result _
    (begun_behind c.args.into.now c.emit_forked.new.into c.emit_frames_end.new.into (forked_front c.args.word) (ys ++ away_line c.args.target) c.in_ok-emit_forked.ensures.added
    (begun_front c.emit_forked.new.into c.emit_frames_end.new.into ys (away_line c.args.target) c.in_err-emit_frames_end.ensures.begun))

pub emit_away-requires-clause-labels : goal.emit_away-requires-clause-labels
emit_away-requires-clause-labels c =
    let made = GoesToMade c.args.into.now.bound in
    let xs = forked_front c.args.word in
    let ys = frames_end c.args.count c.args.words in
    bound_stays c.emit_forked.new.into c.emit_frames_end.new.into ys (away_line c.args.target) c.in_ok-emit_frames_end.ensures.added
    (bound_stays c.args.into.now c.emit_forked.new.into xs (away_line c.args.target) c.in_ok-emit_forked.ensures.added
    (all_back made ys (away_line c.args.target) (all_back made xs (ys ++ away_line c.args.target) c.requires.labels)))

pub emit_away-requires-clause-room : goal.emit_away-requires-clause-room
emit_away-requires-clause-room c =
    let xs = forked_front c.args.word in
    let ys = frames_end c.args.count c.args.words in
    let all = length-append xs (ys ++ away_line c.args.target) in
    let both = length-append ys (away_line c.args.target) in
    let more = many_lines c.args.into.now c.emit_forked.new.into xs _ c.in_ok-emit_forked.ensures.added refl in
    let further = many_lines c.emit_forked.new.into c.emit_frames_end.new.into ys _ c.in_ok-emit_frames_end.ensures.added refl in
    let room = c.requires.room in
    omega arith

pub emit_away-requires-clause-free : goal.emit_away-requires-clause-free
emit_away-requires-clause-free c =
    followed c.emit_forked.new.into c.emit_frames_end.new.into (frames_end c.args.count c.args.words)
    (followed c.args.into.now c.emit_forked.new.into (forked_front c.args.word) c.requires.free c.in_ok-emit_forked.ensures.added)
    c.in_ok-emit_frames_end.ensures.added

pub returns-clause-added : goal.returns-clause-added
returns-clause-added c =
    let ys = frames_end c.args.count c.args.words in
    on_ok c.emit_away.result _ _
    (λ e. added_both c.args.into.now c.emit_forked.new.into c.emit_away.new.into (forked_front c.args.word) (ys ++ away_line c.args.target) c.in_ok-emit_forked.ensures.added
    (added_both c.emit_forked.new.into c.emit_frames_end.new.into c.emit_away.new.into ys (away_line c.args.target) c.in_ok-emit_frames_end.ensures.added e))
    c.emit_away.ensures.added

pub returns-clause-begun : goal.returns-clause-begun
returns-clause-begun c =
    let ys = frames_end c.args.count c.args.words in
    when_err c.emit_away.result _ _
    (λ b. begun_behind c.args.into.now c.emit_forked.new.into c.emit_away.new.into (forked_front c.args.word) (ys ++ away_line c.args.target) c.in_ok-emit_forked.ensures.added
    (begun_behind c.emit_forked.new.into c.emit_frames_end.new.into c.emit_away.new.into ys (away_line c.args.target) c.in_ok-emit_frames_end.ensures.added b))
    c.emit_away.ensures.begun
