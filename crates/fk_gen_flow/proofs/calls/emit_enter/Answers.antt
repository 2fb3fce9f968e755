-- The lines for the depth, for the private words and for the frame are the block.
use Rattle.std.proofs.Common.{◌++◌}
use Rattle.fk_asm.specs.Block.{GoesToMade}
use Rattle.fk_gen.proofs.Emitted.{on_err, on_ok, when_err, followed, bound_stays, added_both, begun_front, begun_behind}
use Rattle.fk_gen_flow.specs.Calls.{depth_lines, word_lines, frame_lines}
use Rattle.fk_gen_flow.proofs.Rows.{all_front, all_back}
use Rattle.fk_gen_flow.proofs.calls.emit_enter.Goals as goal

pub returns-in_err-emit_depth-clause-begun : goal.returns-in_err-emit_depth-clause-begun
returns-in_err-emit_depth-clause-begun c =
    on_err c.from_residual.result _
    (begun_front c.args.into.now c.emit_depth.new.into (depth_lines c.args.arguments c.args.depth c.args.site) (word_lines c.args.clears c.args.arguments ++ frame_lines c.args.back) c.in_err-emit_depth.ensures.begun)

pub emit_words-requires-clause-labels : goal.emit_words-requires-clause-labels
emit_words-requires-clause-labels c =
    let made = GoesToMade c.args.into.now.bound in
    let xs = depth_lines c.args.arguments c.args.depth c.args.site in
    let ys = word_lines c.args.clears c.args.arguments in
    bound_stays c.args.into.now c.emit_depth.new.into xs ys c.in_ok-emit_depth.ensures.added
    (all_front made ys (frame_lines c.args.back) (all_back made xs (ys ++ frame_lines c.args.back) c.requires.labels))

pub returns-in_err-emit_words-clause-begun : goal.returns-in_err-emit_words-clause-begun
returns-in_err-emit_words-clause-begun c =
    let ys = word_lines c.args.clears c.args.arguments in
    on_err c.from_residual-in_err-emit_words.result _
    (begun_behind c.args.into.now c.emit_depth.new.into c.emit_words.new.into (depth_lines c.args.arguments c.args.depth c.args.site) (ys ++ frame_lines c.args.back) c.in_ok-emit_depth.ensures.added
    (begun_front c.emit_depth.new.into c.emit_words.new.into ys (frame_lines c.args.back) c.in_err-emit_words.ensures.begun))

pub emit_frame-requires-clause-labels : goal.emit_frame-requires-clause-labels
emit_frame-requires-clause-labels c =
    let made = GoesToMade c.args.into.now.bound in
    let xs = depth_lines c.args.arguments c.args.depth c.args.site in
    let ys = word_lines c.args.clears c.args.arguments in
    let zs = frame_lines c.args.back in
    bound_stays c.emit_depth.new.into c.emit_words.new.into ys zs c.in_ok-emit_words.ensures.added
    (bound_stays c.args.into.now c.emit_depth.new.into xs zs c.in_ok-emit_depth.ensures.added
    (all_back made ys zs (all_back made xs (ys ++ zs) c.requires.labels)))

pub emit_frame-requires-clause-free : goal.emit_frame-requires-clause-free
emit_frame-requires-clause-free c =
    followed c.emit_depth.new.into c.emit_words.new.into (word_lines c.args.clears c.args.arguments)
    (followed c.args.into.now c.emit_depth.new.into (depth_lines c.args.arguments c.args.depth c.args.site) c.requires.free c.in_ok-emit_depth.ensures.added)
    c.in_ok-emit_words.ensures.added

pub returns-clause-added : goal.returns-clause-added
returns-clause-added c =
    let ys = word_lines c.args.clears c.args.arguments in
    on_ok c.emit_frame.result _ _
    (λ e. added_both c.args.into.now c.emit_depth.new.into c.emit_frame.new.into (depth_lines c.args.arguments c.args.depth c.args.site) (ys ++ frame_lines c.args.back) c.in_ok-emit_depth.ensures.added
    (added_both c.emit_depth.new.into c.emit_words.new.into c.emit_frame.new.into ys (frame_lines c.args.back) c.in_ok-emit_words.ensures.added e))
    c.emit_frame.ensures.added

pub returns-clause-begun : goal.returns-clause-begun
returns-clause-begun c =
    let ys = word_lines c.args.clears c.args.arguments in
    when_err c.emit_frame.result _ _
    (λ b. begun_behind c.args.into.now c.emit_depth.new.into c.emit_frame.new.into (depth_lines c.args.arguments c.args.depth c.args.site) (ys ++ frame_lines c.args.back) c.in_ok-emit_depth.ensures.added
    (begun_behind c.emit_depth.new.into c.emit_words.new.into c.emit_frame.new.into ys (frame_lines c.args.back) c.in_ok-emit_words.ensures.added b))
    c.emit_frame.ensures.begun
