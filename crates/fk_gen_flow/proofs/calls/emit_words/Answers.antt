-- What is cleared, and the arguments behind it.
use Rattle.std.specs.Prelude.{◌==◌}
use Rattle.fk_asm.specs.Block.{GoesToMade}
use Rattle.fk_gen.proofs.Emitted.{on_err, on_ok, when_err, bound_stays, added_both, begun_front, begun_behind}
use Rattle.fk_gen_flow.specs.Calls.{argument_lines, clears_by}
use Rattle.fk_gen_flow.proofs.Rows.{all_front, all_back}
use Rattle.fk_gen_flow.proofs.calls.emit_words.Goals as goal

pub emit_clears-requires-clause-labels : goal.emit_clears-requires-clause-labels
emit_clears-requires-clause-labels c =
    all_front (GoesToMade c.args.into.now.bound) (clears_by (c.args.clears == 0) c.args.clears) (argument_lines c.args.clears c.args.arguments) c.requires.labels

pub returns-in_err-emit_clears-clause-begun : goal.returns-in_err-emit_clears-clause-begun
returns-in_err-emit_clears-clause-begun c =
    on_err c.from_residual.result _
    (begun_front c.args.into.now c.emit_clears.new.into (clears_by (c.args.clears == 0) c.args.clears) (argument_lines c.args.clears c.args.arguments) c.in_err-emit_clears.ensures.begun)

pub emit_arguments-requires-clause-labels : goal.emit_arguments-requires-clause-labels
emit_arguments-requires-clause-labels c =
    let xs = clears_by (c.args.clears == 0) c.args.clears in
    let ys = argument_lines c.args.clears c.args.arguments in
    bound_stays c.args.into.now c.emit_clears.new.into xs ys c.in_ok-emit_clears.ensures.added
    (all_back (GoesToMade c.args.into.now.bound) xs ys c.requires.labels)

pub returns-clause-added : goal.returns-clause-added
returns-clause-added c =
    on_ok c.emit_arguments.result _ _
    (λ e. added_both c.args.into.now c.emit_clears.new.into c.emit_arguments.new.into (clears_by (c.args.clears == 0) c.args.clears) (argument_lines c.args.clears c.args.arguments)
    c.in_ok-emit_clears.ensures.added e)
    c.emit_arguments.ensures.added

pub returns-clause-begun : goal.returns-clause-begun
returns-clause-begun c =
    when_err c.emit_arguments.result _ _
    (λ b. begun_behind c.args.into.now c.emit_clears.new.into c.emit_arguments.new.into (clears_by (c.args.clears == 0) c.args.clears) (argument_lines c.args.clears c.args.arguments)
    c.in_ok-emit_clears.ensures.added b)
    c.emit_arguments.ensures.begun
