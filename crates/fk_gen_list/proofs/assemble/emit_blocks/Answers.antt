use Rattle.std.proofs.Common.{◌≡◌, ◌+◌, ◌^◌, ◌<◌, ◌∙◌, All, ap, sym, subst, length, arith}
use Rattle.std.proofs.lemmas.List.{length-set}
use Rattle.std.proofs.lemmas.List.Elements.{All-get_or}
use Rattle.fk_core.specs.declared.op.CoreOp.{CoreOp}
use Rattle.fk_asm.specs.Block.{GoesToMade}
use Rattle.fk_asm.specs.Block.{with_block}
use Rattle.fk_gen_list.specs.Layout.{all_placed}
use Rattle.fk_gen_list.proofs.Blocks.{at_start, at_end, has_room, one_more, unbound}
use Rattle.fk_gen_list.proofs.AllPlaced.{length-placed, placed_here, goes_still}
use Rattle.fk_gen_list.proofs.assemble.emit_blocks.Goals as goal

abbrev none : CoreOp
none = record { kind = 0; site = 0; number = 0; target = 0; depth = 0 }

pub bind-requires : goal.bind-requires
bind-requires g c =
    let all = all_placed c.args.globals c.args.kept.now c.args.saved.now c.args.ops.now in
    let count = length-placed c.args.ops.now c.args.globals c.args.kept.now c.args.saved.now 0 c.args.ops.now in
    let test = c.loop-i-test.true in
    let made = c.requires.made in
    record { unbound = unbound g.B.Blocks.block all c.loop-i.i c.args.into.now c.loop-i.into c.loop-i.invariant (omega (arith, count, made)) (omega (arith, count, test)) }

pub emit_op-requires-clause-known : goal.emit_op-requires-clause-known
emit_op-requires-clause-known g c =
    let p = c.placed.result in
    let all = all_placed c.args.globals c.args.kept.now c.args.saved.now c.args.ops.now in
    let count = length-placed c.args.ops.now c.args.globals c.args.kept.now c.args.saved.now 0 c.args.ops.now in
    let test = c.loop-i-test.true in
    subst g.B.Blocks.has_block (placed_here c.args.ops.now c.args.globals c.args.kept.now c.args.saved.now c.args.ops.now c.loop-i.i none p p c.loop-i-test.true c.placed.ensures)
    (All-get_or g.B.Blocks.has_block all c.loop-i.i p (omega (arith, count, test)) c.requires.known)

pub emit_op-requires-clause-labels : goal.emit_op-requires-clause-labels
emit_op-requires-clause-labels g c =
    let p = c.placed.result in
    let all = all_placed c.args.globals c.args.kept.now c.args.saved.now c.args.ops.now in
    let count = length-placed c.args.ops.now c.args.globals c.args.kept.now c.args.saved.now 0 c.args.ops.now in
    let test = c.loop-i-test.true in
    let same : length c.args.into.now.bound ≡ length c.bind.new.self.bound =
    sym (ap (λ a. length a.bound) c.in_ok-bind.ensures.bound ∙ length-set c.loop-i.into.bound _ _ ∙ c.loop-i.invariant.count) in
    goes_still c.args.into.now.bound c.bind.new.self.bound (g.B.Blocks.block p) same
    (subst (λ q. All (GoesToMade c.args.into.now.bound) (g.B.Blocks.block q)) (placed_here c.args.ops.now c.args.globals c.args.kept.now c.args.saved.now c.args.ops.now c.loop-i.i none p p c.loop-i-test.true c.placed.ensures)
    (All-get_or (λ q. All (GoesToMade c.args.into.now.bound) (g.B.Blocks.block q)) all c.loop-i.i p (omega (arith, count, test)) c.requires.goes))

pub emit_op-requires-clause-room : goal.emit_op-requires-clause-room
emit_op-requires-clause-room g c =
    let p = c.placed.result in
    let all = all_placed c.args.globals c.args.kept.now c.args.saved.now c.args.ops.now in
    let count = length-placed c.args.ops.now c.args.globals c.args.kept.now c.args.saved.now 0 c.args.ops.now in
    let test = c.loop-i-test.true in
    let same : length c.bind.new.self.lines ≡ length c.loop-i.into.lines = ap (λ a. length a.lines) c.in_ok-bind.ensures.bound in
    subst (λ n. n + length (g.B.Blocks.block p) < 2 ^ 30) (sym same)
    (subst (λ q. length c.loop-i.into.lines + length (g.B.Blocks.block q) < 2 ^ 30) (placed_here c.args.ops.now c.args.globals c.args.kept.now c.args.saved.now c.args.ops.now c.loop-i.i none p p c.loop-i-test.true c.placed.ensures)
    (has_room g.B.Blocks.block all c.loop-i.i p c.args.into.now c.loop-i.into c.loop-i.invariant (omega (arith, count, test)) c.requires.room))

pub loop-i-init : goal.loop-i-init
loop-i-init g c =
    let count = length-placed c.args.ops.now c.args.globals c.args.kept.now c.args.saved.now 0 c.args.ops.now in
    at_start g.B.Blocks.block (all_placed c.args.globals c.args.kept.now c.args.saved.now c.args.ops.now) c.args.into.now c.requires.followed (λ j lt. c.requires.free j (omega (arith, count, lt)))

pub loop-i-preserved : goal.loop-i-preserved
loop-i-preserved g c =
    let p = c.placed.result in
    let all = all_placed c.args.globals c.args.kept.now c.args.saved.now c.args.ops.now in
    let count = length-placed c.args.ops.now c.args.globals c.args.kept.now c.args.saved.now 0 c.args.ops.now in
    let test = c.loop-i-test.true in
    let made = c.requires.made in
    let same = placed_here c.args.ops.now c.args.globals c.args.kept.now c.args.saved.now c.args.ops.now c.loop-i.i none p p c.loop-i-test.true c.placed.ensures in
    one_more g.B.Blocks.block all c.loop-i.i p c.args.into.now c.loop-i.into c.bind.new.self c.emit_op.new.into
    (omega (arith, count, test)) (omega (arith, count, made)) c.in_ok-bind.ensures.bound
    (c.in_ok-emit_op.ensures.added ∙ ap (λ q. with_block c.bind.new.self (g.B.Blocks.block q)) (sym same)) c.loop-i.invariant

pub returns-clause-added : goal.returns-clause-added
returns-clause-added g c =
    let count = length-placed c.args.ops.now c.args.globals c.args.kept.now c.args.saved.now 0 c.args.ops.now in
    let end = c.loop-i-test.false in
    at_end g.B.Blocks.block (all_placed c.args.globals c.args.kept.now c.args.saved.now c.args.ops.now) c.loop-i.i c.args.into.now c.loop-i.into (omega (arith, count, end)) c.loop-i.invariant
