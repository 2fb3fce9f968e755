use Rattle.std.proofs.Common.{◌≡◌, get_or, None, ap, ◌∙◌, arith}
use Rattle.std.specs.Prelude.{if◌then◌else◌}
use Rattle.std.proofs.lemmas.List.{drop_more}
use Rattle.fk_core.specs.declared.op.CoreOp.{CoreOp}
use Rattle.fk_core_levels.specs.Count.{read, here, after, inside}
use Rattle.fk_core_levels.specs.Forks.{Parts, come_to, fork_of, leave}
use Rattle.fk_core_levels.specs.Open.{parts_of}
use Rattle.fk_core_levels.proofs.Telling.{few_after, few_inside, told_next}
use Rattle.fk_core_levels.proofs.pass.told.Goals as goal

abbrev none : CoreOp
none = record { kind = 0; site = 0; number = 0; target = 0; depth = 0 }

pub loop-op-preserved : goal.loop-op-preserved
loop-op-preserved c =
    let ops = c.args.ops.now in
    let i = c.loop-op.op-index in
    let op = get_or ops i none in
    let test = c.loop-op-test.true in
    let told = c.loop-op.invariant in
    let count : c.here-count.result ≡ here c.loop-op.parts (read op) = c.here-count.ensures in
    let nest : c.here-nest.result ≡ here c.loop-op.around (read op) = c.here-nest.ensures in
    let parts : c.after-parts.result ≡ after (here c.loop-op.parts (read op)) (read op) = c.after-parts.ensures ∙ ap (λ k. after k (read op)) count in
    let around : c.inside-around.result ≡ inside (here c.loop-op.around (read op)) (read op) = c.inside-around.ensures ∙ ap (λ k. inside k (read op)) nest in
    let there : parts_of c.come_to.new.self ≡ come_to (read op) (parts_of c.loop-op.open) = c.come_to.ensures in
    let fork : c.fork_in_call.result ≡ (if c.loop-op.opening then None else fork_of (come_to (read op) (parts_of c.loop-op.open)).parts) =
    c.fork_in_call.ensures ∙ ap (λ k. if c.loop-op.opening then None else k) (c.fork.ensures ∙ ap (λ (q : Parts). fork_of q.parts) there) in
    let left : parts_of c.leave.new.self ≡ leave (read op) (come_to (read op) (parts_of c.loop-op.open)) = c.in_ok-leave.ensures ∙ ap (leave (read op)) there in
    let few = few_after c.loop-op.parts (read op) in
    let few_around = few_inside c.loop-op.around (read op) in
    let low = told.1 in
    let low_around = told.2 in (
      told_next ops i op c.loop-op.parts c.loop-op.around (parts_of c.loop-op.open) c.loop-op.opening c.loop-op.saved.items _ (drop_more ops i none test) told.0 c.push.new.self.items _ _ _ _ _ _ _ _
          c.in_ok-push.ensures.items (c.in_call.ensures ∙ ap (λ k. if c.loop-op.opening then 0 else k) count) c.named.ensures
          (c.in_call-in-loop-op.ensures ∙ ap (λ k. if c.loop-op.opening then 0 else k) nest) fork parts around left c.opens-opening.ensures,
      omega (arith, parts, few, low),
      omega (arith, around, few_around, low_around),
    )
