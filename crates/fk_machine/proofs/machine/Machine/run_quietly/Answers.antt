use Rattle.std.proofs.Common.{◌≡◌, suc, sym, ap, ◌∙◌, arith, ◌+◌, ◌-◌, add-one}
use Rattle.fk_machine.specs.Cycle.{Machine, cycle, is_running}
use Rattle.fk_machine.specs.Run.{after, output_in}
use Rattle.fk_machine.specs.View.{machine_of, shared_of}
use Rattle.fk_machine.proofs.Runs.{begun-after, quiet, after-quiet, output_in-quiet, output_in-first, output_in-none, stand-quiet, running-before}
use Rattle.fk_machine.proofs.machine.Machine.run_quietly.Goals as goal

pub serve-stand-requires-clause-count : goal.serve-stand-requires-clause-count
unfolding machine_of
serve-stand-requires-clause-count c =
    let m = c.args.self.now in
    let cleared = ap (λ bytes. record (machine_of m) { shared = record (shared_of m.shared) { output = bytes } }) c.clear.ensures.items in
    let ran = ap (λ (l : Machine). l.begun) (c.loop-done.invariant.ran ∙ ap (after c.loop-done.done) cleared) in
    omega (arith, begun-after (quiet (machine_of m)) c.loop-done.done, ran, c.requires.count, c.loop-done-test.true)

pub returns-then-ne-clause-machine : goal.returns-then-ne-clause-machine
unfolding machine_of
returns-then-ne-clause-machine c =
    let m = c.args.self.now in
    let k = c.loop-done.done in
    let cleared = ap (λ bytes. record (machine_of m) { shared = record (shared_of m.shared) { output = bytes } }) c.clear.ensures.items in
    let running = ap is_running c.requires.running in
    let one : k + 1 ≡ suc k = add-one k in
    c.serve-stand.ensures.cycle
    ∙ ap cycle (c.loop-done.invariant.ran ∙ ap (after k) cleared)
    ∙ after-quiet (machine_of m) (suc k) (omega arith) running
    ∙ ap (λ i. after i (machine_of m)) (sym one)

pub returns-then-ne-clause-output : goal.returns-then-ne-clause-output
unfolding machine_of
returns-then-ne-clause-output c =
    let m = c.args.self.now in
    let k = c.loop-done.done in
    let cleared = ap (λ bytes. record (machine_of m) { shared = record (shared_of m.shared) { output = bytes } }) c.clear.ensures.items in
    let running = ap is_running c.requires.running in
    let ran = c.loop-done.invariant.ran ∙ ap (after k) cleared in
    let still = ap (λ (l : Machine). is_running l.stand) (sym ran) ∙ ap is_running c.loop-done.invariant.running in
    let none = ap (output_in k) (sym cleared) ∙ c.loop-done.invariant.printed in
    let one : k + 1 ≡ suc k = add-one k in
    ap (λ i. output_in i (machine_of m)) one
    ∙ sym (output_in-quiet (machine_of m) (suc k) running)
    ∙ output_in-first (quiet (machine_of m)) k still none
    ∙ ap (λ (l : Machine). l.shared.output) (ap cycle (sym ran) ∙ sym c.serve-stand.ensures.cycle)

pub returns-then-ne-clause-quiet : goal.returns-then-ne-clause-quiet
unfolding machine_of
returns-then-ne-clause-quiet c =
    let m = c.args.self.now in
    let k = c.loop-done.done in
    let cleared = ap (λ bytes. record (machine_of m) { shared = record (shared_of m.shared) { output = bytes } }) c.clear.ensures.items in
    let one : (k + 1) - 1 ≡ k = omega arith in
    ap (λ i. output_in i (machine_of m)) one
    ∙ sym (output_in-quiet (machine_of m) k (ap is_running c.requires.running))
    ∙ ap (output_in k) (sym cleared)
    ∙ c.loop-done.invariant.printed

pub returns-then-ne-clause-before : goal.returns-then-ne-clause-before
unfolding machine_of
returns-then-ne-clause-before c =
    let m = c.args.self.now in
    let k = c.loop-done.done in
    let cleared = ap (λ bytes. record (machine_of m) { shared = record (shared_of m.shared) { output = bytes } }) c.clear.ensures.items in
    let running = ap is_running c.requires.running in
    let ran = c.loop-done.invariant.ran ∙ ap (after k) cleared in
    let still = ap (λ (l : Machine). is_running l.stand) (sym ran) ∙ ap is_running c.loop-done.invariant.running in
    let one : (k + 1) - 1 ≡ k = omega arith in
    ap (λ i. is_running (after i (machine_of m)).stand) one
    ∙ ap is_running (sym (stand-quiet (machine_of m) k running))
    ∙ still

pub returns-clause-before : goal.returns-clause-before
unfolding machine_of
returns-clause-before c =
    let m = c.args.self.now in
    let cleared = ap (λ bytes. record (machine_of m) { shared = record (shared_of m.shared) { output = bytes } }) c.clear.ensures.items in
    let running = ap is_running c.requires.running in
    let end : c.loop-done.done ≡ c.args.cycles = omega (arith, c.loop-done-test.false, c.loop-done.auto.done-end) in
    let ran = c.loop-done.invariant.ran ∙ ap (after c.loop-done.done) cleared ∙ ap (λ i. after i (quiet (machine_of m))) end in
    let still = ap (λ (l : Machine). is_running l.stand) (sym ran) ∙ ap is_running c.loop-done.invariant.running in
    running-before (machine_of m) c.args.cycles (ap is_running (sym (stand-quiet (machine_of m) c.args.cycles running)) ∙ still)

pub returns-clause-machine : goal.returns-clause-machine
unfolding machine_of
returns-clause-machine c =
    let m = c.args.self.now in
    let cleared = ap (λ bytes. record (machine_of m) { shared = record (shared_of m.shared) { output = bytes } }) c.clear.ensures.items in
    let end : c.loop-done.done ≡ c.args.cycles = omega (arith, c.loop-done-test.false, c.loop-done.auto.done-end) in
    c.loop-done.invariant.ran
    ∙ ap (after c.loop-done.done) cleared
    ∙ ap (λ i. after i (quiet (machine_of m))) end
    ∙ after-quiet (machine_of m) c.args.cycles c.requires.some (ap is_running c.requires.running)

pub returns-clause-output : goal.returns-clause-output
unfolding machine_of
returns-clause-output c =
    let m = c.args.self.now in
    let cleared = ap (λ bytes. record (machine_of m) { shared = record (shared_of m.shared) { output = bytes } }) c.clear.ensures.items in
    let end : c.loop-done.done ≡ c.args.cycles = omega (arith, c.loop-done-test.false, c.loop-done.auto.done-end) in
    sym (output_in-quiet (machine_of m) c.args.cycles (ap is_running c.requires.running))
    ∙ ap (λ i. output_in i (quiet (machine_of m))) (sym end)
    ∙ ap (output_in c.loop-done.done) (sym cleared)
    ∙ c.loop-done.invariant.printed
    ∙ sym c.loop-done.invariant.unprinted

pub returns-clause-quiet : goal.returns-clause-quiet
unfolding machine_of
returns-clause-quiet c =
    let m = c.args.self.now in
    let cleared = ap (λ bytes. record (machine_of m) { shared = record (shared_of m.shared) { output = bytes } }) c.clear.ensures.items in
    let end : c.loop-done.done ≡ c.args.cycles = omega (arith, c.loop-done-test.false, c.loop-done.auto.done-end) in
    output_in-none (machine_of m) c.args.cycles
    (sym (output_in-quiet (machine_of m) c.args.cycles (ap is_running c.requires.running))
    ∙ ap (λ i. output_in i (quiet (machine_of m))) (sym end)
    ∙ ap (output_in c.loop-done.done) (sym cleared)
    ∙ c.loop-done.invariant.printed)
