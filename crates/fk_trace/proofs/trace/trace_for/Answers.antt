use Rattle.std.proofs.Common.{◌≡◌, ◌≢◌, suc, ◌+◌, ◌-◌, ◌++◌, true, sym, ap, subst, refl, ◌∙◌, arith, rules}
use Rattle.std.specs.Io.KnownBytes.{append_known}
use Rattle.fk_ports.specs.Known.{TakesPrefix}
use Rattle.fk_ports.proofs.Given.{append_known-nil, append_known-append}
use Rattle.fk_machine.specs.declared.stand.Stand.TheVariants.{Running}
use Rattle.fk_machine.specs.Cycle.{Machine, cycle, is_running}
use Rattle.fk_machine.specs.Run.{after, committed}
use Rattle.fk_machine.specs.View.{machine_of}
use Rattle.fk_machine.proofs.Runs.{after-stopped, is_running-other}
use Rattle.fk_trace.specs.Text.{cycle_lines}
use Rattle.fk_trace.specs.Early.{StoppedInCycle, lines_in}
use Rattle.fk_trace.proofs.Cycles.{lines_in-next, lines_in-stopped}
use Rattle.fk_trace.proofs.trace.trace_for.Goals as goal

pub loop-left-init : goal.loop-left-init
loop-left-init g c =
    let m = machine_of c.args.machine.now in
    let before = g.K.Sink.taken c.args.out.now in
    let none : c.args.cycles - c.args.cycles ≡ 0 = omega arith in
    record {
      few = omega arith;
      ran = ap (λ i. after i m) (sym none);
      taken = sym (append_known-nil before) ∙ ap (λ i. append_known before (lines_in i m)) (sym none);
      steady = refl;
      count = c.requires;
    }

pub loop-left-preserved : goal.loop-left-preserved
loop-left-preserved g c =
    let start = machine_of c.args.machine.now in
    let before = g.K.Sink.taken c.args.out.now in
    let done = c.args.cycles - c.loop-left.left in
    let so_far = c.loop-left.invariant in
    let new = machine_of c.cycle.new.self in
    let sum : suc done ≡ c.args.cycles - (c.loop-left.left - 1) = omega (arith, so_far.few) in
    let ran : new ≡ after (suc done) start = c.cycle.ensures.cycle ∙ ap cycle so_far.ran in
    let goes_on : (machine_of c.loop-left.machine).stand ≡ Running = search rules in
    let runs : is_running (after done start).stand ≡ true = ap (λ (l : Machine). is_running l.stand) (sym so_far.ran) ∙ ap is_running goes_on in
    record {
      few = omega (arith, so_far.few);
      ran = ran ∙ ap (λ i. after i start) sum;
      taken =
          c.in_ok-give_lines.ensures.all
          ∙ ap (λ known. append_known known (cycle_lines new.begun (committed new))) so_far.taken
          ∙ append_known-append before (lines_in done start) (cycle_lines new.begun (committed new))
          ∙ ap (λ (l : Machine). append_known before (lines_in done start ++ cycle_lines l.begun (committed l))) ran
          ∙ ap (append_known before) (sym (lines_in-next start done runs))
          ∙ ap (λ i. append_known before (lines_in i start)) sum;
      steady = c.in_ok-give_lines.ensures.steady ∙ so_far.steady;
      count = omega (arith, c.cycle.ensures.count, so_far.count, so_far.few);
    }

pub returns-in_err-give_lines-clause-early : goal.returns-in_err-give_lines-clause-early
returns-in_err-give_lines-clause-early g c =
    let start = machine_of c.args.machine.now in
    let before = g.K.Sink.taken c.args.out.now in
    let done = c.args.cycles - c.loop-left.left in
    let so_far = c.loop-left.invariant in
    let sum : suc done ≡ done + 1 = omega arith in
    let goes_on : (machine_of c.loop-left.machine).stand ≡ Running = search rules in
    let early : StoppedInCycle c.args.cycles start (machine_of c.cycle.new.self) before (g.K.Sink.taken c.give_lines.new.out) =
    record {
      told = done;
      few = omega (arith, so_far.few);
      running = ap (λ (l : Machine). is_running l.stand) (sym so_far.ran) ∙ ap is_running goes_on;
      machine = c.cycle.ensures.cycle ∙ ap cycle so_far.ran ∙ ap (λ i. after i start) sum;
      taken =
          subst (λ known. TakesPrefix known (g.K.Sink.taken c.give_lines.new.out) (cycle_lines (machine_of c.cycle.new.self).begun (committed (machine_of c.cycle.new.self))))
          so_far.taken c.in_err-give_lines.ensures.prefix;
    } in
    search rules

pub returns-else-eq-clause-machine : goal.returns-else-eq-clause-machine
returns-else-eq-clause-machine g c =
    let start = machine_of c.args.machine.now in
    let done = c.args.cycles - c.loop-left.left in
    let other : (machine_of c.loop-left.machine).stand ≢ Running = search rules in
    let stopped = ap (λ (l : Machine). is_running l.stand) (sym c.loop-left.invariant.ran) ∙ is_running-other (machine_of c.loop-left.machine).stand other in
    c.loop-left.invariant.ran ∙ sym (after-stopped start done c.args.cycles (omega arith) stopped)

pub returns-else-eq-clause-lines : goal.returns-else-eq-clause-lines
returns-else-eq-clause-lines g c =
    let start = machine_of c.args.machine.now in
    let done = c.args.cycles - c.loop-left.left in
    let other : (machine_of c.loop-left.machine).stand ≢ Running = search rules in
    let stopped = ap (λ (l : Machine). is_running l.stand) (sym c.loop-left.invariant.ran) ∙ is_running-other (machine_of c.loop-left.machine).stand other in
    c.loop-left.invariant.taken
    ∙ ap (append_known (g.K.Sink.taken c.args.out.now)) (sym (lines_in-stopped start done c.args.cycles (omega arith) stopped))
