use Rattle.std.proofs.Common.{◌≡◌, ◌≢◌, ◌+◌, ◌-◌, ◌++◌, sym, ap, subst, refl, ◌∙◌, append-nil, arith, rules}
use Rattle.std.specs.Io.KnownBytes.{append_known}
use Rattle.fk_ports.specs.Known.{TakesPrefix}
use Rattle.fk_ports.proofs.Given.{append_known-nil, append_known-append}
use Rattle.fk_machine.specs.declared.stand.Stand.TheVariants.{Running}
use Rattle.fk_machine.specs.Cycle.{Machine, is_running}
use Rattle.fk_machine.specs.Run.{after, output_in}
use Rattle.fk_machine.specs.Early.{StoppedEarly}
use Rattle.fk_machine.specs.View.{machine_of}
use Rattle.fk_machine.proofs.Runs.{begun-after, after-stopped, output_in-stopped, after-sum, output_in-sum, is_running-other}
use Rattle.fk_machine.proofs.machine.Machine.run_for.Goals as goal

pub loop-left-init : goal.loop-left-init
loop-left-init g c =
    let m = machine_of c.args.self.now in
    let before = g.K.Sink.taken c.args.out.now in
    let none : c.args.cycles - c.args.cycles ≡ 0 = omega arith in
    record {
      few = omega arith;
      ran = ap (λ i. after i m) (sym none);
      taken = sym (append_known-nil before) ∙ ap (λ i. append_known before (output_in i m)) (sym none);
      steady = refl;
      count = c.requires;
      code = refl;
    }

pub loop-left-preserved : goal.loop-left-preserved
loop-left-preserved g c =
    let start = machine_of c.args.self.now in
    let before = g.K.Sink.taken c.args.out.now in
    let m = machine_of c.loop-left.self in
    let now = g.K.Sink.taken c.loop-left.out in
    let r = c.run_quietly-left.result in
    let done = c.args.cycles - c.loop-left.left in
    let given = c.run_quietly-left.ensures in
    let so_far = c.loop-left.invariant in
    let sum : done + r ≡ c.args.cycles - (c.loop-left.left - r) = omega (arith, given.few, so_far.few) in
    record {
      few = omega (arith, so_far.few);
      ran = given.machine ∙ ap (after r) so_far.ran ∙ sym (after-sum start done r) ∙ ap (λ i. after i start) sum;
      taken =
          c.in_ok-give_all.ensures.all
          ∙ ap (append_known now) (c.deref.ensures.value ∙ sym given.output)
          ∙ ap (λ known. append_known known (output_in r m)) so_far.taken
          ∙ append_known-append before (output_in done start) (output_in r m)
          ∙ ap (λ (l : Machine). append_known before (output_in done start ++ output_in r l)) so_far.ran
          ∙ ap (append_known before) (sym (output_in-sum start done r) ∙ ap (λ i. output_in i start) sum);
      steady = c.in_ok-give_all.ensures.steady ∙ so_far.steady;
      count = omega (arith, begun-after m r, ap (λ (l : Machine). l.begun) given.machine, so_far.count, given.few);
      code = given.code ∙ so_far.code;
    }

pub returns-in_err-give_all-clause-early : goal.returns-in_err-give_all-clause-early
unfolding machine_of
returns-in_err-give_all-clause-early g c =
    let start = machine_of c.args.self.now in
    let before = g.K.Sink.taken c.args.out.now in
    let m = machine_of c.loop-left.self in
    let r = c.run_quietly-left.result in
    let done = c.args.cycles - c.loop-left.left in
    let given = c.run_quietly-left.ensures in
    let so_far = c.loop-left.invariant in
    let sum : done + r ≡ done + (r - 1) + 1 = omega (arith, given.some) in
    let still : output_in done start ≡ output_in (done + (r - 1)) start =
    sym (append-nil (output_in done start))
    ∙ ap (λ l. output_in done start ++ l) (sym (ap (output_in (r - 1)) (sym so_far.ran) ∙ given.quiet))
    ∙ sym (output_in-sum start done (r - 1)) in
    let took = subst (λ bytes. TakesPrefix (g.K.Sink.taken c.loop-left.out) (g.K.Sink.taken c.give_all.new.sink) bytes) c.deref.ensures.value c.in_err-give_all.ensures.prefix in
    let early : StoppedEarly c.args.cycles start (machine_of c.run_quietly-left.new.self) before (g.K.Sink.taken c.give_all.new.sink) =
    record {
      told = done + (r - 1);
      few = omega (arith, given.some, given.few, so_far.few);
      running = ap (λ (l : Machine). is_running l.stand) (after-sum start done (r - 1) ∙ ap (after (r - 1)) (sym so_far.ran)) ∙ given.before;
      machine = given.machine ∙ ap (after r) so_far.ran ∙ sym (after-sum start done r) ∙ ap (λ i. after i start) sum;
      taken =
          subst (λ known. TakesPrefix known (g.K.Sink.taken c.give_all.new.sink) c.run_quietly-left.new.self.shared.output.items)
          (so_far.taken ∙ ap (append_known before) still) took;
    } in
    search rules

pub returns-else-eq-clause-machine : goal.returns-else-eq-clause-machine
unfolding machine_of
returns-else-eq-clause-machine g c =
    let start = machine_of c.args.self.now in
    let done = c.args.cycles - c.loop-left.left in
    let other : c.loop-left.self.stand ≢ Running = search rules in
    let stopped = ap (λ (l : Machine). is_running l.stand) (sym c.loop-left.invariant.ran) ∙ is_running-other c.loop-left.self.stand other in
    c.loop-left.invariant.ran ∙ sym (after-stopped start done c.args.cycles (omega arith) stopped)

pub returns-else-eq-clause-output : goal.returns-else-eq-clause-output
unfolding machine_of
returns-else-eq-clause-output g c =
    let start = machine_of c.args.self.now in
    let done = c.args.cycles - c.loop-left.left in
    let other : c.loop-left.self.stand ≢ Running = search rules in
    let stopped = ap (λ (l : Machine). is_running l.stand) (sym c.loop-left.invariant.ran) ∙ is_running-other c.loop-left.self.stand other in
    c.loop-left.invariant.taken
    ∙ ap (append_known (g.K.Sink.taken c.args.out.now)) (sym (output_in-stopped start done c.args.cycles (omega arith) stopped))
