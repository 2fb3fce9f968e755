use Rattle.std.proofs.Common.{◌≡◌, ◌≢◌, ℕ, suc, ◌+◌, true, cond, refl, sym, ap, subst, ◌∙◌, add-one, arith, rules}
use Rattle.fk_machine.specs.declared.stand.Stand.TheVariants.{Running}
use Rattle.fk_machine.specs.Cycle.{Machine, cycle, is_running, after_turns, turns_of}
use Rattle.fk_machine.specs.Run.{after}
use Rattle.fk_machine.specs.View.{machine_of}
use Rattle.fk_machine.proofs.Runs.{after-stopped, is_running-other}
use Rattle.fk_audit.specs.declared.access.AccessKind.TheVariants.{Read, Write}
use Rattle.fk_audit.specs.Clash.{Clashes, IsFirstOf}
use Rattle.fk_audit.specs.Mark.{AreUpTo, IsLeast, first_of}
use Rattle.fk_audit.proofs.First.{first_none, first_more, first_stays}
use Rattle.fk_audit.proofs.audit.run_audit.Goals as goal

pub loop-done-init : goal.loop-done-init
loop-done-init c =
    let m = machine_of c.args.machine.now in
    record {
      ran = refl;
      begun = c.requires.unbegun;
      marks = subst (λ (n : ℕ). AreUpTo n c.args.marks) (sym c.requires.unbegun) c.requires.unmarked;
      read = first_none Read m;
      write = first_none Write m;
    }

pub loop-done-preserved : goal.loop-done-preserved
loop-done-preserved c =
    let start = machine_of c.args.machine.now in
    let m = machine_of c.loop-done.machine in
    let done = c.loop-done.done in
    let so_far = c.loop-done.invariant in
    let least = c.run_cycle-least.ensures in
    let runs : c.stand.result ≡ Running = search rules in
    let running : is_running m.stand ≡ true = ap is_running (sym c.stand.ensures ∙ runs) in
    let still = ap (λ (l : Machine). is_running l.stand) (sym so_far.ran) ∙ running in
    let one : done + 1 ≡ suc done = add-one done in
    let begun : (cycle m).begun ≡ m.begun + 1 = ap (λ b. (cond b (after_turns m (turns_of m)) m).begun) running in
    record {
      ran = least.machine ∙ ap cycle so_far.ran ∙ ap (λ i. after i start) (sym one);
      begun = ap (λ (l : Machine). l.begun) least.machine ∙ begun ∙ ap (λ n. n + 1) so_far.begun;
      marks = least.marks;
      read =
          subst (IsFirstOf Read start (done + 1)) (sym c.first_of.ensures)
          (subst (λ (k : ℕ). IsFirstOf Read start k (first_of c.loop-done.verdict.read (done + 1) c.run_cycle-least.result.read)) (sym one)
          (first_more Read start done c.loop-done.verdict.read c.run_cycle-least.result.read still (subst (λ (l : Machine). IsLeast (Clashes Read l) c.run_cycle-least.result.read) so_far.ran least.read) so_far.read));
      write =
          subst (IsFirstOf Write start (done + 1)) (sym c.first_of-in-loop-done.ensures)
          (subst (λ (k : ℕ). IsFirstOf Write start k (first_of c.loop-done.verdict.write (done + 1) c.run_cycle-least.result.write)) (sym one)
          (first_more Write start done c.loop-done.verdict.write c.run_cycle-least.result.write still (subst (λ (l : Machine). IsLeast (Clashes Write l) c.run_cycle-least.result.write) so_far.ran least.write) so_far.write));
    }

pub returns-then-ne-clause-machine : goal.returns-then-ne-clause-machine
returns-then-ne-clause-machine c =
    let start = machine_of c.args.machine.now in
    let other : c.stand.result ≢ Running = search rules in
    let stopped = ap (λ (l : Machine). is_running l.stand) (sym c.loop-done.invariant.ran) ∙ ap is_running (sym c.stand.ensures) ∙ is_running-other c.stand.result other in
    let few = c.loop-done-test.true in
    c.loop-done.invariant.ran ∙ sym (after-stopped start c.loop-done.done c.args.bound (omega (arith, few)) stopped)

pub returns-then-ne-clause-read : goal.returns-then-ne-clause-read
returns-then-ne-clause-read c =
    let start = machine_of c.args.machine.now in
    let other : c.stand.result ≢ Running = search rules in
    let stopped = ap (λ (l : Machine). is_running l.stand) (sym c.loop-done.invariant.ran) ∙ ap is_running (sym c.stand.ensures) ∙ is_running-other c.stand.result other in
    let few = c.loop-done-test.true in
    first_stays Read start c.loop-done.done c.args.bound c.loop-done.verdict.read (omega (arith, few)) stopped c.loop-done.invariant.read

pub returns-then-ne-clause-write : goal.returns-then-ne-clause-write
returns-then-ne-clause-write c =
    let start = machine_of c.args.machine.now in
    let other : c.stand.result ≢ Running = search rules in
    let stopped = ap (λ (l : Machine). is_running l.stand) (sym c.loop-done.invariant.ran) ∙ ap is_running (sym c.stand.ensures) ∙ is_running-other c.stand.result other in
    let few = c.loop-done-test.true in
    first_stays Write start c.loop-done.done c.args.bound c.loop-done.verdict.write (omega (arith, few)) stopped c.loop-done.invariant.write

pub returns-clause-read : goal.returns-clause-read
returns-clause-read c =
    let end : c.loop-done.done ≡ c.args.bound = omega (arith, c.loop-done-test.false, c.loop-done.auto.done-end) in
    subst (λ (k : ℕ). IsFirstOf Read (machine_of c.args.machine.now) k c.loop-done.verdict.read) end c.loop-done.invariant.read

pub returns-clause-write : goal.returns-clause-write
returns-clause-write c =
    let end : c.loop-done.done ≡ c.args.bound = omega (arith, c.loop-done-test.false, c.loop-done.auto.done-end) in
    subst (λ (k : ℕ). IsFirstOf Write (machine_of c.args.machine.now) k c.loop-done.verdict.write) end c.loop-done.invariant.write
