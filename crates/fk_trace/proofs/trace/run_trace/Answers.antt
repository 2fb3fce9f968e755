use Rattle.std.proofs.Common.{◌++◌, length, sym, ap, subst, ◌∙◌, refl, inl, inr, arith}
use Rattle.std.specs.Io.KnownBytes.{append_known}
use Rattle.fk_ports.specs.Known.{TakesPrefix}
use Rattle.fk_ports.proofs.Given.{append_known-append, TakesPrefix-longer, TakesPrefix-after}
use Rattle.fk_ports.proofs.Pieces.{on_err}
use Rattle.fk_machine.specs.Cycle.{Machine}
use Rattle.fk_machine.specs.Run.{after, committed_in}
use Rattle.fk_machine.specs.View.{machine_of}
use Rattle.fk_trace.specs.Text.{first_lines, last_line, lines_from}
use Rattle.fk_trace.specs.Early.{StoppedInCycle, lines_in}
use Rattle.fk_trace.proofs.Whole.{told_trace, cut_trace, end_trace}
use Rattle.fk_trace.proofs.trace.run_trace.Goals as goal

pub trace_for-requires : goal.trace_for-requires
trace_for-requires g c = omega (arith, c.requires, c.ranges.bound.fits)

-- the first two lines
pub returns-in_err-give_first_lines-clause-early : goal.returns-in_err-give_first_lines-clause-early
returns-in_err-give_first_lines-clause-early g c =
    let m = machine_of c.args.machine.now in
    let part = subst (λ n. TakesPrefix (g.K.Sink.taken c.args.out.now) (g.K.Sink.taken c.give_first_lines.new.out) (first_lines n)) (sym c.harts.ensures.harts) c.in_err-give_first_lines.ensures.prefix in
    on_err c.from_residual.result _ (inl (refl, part))

pub returns-in_err-give_first_lines-clause-prefix : goal.returns-in_err-give_first_lines-clause-prefix
returns-in_err-give_first_lines-clause-prefix g c =
    let m = machine_of c.args.machine.now in
    let part = subst (λ n. TakesPrefix (g.K.Sink.taken c.args.out.now) (g.K.Sink.taken c.give_first_lines.new.out) (first_lines n)) (sym c.harts.ensures.harts) c.in_err-give_first_lines.ensures.prefix in
    let first = first_lines (length m.harts) in
    let lines = lines_from 1 (committed_in c.args.bound m) in
    on_err c.from_residual.result _
    (TakesPrefix-longer _ _ (first ++ lines) (last_line (length (committed_in c.args.bound m))) (TakesPrefix-longer _ _ first lines part))

-- the lines of a cycle
pub returns-in_err-trace_for-clause-early : goal.returns-in_err-trace_for-clause-early
returns-in_err-trace_for-clause-early g c =
    let m = machine_of c.args.machine.now in
    let first = c.in_ok-give_first_lines.ensures.all ∙ ap (λ n. append_known (g.K.Sink.taken c.args.out.now) (first_lines n)) (sym c.harts.ensures.harts) in
    let early = subst (λ known. StoppedInCycle c.args.bound m (machine_of c.trace_for.new.machine) known (g.K.Sink.taken c.trace_for.new.out)) first c.in_err-trace_for.ensures.early in
    on_err c.from_residual-in_err-trace_for.result _ (inr (inl early))

pub returns-in_err-trace_for-clause-prefix : goal.returns-in_err-trace_for-clause-prefix
returns-in_err-trace_for-clause-prefix g c =
    let m = machine_of c.args.machine.now in
    let first = c.in_ok-give_first_lines.ensures.all ∙ ap (λ n. append_known (g.K.Sink.taken c.args.out.now) (first_lines n)) (sym c.harts.ensures.harts) in
    let early = subst (λ known. StoppedInCycle c.args.bound m (machine_of c.trace_for.new.machine) known (g.K.Sink.taken c.trace_for.new.out)) first c.in_err-trace_for.ensures.early in
    on_err c.from_residual-in_err-trace_for.result _ (cut_trace c.args.bound m (machine_of c.trace_for.new.machine) _ _ c.requires early)

-- the last line
pub returns-in_err-give_last_line-clause-early : goal.returns-in_err-give_last_line-clause-early
returns-in_err-give_last_line-clause-early g c =
    let m = machine_of c.args.machine.now in
    let before = g.K.Sink.taken c.args.out.now in
    let told = told_trace c.args.bound m _ before _ _ (sym c.harts.ensures.harts) c.in_ok-give_first_lines.ensures.all c.in_ok-trace_for.ensures.lines in
    let part = subst (λ n. TakesPrefix (g.K.Sink.taken c.trace_for.new.out) (g.K.Sink.taken c.give_last_line.new.out) (last_line n)) c.cycles.ensures c.in_err-give_last_line.ensures.prefix in
    on_err c.from_residual-in_err-give_last_line.result _
    (inr (inr (
      c.in_ok-trace_for.ensures.machine,
      subst (λ known. TakesPrefix known (g.K.Sink.taken c.give_last_line.new.out) (last_line (machine_of c.trace_for.new.machine).begun)) told part,
    )))

pub returns-in_err-give_last_line-clause-prefix : goal.returns-in_err-give_last_line-clause-prefix
returns-in_err-give_last_line-clause-prefix g c =
    let m = machine_of c.args.machine.now in
    let before = g.K.Sink.taken c.args.out.now in
    let told = told_trace c.args.bound m _ before _ _ (sym c.harts.ensures.harts) c.in_ok-give_first_lines.ensures.all c.in_ok-trace_for.ensures.lines in
    let cycles = c.cycles.ensures ∙ ap (λ (l : Machine). l.begun) c.in_ok-trace_for.ensures.machine in
    let part = subst (λ n. TakesPrefix (g.K.Sink.taken c.trace_for.new.out) (g.K.Sink.taken c.give_last_line.new.out) (last_line n)) cycles c.in_err-give_last_line.ensures.prefix in
    on_err c.from_residual-in_err-give_last_line.result _
    (subst (TakesPrefix before (g.K.Sink.taken c.give_last_line.new.out)) (end_trace c.args.bound m c.requires) (TakesPrefix-after before _ _ (first_lines (length m.harts) ++ lines_in c.args.bound m) (last_line (after c.args.bound m).begun) told part))

-- all of it
pub returns-clause-trace : goal.returns-clause-trace
returns-clause-trace g c =
    let m = machine_of c.args.machine.now in
    let before = g.K.Sink.taken c.args.out.now in
    let told = told_trace c.args.bound m _ before _ _ (sym c.harts.ensures.harts) c.in_ok-give_first_lines.ensures.all c.in_ok-trace_for.ensures.lines in
    let cycles = c.cycles.ensures ∙ ap (λ (l : Machine). l.begun) c.in_ok-trace_for.ensures.machine in
    c.in_ok-give_last_line.ensures.all
    ∙ ap (λ n. append_known (g.K.Sink.taken c.trace_for.new.out) (last_line n)) cycles
    ∙ ap (λ known. append_known known (last_line (after c.args.bound m).begun)) told
    ∙ append_known-append before (first_lines (length m.harts) ++ lines_in c.args.bound m) (last_line (after c.args.bound m).begun)
    ∙ ap (append_known before) (end_trace c.args.bound m c.requires)
