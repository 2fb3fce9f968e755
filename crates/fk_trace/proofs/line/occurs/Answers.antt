use Rattle.std.proofs.Common.{Bool, ◌<◌, length, sym, ap, ◌∙◌, arith}
use Rattle.fk_machine.specs.Run.{committed}
use Rattle.fk_machine.specs.View.{machine_of}
use Rattle.fk_trace.specs.Text.{Commit, number_in, shows}
use Rattle.fk_trace.proofs.Numbers.{none_yet, some_here, none_at_all}
use Rattle.fk_trace.proofs.line.occurs.Goals as goal

pub loop-hart-preserved : goal.loop-hart-preserved
loop-hart-preserved c =
    let column = c.args.column in
    let test : Commit → Bool = λ commit. shows column (number_in column commit) in
    let lt : c.loop-hart.hart < length (committed (machine_of c.args.machine.now)) = omega (arith, c.harts-hart-end.ensures.committed, c.loop-hart-test.true) in
    let here = sym (c.shows.ensures ∙ ap (shows column) (c.number_in.ensures ∙ ap (number_in column) c.committed.ensures)) ∙ c.if-shows.false in
    none_yet test (committed (machine_of c.args.machine.now)) c.loop-hart.hart lt c.loop-hart.invariant here

pub returns-then-shows : goal.returns-then-shows
returns-then-shows c =
    let column = c.args.column in
    let test : Commit → Bool = λ commit. shows column (number_in column commit) in
    let lt : c.loop-hart.hart < length (committed (machine_of c.args.machine.now)) = omega (arith, c.harts-hart-end.ensures.committed, c.loop-hart-test.true) in
    let here = sym (c.shows.ensures ∙ ap (shows column) (c.number_in.ensures ∙ ap (number_in column) c.committed.ensures)) ∙ c.if-shows.true in
    sym (some_here test (committed (machine_of c.args.machine.now)) c.loop-hart.hart lt here)

pub returns : goal.returns
returns c =
    let column = c.args.column in
    let test : Commit → Bool = λ commit. shows column (number_in column commit) in
    let commits = committed (machine_of c.args.machine.now) in
    sym (none_at_all test commits c.loop-hart.hart (omega (arith, c.harts-hart-end.ensures.committed, c.loop-hart-test.false)) c.loop-hart.invariant)
