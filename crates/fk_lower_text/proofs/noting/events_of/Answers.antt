-- All that is shown of the code is counted, and then written down.
use Rattle.std.proofs.Common.{refl, arith}
use Rattle.fk_syntax.specs.ProgramView.{function_of}
use Rattle.fk_layout_walk.specs.Known.{functions_of}
use Rattle.fk_layout_walk_statements.specs.Texts.{code_in}
use Rattle.fk_lower_text.proofs.Counted.{exactly}
use Rattle.fk_lower_text.proofs.Noted.{all_noted}
use Rattle.fk_lower_text.proofs.noting.events_of.Goals as goal

pub returns-clause-events : goal.returns-clause-events
returns-clause-events c plain =
    let known = c.args.known.now in
    let code = code_in known (function_of c.args.whole.now) in
    let count = c.function.new.visitor in
    let n = exactly (functions_of known) code plain.0 count c.function.ensures c.if-count.false in
    let m = c.in-Ok.ensures.len in
    all_noted (functions_of known) code plain (record { events = c.in-Ok.events; filled = 0 })
    c.function-2.new.visitor c.function-2.ensures refl (omega (arith, n, m))
